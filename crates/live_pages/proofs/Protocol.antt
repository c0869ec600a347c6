-- What holds between any two steps of the protocol.
use Rattle.std.proofs.Common.{◌≡◌, ℕ, Bool, true, false, List, [], ◌∷◌, refl, arith}
use Rattle.std.specs.Prelude.{not, ◌&&◌, ◌||◌, nat_lt}
use Rattle.live_pages.specs.Protocol.{World, HostAt, GuestAt, Move, host_is, guest_is, may, after, careful, are_moves, led_to, start, is_stuck}
use Rattle.live_pages.specs.Protocol.{idle, cleared, ending, post, look, skip, mark, fill, clear, drain, flags, eom}

abbrev pub world : Bool → Bool → Bool → ℕ → HostAt → GuestAt → World
world o p b n h g = record { occupied = o; pending = p; buffered = b; queued = n; host = h; guest = g }

-- a store in the buffer is that of a guest that clears an occupied slot; and while the host rests and a message waits,
-- the guest has seen MessagePending, or it is set where the guest will see it
abbrev pub kept : World → Bool
kept w =
    (not w.buffered || (w.occupied && guest_is w.guest cleared))
    && (not (host_is w.host idle && nat_lt 0 w.queued)
    || ((w.pending && (w.occupied || guest_is w.guest cleared)) || guest_is w.guest ending))

pub preserved : (x : Move) (o p b : Bool) (n : ℕ) (h : HostAt) (g : GuestAt) → kept (world o p b n h g) ≡ true
    → may careful (world o p b n h g) x ≡ true → kept (after careful (world o p b n h g) x) ≡ true
preserved post o p b n h g k m = grind arith
preserved look o p b n h g k m = grind arith
preserved skip o p b n h g k m = grind arith
preserved mark o p b n h g k m = grind arith
preserved fill o p b n h g k m = grind arith
preserved clear o p b n h g k m = grind arith
preserved drain o p b n h g k m = grind arith
preserved flags o p b n h g k m = grind arith
preserved eom o p b n h g k m = grind arith

-- what holds at rest is not stuck
free : (o p b : Bool) (n : ℕ) (h : HostAt) (g : GuestAt) → kept (world o p b n h g) ≡ true
    → is_stuck (world o p b n h g) ≡ false
free o p b n h g k = grind arith

both : (a b : Bool) → (a && b) ≡ true → (a ≡ true) × (b ≡ true)
both a b e = (grind arith, grind arith)

pub never_stuck : (w : World) (moves : List Move) → kept w ≡ true → are_moves careful w moves ≡ true
    → is_stuck (led_to careful w moves) ≡ false
never_stuck w [] k m = free w.occupied w.pending w.buffered w.queued w.host w.guest k
never_stuck w (x ∷ xs) k m =
    let parts = both (may careful w x) (are_moves careful (after careful w x) xs) m in
    never_stuck (after careful w x) xs
    (preserved x w.occupied w.pending w.buffered w.queued w.host w.guest k parts.0) parts.1

pub no_wake_up_is_missed : (moves : List Move) → are_moves careful start moves ≡ true
    → is_stuck (led_to careful start moves) ≡ false
no_wake_up_is_missed moves m = never_stuck start moves refl m
