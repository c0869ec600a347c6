-- The words of a header move as the protocol says.
use Rattle.std.proofs.Common.{◌≡◌, ℕ, ◌-◌, ◌%◌, ◌/◌, ◌^◌, Bool, true, false, List, [], ◌∷◌, refl, sym, ap, ◌∙◌, arith}
use Rattle.std.specs.Prelude.{not, ◌&&◌, ◌||◌, nat_lt, ◌==◌, bit_or, if◌then◌else◌}
use mir.Syntax.{w64}
use Rattle.std.specs.Int.Bits.{or_zero_r}
use Rattle.std.proofs.lemmas.Nat.{or_mod}
use Rattle.std.proofs.lemmas.Nat.Bits.{bit_at_set_same}
use Rattle.live_pages.specs.Words.{type_of, is_pending, pending_mask}
use Rattle.live_pages.specs.Protocol as protocol
use Rattle.live_pages.specs.Headers.{Slot, Step, is_occupied, may, after, are_steps, led_to, start, is_stuck, NoWakeUpIsMissed, posts, looks, skips, marks, fills, clears, drains, sees, ends}
use Rattle.live_pages.proofs.Protocol.{kept, preserved, never_stuck}

abbrev pub world_of : Slot → protocol.World
world_of s =
    record {
      occupied = is_occupied s.header;
      pending = is_pending s.header;
      buffered = s.buffered;
      queued = s.queued;
      host = s.host;
      guest = s.guest;
    }

abbrev move_of : Step → protocol.Move
move_of posts = protocol.post
move_of looks = protocol.look
move_of skips = protocol.skip
move_of marks = protocol.mark
move_of (fills w) = protocol.fill
move_of clears = protocol.clear
move_of drains = protocol.drain
move_of sees = protocol.flags
move_of ends = protocol.eom

-- a mark keeps the type, and sets MessagePending
mark_type : (h : ℕ) → type_of (bit_or h pending_mask) ≡ type_of h
mark_type h = or_mod h pending_mask 32 ∙ or_zero_r (h % 2 ^ 32)

mark_pending : (h : ℕ) → is_pending (bit_or h pending_mask) ≡ true
mark_pending h = ap (λ b. b == 1) (bit_at_set_same w64 h 40 (omega arith))

-- a clear empties the slot, and keeps MessagePending
clear_type : (h : ℕ) → is_occupied (h - type_of h) ≡ false
clear_type h =
    let zero_type : (h - h % 2 ^ 32) % 2 ^ 32 ≡ 0 = omega arith in
    ap (λ t. not (t == 0)) zero_type

clear_pending : (h : ℕ) → is_pending (h - type_of h) ≡ is_pending h
clear_pending h =
    let same : (h - h % 2 ^ 32) / 2 ^ 40 ≡ h / 2 ^ 40 = omega arith in
    ap (λ q. q % 2 == 1) same

flag_is : (more p : Bool) → (if more then p else not p) ≡ true → p ≡ more
flag_is more p e = grind arith

both : (a b : Bool) → (a && b) ≡ true → (a ≡ true) × (b ≡ true)
both a b e = (grind arith, grind arith)

or_false : (b : Bool) → (b || false) ≡ b
or_false b = grind arith

-- a step is a move that may come next, and leads to its world
moves : (s : Slot) (x : Step) → may s x ≡ true → (protocol.may protocol.careful (world_of s) (move_of x) ≡ true)
    × (world_of (after s x) ≡ protocol.after protocol.careful (world_of s) (move_of x))
moves s posts m = (m, refl)
moves s looks m = (m, refl)
moves s skips m = (m, refl)
moves s marks m =
    let o : is_occupied (bit_or s.header pending_mask) ≡ is_occupied s.header =
    ap (λ t. not (t == 0)) (mark_type s.header) in
    let h = ap (λ (b : Bool). if b then protocol.idle else protocol.filling)
    (sym (or_false (is_occupied s.header))) in (
      m,
      λ i. record {
        occupied = o i;
        pending = mark_pending s.header i;
        buffered = s.buffered;
        queued = s.queued;
        host = h i;
        guest = s.guest;
      },
    )
moves s (fills w) m =
    let parts = both (protocol.host_is s.host protocol.filling && nat_lt 0 s.queued)
    (is_occupied w && (if nat_lt 0 (protocol.one_less s.queued) then is_pending w else not (is_pending w))) m in
    let word = both (is_occupied w)
    (if nat_lt 0 (protocol.one_less s.queued) then is_pending w else not (is_pending w)) parts.1 in
    let f = flag_is (nat_lt 0 (protocol.one_less s.queued)) (is_pending w) word.1 in (
      parts.0,
      λ i. record {
        occupied = word.0 i;
        pending = f i;
        buffered = s.buffered;
        queued = protocol.one_less s.queued;
        host = protocol.idle;
        guest = s.guest;
      },
    )
moves s clears m = (m, refl)
moves s drains m = (
  m,
  λ i. record {
    occupied = clear_type s.header i;
    pending = clear_pending s.header i;
    buffered = false;
    queued = s.queued;
    host = s.host;
    guest = s.guest;
  },
)
moves s sees m = (m, refl)
moves s ends m = (m, refl)

pub runs : (s : Slot) (steps : List Step) → kept (world_of s) ≡ true → are_steps s steps ≡ true
    → is_stuck (led_to s steps) ≡ false
runs s [] k m = never_stuck (world_of s) [] k refl
runs s (x ∷ xs) k m =
    let parts = both (may s x) (are_steps (after s x) xs) m in
    let goes = moves s x parts.0 in
    let w = world_of s in
    runs (after s x) xs (ap kept goes.1
    ∙ preserved (move_of x) w.occupied w.pending w.buffered w.queued w.host w.guest k goes.0) parts.1

pub no_wake_up_is_missed : NoWakeUpIsMissed
no_wake_up_is_missed steps m = runs start steps refl m
