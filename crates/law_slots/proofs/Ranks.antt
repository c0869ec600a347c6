-- How many steps of a guest that uses its messages, and payments, are left until the head of a queue is placed.
use Rattle.std.proofs.Common.{◌≡◌, ℕ, ◌+◌, ◌≤◌, Bool, true, false, arith}
use Rattle.std.specs.Prelude.{not, ◌&&◌, ◌||◌, if◌then◌else◌}
use Rattle.law_slots.specs.Slots.{HostAt, GuestAt, host_is, guest_is, idle, looking, marking, late_looking, late_marking, filling, storing, resting, taken, cleared, fenced, ending, careful, after_mark, owed_after_mark, after_look}
use Rattle.law_slots.proofs.Kept.{kept}

-- the slot is occupied: the guest will empty it
abbrev pub occupied-rank : GuestAt → Bool → ℕ
occupied-rank resting b = 6
occupied-rank taken b = 5
occupied-rank cleared b = if b then 4 else 9
occupied-rank fenced b = 8
occupied-rank ending b = 7

-- the slot is empty, and the call will fill it
abbrev pub empty-rank : GuestAt → ℕ
empty-rank cleared = 2
empty-rank fenced = 1
empty-rank _ = 0

abbrev pub will-fill : HostAt → Bool
will-fill idle = false
will-fill late_marking = false
will-fill _ = true

abbrev pub rank : Bool → Bool → HostAt → GuestAt → Bool → ℕ
rank true b h g w = occupied-rank g b + (if w then 1 else 0)
rank false b h g w = empty-rank g + (if will-fill h then 0 else 1)

pub most : (o b : Bool) (h : HostAt) (g : GuestAt) (w : Bool) → rank o b h g w ≤ 10
most o b h g w = grind arith

pub by-call : (o b : Bool) (h : HostAt) (g : GuestAt) (w : Bool) → host_is h idle ≡ true
    → rank o b looking g w ≤ rank o b h g w
by-call o b h g w m = grind arith

pub by-tick : (o b : Bool) (h : HostAt) (g : GuestAt) (w : Bool) → host_is h idle ≡ true
    → rank o b late_looking g w ≤ rank o b h g w
by-tick o b h g w m = grind arith

pub by-look : (o p b : Bool) (h : HostAt) (g : GuestAt) (w : Bool)
    → (host_is h looking || host_is h late_looking) ≡ true → rank o b (after_look h o p) g w ≤ rank o b h g w
by-look o p b h g w m = grind arith

pub by-mark : (o b : Bool) (h : HostAt) (g : GuestAt) (w : Bool)
    → (host_is h marking || host_is h late_marking) ≡ true
    → rank o b (after_mark careful h o) g (owed_after_mark careful h o w) ≤ rank o b h g w
by-mark o b h g w m = grind arith

pub by-copy : (o b : Bool) (h : HostAt) (g : GuestAt) (w : Bool) → host_is h filling ≡ true
    → rank o b storing g w ≤ rank o b h g w
by-copy o b h g w m = grind arith

pub by-take : (o b : Bool) (h : HostAt) (g : GuestAt) (w : Bool) → ((guest_is g resting && o) && not b) ≡ true
    → 1 + rank o b h taken w ≤ rank o b h g w
by-take o b h g w m = grind arith

pub by-clear : (o p b q : Bool) (h : HostAt) (g : GuestAt) (w : Bool) → kept o p b q h g w ≡ true
    → guest_is g taken ≡ true → 1 + rank o true h cleared w ≤ rank o b h g w
by-clear o p b q h g w k m = grind arith

pub by-drain : (o p b q : Bool) (h : HostAt) (g : GuestAt) (w : Bool) → kept o p b q h g w ≡ true
    → b ≡ true → 1 + rank false false h g w ≤ rank o b h g w
by-drain o p b q h g w k m = grind arith

pub by-fence : (o b : Bool) (h : HostAt) (g : GuestAt) (w : Bool)
    → (guest_is g cleared && not (true && b)) ≡ true → 1 + rank o b h fenced w ≤ rank o b h g w
by-fence o b h g w m = grind arith

pub by-sight : (o p b : Bool) (h : HostAt) (g : GuestAt) (w : Bool) → guest_is g fenced ≡ true
    → 1 + rank o b h (if p then ending else resting) w ≤ rank o b h g w
by-sight o p b h g w m = grind arith

pub by-end : (o b q : Bool) (h : HostAt) (g : GuestAt) (w : Bool) → (guest_is g ending && host_is h idle) ≡ true
    → q ≡ true → 1 + rank o b (if q then looking else idle) resting w ≤ rank o b h g w
by-end o b q h g w m n = grind arith

pub by-eom : (o b q : Bool) (h : HostAt) (g : GuestAt) (w : Bool) → host_is h idle ≡ true
    → q ≡ true → rank o b (if q then looking else idle) g w ≤ rank o b h g w
by-eom o b q h g w m n = grind arith

pub by-payment : (o b q : Bool) (h : HostAt) (g : GuestAt) (w : Bool) → (w && host_is h idle) ≡ true
    → q ≡ true → 1 + rank o b (if q then looking else idle) g false ≤ rank o b h g w
by-payment o b q h g w m n = grind arith
