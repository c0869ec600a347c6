-- What holds between any two steps of a run.
use Rattle.std.proofs.Common.{◌≡◌, Bool, true, false, arith}
use Rattle.std.specs.Prelude.{not, ◌&&◌, ◌||◌, if◌then◌else◌}
use Rattle.law_slots.specs.Slots.{HostAt, GuestAt, host_is, guest_is, idle, looking, marking, late_looking, late_marking, filling, storing, resting, taken, cleared, fenced, ending, careful, after_mark, owed_after_mark, after_look}

-- a store in the buffer is that of a guest that clears an occupied slot; a slot that the guest reads or the host
-- fills stays unchanged; a call continues only while a message is queued; and while the host rests and a message is
-- queued, an occupied slot is marked, and an empty one is one whose guest will find the mark, or an EOM comes
abbrev pub kept : Bool → Bool → Bool → Bool → HostAt → GuestAt → Bool → Bool
kept o p b q h g w =
    (((not b || (o && guest_is g cleared))
    && (not (guest_is g taken) || (o && not b)))
    && ((not (host_is h filling || host_is h storing) || not o)
    && (host_is h idle || q)))
    && (not (host_is h idle && q)
    || (if o then p else (((p && (guest_is g cleared || guest_is g fenced)) || guest_is g ending) || w)))

pub by-call : (o p b q : Bool) (h : HostAt) (g : GuestAt) (w : Bool) → kept o p b q h g w ≡ true
    → host_is h idle ≡ true → kept o p b true looking g w ≡ true
by-call o p b q h g w k m = grind arith

pub by-tick : (o p b q : Bool) (h : HostAt) (g : GuestAt) (w : Bool) → kept o p b q h g w ≡ true
    → host_is h idle ≡ true → kept o p b true late_looking g w ≡ true
by-tick o p b q h g w k m = grind arith

pub by-look : (o p b q : Bool) (h : HostAt) (g : GuestAt) (w : Bool) → kept o p b q h g w ≡ true
    → (host_is h looking || host_is h late_looking) ≡ true → kept o p b q (after_look h o p) g w ≡ true
by-look true true b q looking g w k m = grind arith
by-look true false b q looking g w k m = grind arith
by-look false p b q looking g w k m = grind arith
by-look true true b q late_looking g w k m = grind arith
by-look true false b q late_looking g w k m = grind arith
by-look false p b q late_looking g w k m = grind arith
by-look o p b q idle g w k m = grind arith
by-look o p b q marking g w k m = grind arith
by-look o p b q late_marking g w k m = grind arith
by-look o p b q filling g w k m = grind arith
by-look o p b q storing g w k m = grind arith

pub by-mark : (o p b q : Bool) (h : HostAt) (g : GuestAt) (w : Bool) → kept o p b q h g w ≡ true
    → (host_is h marking || host_is h late_marking) ≡ true
    → kept o true b q (after_mark careful h o) g (owed_after_mark careful h o w) ≡ true
by-mark true p b q marking g w k m = grind arith
by-mark false p b q marking g w k m = grind arith
by-mark true p b q late_marking g w k m = grind arith
by-mark false p b q late_marking g w k m = grind arith
by-mark o p b q idle g w k m = grind arith
by-mark o p b q looking g w k m = grind arith
by-mark o p b q late_looking g w k m = grind arith
by-mark o p b q filling g w k m = grind arith
by-mark o p b q storing g w k m = grind arith

pub by-copy : (o p b q : Bool) (h : HostAt) (g : GuestAt) (w : Bool) → kept o p b q h g w ≡ true
    → host_is h filling ≡ true → kept o p b q storing g w ≡ true
by-copy o p b q h g w k m = grind arith

pub by-fill : (o p b q more : Bool) (h : HostAt) (g : GuestAt) (w : Bool) → kept o p b q h g w ≡ true
    → host_is h storing ≡ true → kept true more b more idle g w ≡ true
by-fill o p b q more h g w k m = grind arith

pub by-withdrawal : (o p b q more : Bool) (h : HostAt) (g : GuestAt) (w : Bool) → kept o p b q h g w ≡ true
    → host_is h idle ≡ true → (more ≡ true → q ≡ true) → kept o p b more h g w ≡ true
by-withdrawal o p b true more h g w k m n = grind arith
by-withdrawal o p b false true h g w k m n = grind arith
by-withdrawal o p b false false h g w k m n = k

pub by-reset : (o p b q : Bool) (h : HostAt) (g : GuestAt) (w : Bool) → kept o p b q h g w ≡ true
    → (host_is h idle && not b) ≡ true → kept false false b false h resting false ≡ true
by-reset o p b q h g w k m = grind arith

pub by-take : (o p b q : Bool) (h : HostAt) (g : GuestAt) (w : Bool) → kept o p b q h g w ≡ true
    → ((guest_is g resting && o) && not b) ≡ true → kept o p b q h taken w ≡ true
by-take o p b q h g w k m = grind arith

pub by-clear : (o p b q : Bool) (h : HostAt) (g : GuestAt) (w : Bool) → kept o p b q h g w ≡ true
    → guest_is g taken ≡ true → kept o p true q h cleared w ≡ true
by-clear o p b q h g w k m = grind arith

pub by-drain : (o p b q : Bool) (h : HostAt) (g : GuestAt) (w : Bool) → kept o p b q h g w ≡ true
    → b ≡ true → kept false p false q h g w ≡ true
by-drain o p b q h g w k m = grind arith

pub by-fence : (o p b q : Bool) (h : HostAt) (g : GuestAt) (w : Bool) → kept o p b q h g w ≡ true
    → (guest_is g cleared && not (true && b)) ≡ true → kept o p b q h fenced w ≡ true
by-fence o p b q h g w k m = grind arith

pub by-sight : (o p b q : Bool) (h : HostAt) (g : GuestAt) (w : Bool) → kept o p b q h g w ≡ true
    → guest_is g fenced ≡ true → kept o p b q h (if p then ending else resting) w ≡ true
by-sight o true b q h g w k m = grind arith
by-sight o false b q h g w k m = grind arith

pub by-end : (o p b q : Bool) (h : HostAt) (g : GuestAt) (w : Bool) → kept o p b q h g w ≡ true
    → (guest_is g ending && host_is h idle) ≡ true → kept o p b q (if q then looking else idle) resting w ≡ true
by-end o p b true h g w k m = grind arith
by-end o p b false h g w k m = grind arith

pub by-eom : (o p b q : Bool) (h : HostAt) (g : GuestAt) (w v : Bool) → kept o p b q h g w ≡ true
    → host_is h idle ≡ true → kept o p b q (if q then looking else idle) g v ≡ true
by-eom o p b true h g w v k m = grind arith
by-eom o p b false h g w v k m = grind arith

-- while the host rests, a message that is queued is attended
pub seen : (o p b q : Bool) (h : HostAt) (g : GuestAt) (w : Bool) → kept o p b q h g w ≡ true
    → ((host_is h idle && q)
    && not ((o && p) || (guest_is g cleared && (b || p)) || (guest_is g fenced && p) || guest_is g ending || w))
    ≡ false
seen o p b q h g w k = grind arith

-- between calls the guest can continue, or an EOM is owed
pub goes-on : (o p b q : Bool) (h : HostAt) (g : GuestAt) (w : Bool) → kept o p b q h g w ≡ true
    → host_is h idle ≡ true → q ≡ true
    → (((guest_is g resting && o) && not b) || guest_is g taken || b || (guest_is g cleared && not (true && b))
    || guest_is g fenced || (guest_is g ending && host_is h idle) || (w && host_is h idle)) ≡ true
goes-on o p b q h g w k m n = grind arith
