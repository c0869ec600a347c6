-- The protocol of a slot on its header, one word of memory: each step is an access of the host or of the guest.
use Rattle.std.specs.Prelude.{◌≡◌, ℕ, suc, ◌-◌, ◌==◌, Bool, true, false, not, ◌&&◌, nat_lt, List, [], ◌∷◌, bit_or, if◌then◌else◌}
use Rattle.live_pages.specs.Words.{type_of, is_pending, pending_mask}
use Rattle.live_pages.specs.Protocol.{HostAt, GuestAt, host_is, guest_is, one_less, idle, looking, marking, filling, resting, cleared, ending}

abbrev pub is_occupied : ℕ → Bool
is_occupied header = not (type_of header == 0)

-- the header in memory, whether a guest's store of type 0 is in its buffer, how many messages are queued, and where
-- the two are
pub record Slot : Type 0 where
  pub header : ℕ
  pub buffered : Bool
  pub queued : ℕ
  pub host : HostAt
  pub guest : GuestAt

pub data Step : Type 0 where
  -- the host queues a message, loads the header, finds it occupied and marked, marks it by an atomic or, stores the
  -- header of a message
  posts : Step
  looks : Step
  skips : Step
  marks : Step
  fills : ℕ → Step
  -- the guest stores 0 in the four bytes of the type; the store reaches memory; the guest loads the flags after a
  -- barrier; it writes EOM
  clears : Step
  drains : Step
  sees : Step
  ends : Step

abbrev pub may : Slot → Step → Bool
may s posts = host_is s.host idle
may s looks = host_is s.host looking
may s skips = host_is s.host looking && (is_occupied s.header && is_pending s.header)
may s marks = host_is s.host marking
may s (fills w) =
    (host_is s.host filling && nat_lt 0 s.queued)
    && (is_occupied w && (if nat_lt 0 (one_less s.queued) then is_pending w else not (is_pending w)))
may s clears = (guest_is s.guest resting && is_occupied s.header) && not s.buffered
may s drains = s.buffered
may s sees = guest_is s.guest cleared && not s.buffered
may s ends = guest_is s.guest ending && host_is s.host idle

abbrev pub after : Slot → Step → Slot
after s posts = record s { queued = suc s.queued; host = looking }
after s looks = record s { host = if is_occupied s.header then marking else filling }
after s skips = record s { host = idle }
after s marks =
    record s { header = bit_or s.header pending_mask; host = if is_occupied s.header then idle else filling }
after s (fills w) = record s { header = w; queued = one_less s.queued; host = idle }
after s clears = record s { buffered = true; guest = cleared }
after s drains = record s { header = s.header - type_of s.header; buffered = false }
after s sees = record s { guest = if is_pending s.header then ending else resting }
after s ends = record s { guest = resting; host = if nat_lt 0 s.queued then looking else idle }

abbrev pub are_steps : Slot → List Step → Bool
are_steps s [] = true
are_steps s (x ∷ xs) = may s x && are_steps (after s x) xs

abbrev pub led_to : Slot → List Step → Slot
led_to s [] = s
led_to s (x ∷ xs) = led_to (after s x) xs

abbrev pub start : Slot
start = record { header = 0; buffered = false; queued = 0; host = idle; guest = resting }

-- a message is queued, the slot is empty, and neither of the two will move
abbrev pub is_stuck : Slot → Bool
is_stuck s =
    ((nat_lt 0 s.queued && not (is_occupied s.header)) && not s.buffered)
    && (host_is s.host idle && guest_is s.guest resting)

-- no steps of the two lead to such a state
abbrev pub NoWakeUpIsMissed : Type 0
NoWakeUpIsMissed = (steps : List Step) → are_steps start steps ≡ true → is_stuck (led_to start steps) ≡ false
