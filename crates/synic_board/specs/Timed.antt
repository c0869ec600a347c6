-- The invariant of what a board queues and counts down: the messages of a source are in the order of tickets, that in
-- its slot first, and no timer is further ahead than its period.
use Rattle.std.specs.Prelude.{◌≡◌, ◌≤◌, ◌<◌, ◌+◌, ◌%◌, ℕ, true, List, [], ◌∷◌, Option, None, Some, slice_index_or}
use Rattle.std.specs.List.{All}
use Rattle.board_terms.specs.Messages.{ticket_of}
use Rattle.board_terms.specs.declared.messages.Message.{Message}
use Rattle.board_terms.specs.declared.messages.Message.TheVariants.{FromPort, FromTimer}
use Rattle.stimer_bank.specs.declared.timer.Timer.{Timer}
use Rattle.stimer_bank.specs.Timer.{is_periodic, IsSoundTimer}
use Rattle.stimer_bank.specs.Bank.{idle_timer}
use Rattle.synic_board.specs.State.{State}

-- each ticket is less than those after it, and less than the next one
abbrev pub Ascends : ℕ → List Message → Type 0
Ascends next [] = Unit {0}
Ascends next (m ∷ ms) = (ticket_of m < next) × All (λ x. ticket_of m < ticket_of x) ms × Ascends next ms

-- the ticket of the message in a slot is less than those that wait for it, and less than the next one
abbrev pub Precedes : ℕ → Option ℕ → List Message → Type 0
Precedes next None q = Unit {0}
Precedes next (Some t) q = (t < next) × All (λ m. t < ticket_of m) q

-- a timer's message is at a source that a timer may name, and its expiration time is above 0 and not later than the
-- present
abbrev pub HasExpired : ℕ → ℕ → Message → Type 0
HasExpired moment i (FromPort ticket port kind payload) = Unit {0}
HasExpired moment i (FromTimer ticket t expiration) = (0 < i) × (0 < expiration) × (expiration ≤ moment)

-- a periodic timer is due at most a period after the present
abbrev pub IsNear : ℕ → Timer → Type 0
IsNear moment x = (d : ℕ) → x.due ≡ Some d → is_periodic x.config ≡ true → d ≤ moment + x.count

-- of each queue and slot, where those of number k are of source k % 16 of their processor, and of each timer
pub record IsTimed (s : State) : Type 0 where
  pub order : (k : ℕ) → Ascends s.next_ticket (slice_index_or s.queues k [])
  pub ahead : (k : ℕ) → Precedes s.next_ticket (slice_index_or s.slots k None) (slice_index_or s.queues k [])
  pub timely : (k : ℕ) → All (HasExpired s.moment (k % 16)) (slice_index_or s.queues k [])
  pub sound : (n : ℕ) → IsSoundTimer (slice_index_or s.timers n idle_timer)
  pub near : (n : ℕ) → IsNear s.moment (slice_index_or s.timers n idle_timer)
