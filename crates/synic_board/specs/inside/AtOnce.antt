-- A message whose slot is empty, with nothing queued before it, is placed directly.
use Rattle.std.specs.Prelude.{◌+◌, ◌&&◌, Bool, false, not, nat_lt, List, [], ◌∷◌, ℕ, length, Some}
use Rattle.board_terms.specs.Quantities.{Processor, Source, Ticket}
use Rattle.board_terms.specs.declared.messages.Message.{Message}
use Rattle.board_terms.specs.Messages.{ticket_of}
use Rattle.board_terms.specs.declared.notices.Notice.TheVariants.{Accepted, Placed}
use Rattle.message_queues.specs.Queues.{queue_of}
use Rattle.message_queues.specs.Image.{image}
use Rattle.gpa_space.specs.Space.{after_slot}
use Rattle.synic_board.specs.State.{State, space_of, with_space, with_slot_ticket}
use Rattle.synic_board.specs.Effects.{Effect}
use Rattle.synic_board.specs.Delivery.{delivers, is_slot_empty}

-- a message would be placed directly: nothing is queued before it, and its slot is free
abbrev pub delivers_at_once : State → Processor → Source → Bool
delivers_at_once s p i = delivers s p && not (nat_lt 0 (length (queue_of s.queues p i))) && is_slot_empty s p i

-- a delivery attempt with something queued would only set MessagePending: its slot is occupied
abbrev pub marks : State → Processor → Source → Bool
marks s p i = delivers s p && not (is_slot_empty s p i)

-- a message in its slot gets the next ticket, which the slot holds
abbrev pub slot_taken : State → Processor → Source → Ticket → Effect
slot_taken s p i ticket = (
  with_slot_ticket (record s { next_ticket = s.next_ticket + 1 }) p i (Some ticket),
  Accepted p i ticket ∷ Placed p i ticket ∷ [],
)

-- its bytes are written to the slot first
abbrev pub filled_at_once : State → Processor → Source → List ℕ → Ticket → Effect
filled_at_once s p i bytes ticket = slot_taken (with_space s (after_slot (space_of s) p i bytes)) p i ticket

-- the effect of `delivered` if nothing is queued before the message and its slot is empty, before its vector is raised
abbrev pub placed_at_once : State → Processor → Source → Message → Effect
placed_at_once s p i m = filled_at_once s p i (image m false s.moment) (ticket_of m)
