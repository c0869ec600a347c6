-- Delivery attempts: a queued message is placed in the slot of its source (TLFS, "Message Delivery").
use Rattle.std.specs.Prelude.{ℕ, zero, suc, ◌==◌, ◌&&◌, ◌+◌, Bool, nat_lt, List, [], ◌∷◌, length, Some, if◌then◌else◌}
use Rattle.board_terms.specs.Quantities.{Processor, Source, Ticket}
use Rattle.board_terms.specs.declared.messages.Message.{Message}
use Rattle.board_terms.specs.Messages.{ticket_of}
use Rattle.board_terms.specs.declared.notices.Notice.{Notice}
use Rattle.board_terms.specs.declared.notices.Notice.TheVariants.{Accepted, Placed, Pending}
use Rattle.board_terms.specs.declared.pages.Kind.TheVariants.{Sim}
use Rattle.synic_regs.specs.Regs.{has, enable}
use Rattle.message_queues.specs.Queues.{queue_of, with_queue, appended as joined}
use Rattle.message_queues.specs.Image.{image, slot_type}
use Rattle.gpa_space.specs.Space.{own_page, after_slot, is_pending, after_pending}
use Rattle.synic_board.specs.State.{State, regs_of, space_of, with_space, with_slot_ticket}
use Rattle.synic_board.specs.Effects.{Effect, nothing, after}
use Rattle.synic_board.specs.Interrupts.{raised}

-- the SynIC and its message page are enabled
abbrev pub delivers : State → Processor → Bool
delivers s p = has (regs_of s p).control enable && has (regs_of s p).sim enable

-- a slot is empty iff its type is 0
abbrev pub is_slot_empty : State → Processor → Source → Bool
is_slot_empty s p i = slot_type (own_page (space_of s) p Sim) i == 0

-- the slot of a source with the image of a message; MessagePending is set if more messages are queued
abbrev pub with_image : State → Processor → Source → Message → Bool → State
with_image s p i m more = with_space s (after_slot (space_of s) p i (image m more s.moment))

-- the state with another queue of a source
abbrev pub with_messages : State → Processor → Source → List Message → State
with_messages s p i messages = record s { queues = with_queue s.queues p i messages }

-- the head of the queue is placed: its image is in the slot, the slot holds its ticket, and the rest stays queued
abbrev pub placed_state : State → Processor → Source → Message → List Message → State
placed_state s p i m rest =
    let imaged = with_image s p i m (nat_lt 0 (length rest)) in
    let queued = with_messages imaged p i rest in
    with_slot_ticket queued p i (Some (ticket_of m))

abbrev pub placed_notices : Ticket → Processor → Source → Bool → List Notice
placed_notices ticket p i pending = Placed p i ticket ∷ (if pending then Pending p i ∷ [] else [])

abbrev pub placed_head : State → Processor → Source → List Message → Effect
placed_head s p i [] = nothing s
placed_head s p i (m ∷ rest) = (placed_state s p i m rest, placed_notices (ticket_of m) p i (nat_lt 0 (length rest)))

abbrev pub placed : State → Processor → Source → Effect
placed s p i = placed_head s p i (queue_of s.queues p i)

-- MessagePending is set in an occupied slot, with a notice if it was clear
abbrev pub marked : State → Processor → Source → Effect
marked s p i =
    (with_space s (after_pending (space_of s) p i), if is_pending (space_of s) p i then [] else Pending p i ∷ [])

-- a delivery attempt
unfoldable pub tried : State → Processor → Source → Effect
tried s p i =
    if delivers s p && nat_lt 0 (length (queue_of s.queues p i))
    then (if is_slot_empty s p i then after (placed s p i) (raised (placed s p i).0 p i) else marked s p i)
    else nothing s

-- one attempt for each source below n, in order
unfoldable pub tried_below : State → Processor → ℕ → Effect
tried_below s p zero = nothing s
tried_below s p (suc i) = after (tried_below s p i) (tried (tried_below s p i).0 p i)

-- a message gets the next ticket and joins the end of its queue
abbrev pub accepted : State → Processor → Source → Message → Effect
accepted s p i m =
    (record s { queues = joined s.queues p i m; next_ticket = s.next_ticket + 1 }, Accepted p i (ticket_of m) ∷ [])

-- accepted, then tried
abbrev pub delivered : State → Processor → Source → Message → Effect
delivered s p i m = after (accepted s p i m) (tried (accepted s p i m).0 p i)
