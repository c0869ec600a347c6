-- Resetting a processor: its messages are withdrawn, and then it is as newly opened (profile).
use Rattle.std.specs.Prelude.{ℕ, zero, suc, [], ◌∷◌, map, None}
use Rattle.std.specs.Option.{option_map_or}
use Rattle.board_terms.specs.Quantities.{Processor, Source, Ticket}
use Rattle.board_terms.specs.Messages.{ticket_of}
use Rattle.board_terms.specs.declared.notices.Notice.TheVariants.{Withdrawn}
use Rattle.lapic_core.specs.Apic.{empty_apic}
use Rattle.synic_regs.specs.Regs.{reset_regs}
use Rattle.message_queues.specs.Queues.{queue_of, with_queue}
use Rattle.gpa_space.specs.Space.{after_clearing}
use Rattle.stimer_bank.specs.Bank.{reset as bank_reset}
use Rattle.synic_board.specs.declared.event.Reply.TheVariants.{Done}
use Rattle.synic_board.specs.State.{State, space_of, bank_of, with_apic, with_regs, with_space, with_bank, slot_of, with_slot_ticket}
use Rattle.synic_board.specs.Effects.{Effect, Outcome, nothing, after, answered}

-- the message in a slot is withdrawn, if the slot holds a ticket
abbrev pub withdrawn_ticket : State → Processor → Source → Ticket → Effect
withdrawn_ticket s p i t = (with_slot_ticket s p i None, Withdrawn p i t ∷ [])

abbrev pub slot_emptied : State → Processor → Source → Effect
slot_emptied s p i = option_map_or (withdrawn_ticket s p i) (slot_of s p i) (nothing s)

-- and those in a queue, front first
abbrev pub queue_emptied : State → Processor → Source → Effect
queue_emptied s p i = (
  record s { queues = with_queue s.queues p i [] },
  map (λ t. Withdrawn p i t) (map ticket_of (queue_of s.queues p i)),
)

-- the slot of a source, and then its queue
abbrev pub source_emptied : State → Processor → Source → Effect
source_emptied s p i = after (slot_emptied s p i) (queue_emptied (slot_emptied s p i).0 p i)

-- the sources below n, in order
unfoldable pub emptied_below : State → Processor → ℕ → Effect
emptied_below s p zero = nothing s
emptied_below s p (suc i) = after (emptied_below s p i) (source_emptied (emptied_below s p i).0 p i)

-- the local APIC, the registers, both own pages and the timers are those of a newly opened processor; ports, guest
-- pages and the clock stay
abbrev pub cleared : State → Processor → State
cleared s p =
    let apic = with_apic s p empty_apic in
    let regs = with_regs apic p reset_regs in
    let pages = with_space regs (after_clearing (space_of s) p) in
    with_bank pages (bank_reset (bank_of s) p)

abbrev pub emptied : State → Processor → Effect
emptied s p = emptied_below s p 16

abbrev pub reset : State → Processor → Outcome
reset s p = answered Done (after (emptied s p) (cleared (emptied s p).0 p, []))
