-- Opening and closing ports, posts and signals (TLFS, "Ports", "Messages" and "Event Flags").
use Rattle.std.specs.Prelude.{ℕ, Bool, not, ◌&&◌, nat_lt, nat_le, List, [], ◌∷◌, map, Option, None, Some, Result, Ok, Err, slice_set, if◌then◌else◌}
use Rattle.std.specs.Option.{option_map_or}
use Rattle.board_terms.specs.Quantities.{Processor, Source, PortNumber, Flag}
use Rattle.arrayvec.specs.ArrayVec.{ArrayVec}
use Rattle.board_terms.specs.declared.messages.PortShape.{PortShape}
use Rattle.board_terms.specs.declared.messages.Message.TheVariants.{FromPort}
use Rattle.board_terms.specs.declared.notices.Notice.{Notice}
use Rattle.board_terms.specs.declared.notices.Notice.TheVariants.{FlagSet, Withdrawn}
use Rattle.board_terms.specs.declared.refusal.Refusal.{Refusal}
use Rattle.board_terms.specs.declared.refusal.Refusal.TheVariants.{SynicOff, NoBuffers, TicketsSpent}
use Rattle.event_ports.specs.declared.ports.Port.{Port}
use Rattle.event_ports.specs.Shapes.{buffers_of}
use Rattle.event_ports.specs.Ports.{open_refusal, target_of, message_target_of, flag_place_of}
use Rattle.message_queues.specs.Queues.{port_used, queue_of, withdrawn_of, after_withdrawal}
use Rattle.synic_regs.specs.Regs.{has, enable}
use Rattle.gpa_space.specs.Space.{is_flag_set, after_flag}
use Rattle.synic_board.specs.declared.event.Reply.TheVariants.{Done, Accepted, FlagWasClear, FlagWasSet}
use Rattle.synic_board.specs.State.{State, regs_of, space_of, with_space, ports_of}
use Rattle.synic_board.specs.Effects.{Effect, Outcome, after, answered, unchanged, refused}
use Rattle.synic_board.specs.Interrupts.{raised}
use Rattle.synic_board.specs.Delivery.{delivered}

-- a port is added
abbrev pub with_port : State → PortNumber → Port → State
with_port s port p = record s { ports = slice_set s.ports port (Some p) }

abbrev pub opened_port : State → PortNumber → Processor → Source → PortShape → Outcome
opened_port s port p i shape =
    option_map_or (refused s) (open_refusal (ports_of s) port p i shape)
    (unchanged (with_port s port (record { vp = p; sint = i; shape = shape })) Done)

-- the messages of a port leave the queue of its source, front first; messages in slots stay
abbrev pub withdrawals : State → Processor → Source → PortNumber → List Notice
withdrawals s p i port = map (λ t. Withdrawn p i t) (withdrawn_of port (queue_of s.queues p i))

abbrev pub withdrawn : State → Processor → Source → PortNumber → Effect
withdrawn s p i port = (record s { queues = after_withdrawal s.queues p i port }, withdrawals s p i port)

-- a port is removed, then its messages leave their queue
abbrev pub without_port : State → PortNumber → State
without_port s port = record s { ports = slice_set s.ports port None }

abbrev pub closed_at : State → PortNumber → Result Port Refusal → Outcome
closed_at s port (Err r) = refused s r
closed_at s port (Ok p) = answered Done (withdrawn (without_port s port) p.vp p.sint port)

abbrev pub closed : State → PortNumber → Outcome
closed s port = closed_at s port (target_of (ports_of s) port)

-- the greatest ticket is 2^64 - 2
abbrev pub are_tickets_left : State → Bool
are_tickets_left s = nat_lt s.next_ticket 0xffffffffffffffff

-- why a post to a port is refused; the checks are in this order
abbrev pub post_refusal : State → PortNumber → Processor → PortShape → Option Refusal
post_refusal s port p shape =
    if not (has (regs_of s p).control enable) then Some SynicOff
    else if nat_le (buffers_of shape) (port_used s.queues port) then Some NoBuffers
    else if not (are_tickets_left s) then Some TicketsSpent
    else None

-- a post is accepted with the next ticket, then a delivery attempt is made
abbrev pub posted_at : State → PortNumber → ℕ → ArrayVec ℕ → Result Port Refusal → Outcome
posted_at s port kind payload (Err r) = refused s r
posted_at s port kind payload (Ok p) =
    option_map_or (refused s) (post_refusal s port p.vp p.shape)
    (answered (Accepted s.next_ticket) (delivered s p.vp p.sint (FromPort s.next_ticket port kind payload)))

abbrev pub posted : State → PortNumber → ℕ → ArrayVec ℕ → Outcome
posted s port kind payload = posted_at s port kind payload (message_target_of (ports_of s) port kind)

-- an event flag is set, and its source raises its vector if the flag was clear; the page is written even if it is
-- obscured
abbrev pub with_flag : State → Processor → Source → Flag → State
with_flag s p i flag = with_space s (after_flag (space_of s) p i flag)

abbrev pub flagged : State → Processor → Source → Flag → Effect
flagged s p i flag = (with_flag s p i flag, FlagSet p i flag ∷ [])

-- a signal requires that the SynIC and its event flags page are enabled (profile)
abbrev pub signalled_place : State → Processor × Source × Flag → Outcome
signalled_place s (p, i, flag) =
    if not (has (regs_of s p).control enable && has (regs_of s p).sief enable) then refused s SynicOff
    else if is_flag_set (space_of s) p i flag then unchanged (with_flag s p i flag) FlagWasSet
    else answered FlagWasClear (after (flagged s p i flag) (raised (with_flag s p i flag) p i))

abbrev pub signalled_at : State → Result (Processor × Source × Flag) Refusal → Outcome
signalled_at s (Err r) = refused s r
signalled_at s (Ok place) = signalled_place s place

abbrev pub signalled : State → PortNumber → Flag → Outcome
signalled s port flag = signalled_at s (flag_place_of (ports_of s) port flag)
