use Rattle.std.proofs.Common.{ap, sym, subst, ◌∙◌, ◌<◌, true, List, nat_lt, IsTrue}
use Rattle.std.specs.Prelude.{None, Some, ◌↔◌}
use Rattle.std.specs.Option.{option_copied}
use Rattle.std.specs.List.{All}
use Rattle.board_terms.specs.Messages.{ticket_of}
use Rattle.board_terms.specs.Sources.{source_number}
use Rattle.board_terms.specs.declared.messages.Message.{Message}
use Rattle.message_queues.specs.Queues.{queue_of}
use Rattle.synic_board.specs.State.{State}
use Rattle.synic_board.proofs.Drafts.{in-front}
use Rattle.synic_board.proofs.draft.Draft.is_before_queue.Goals as goal

pub returns-in-Some : goal.returns-in-Some
returns-in-Some c =
    let s : State = c.self.inside.machine.state in
    let q : List Message = queue_of s.queues c.args.vp c.args.sint in
    let found = in-front s.next_ticket q (c.self.invariant.buffers.timed.order (source_number c.args.vp c.args.sint))
    (Some c.in-Some.first.now)
    (sym c.first_message.ensures ∙ ap option_copied c.in-Some.is) c.args.ticket in
    subst (λ (s : State). IsTrue (nat_lt c.args.ticket c.ticket.result) ↔ All (λ x. c.args.ticket < ticket_of x)
    (queue_of s.queues c.args.vp c.args.sint)) c.self.view_is
    (subst (λ t. IsTrue (nat_lt c.args.ticket t) ↔ All (λ x. c.args.ticket < ticket_of x) q)
    (sym c.ticket.ensures) found)

pub returns-in-None : goal.returns-in-None
returns-in-None c =
    let s : State = c.self.inside.machine.state in
    let found = in-front s.next_ticket (queue_of s.queues c.args.vp c.args.sint)
    (c.self.invariant.buffers.timed.order (source_number c.args.vp c.args.sint)) None
    (sym c.first_message.ensures ∙ ap option_copied c.in-None.is) c.args.ticket in
    subst (λ (s : State). IsTrue true ↔ All (λ x. c.args.ticket < ticket_of x)
    (queue_of s.queues c.args.vp c.args.sint)) c.self.view_is found
