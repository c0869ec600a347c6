use Rattle.std.proofs.Common.{refl, ap, sym, ◌∙◌}
use Rattle.event_ports.specs.Ports.{port_at}
use Rattle.message_queues.specs.Queues.{port_used}
use Rattle.synic_board.specs.State.{State, ports_of}
use Rattle.synic_board.proofs.Drafts.{has-free}
use Rattle.synic_board.proofs.draft.Draft.has_buffer_for.Goals as goal

pub returns : goal.returns
returns c =
    let target = c.if-not-targets.ensures.0 refl in
    has-free c.args.self.now c.args.number c.args.vp c.args.sint c.in-Messages.buffers c.port_used.result c.in-Some.port
    (ap (λ (s : State). port_at (ports_of s) c.args.number) (sym c.self.view_is) ∙ sym c.port.ensures ∙ c.in-Some.is)
    target.0 target.1 c.in-Messages.is
    (c.port_used.ensures ∙ ap (λ (s : State). port_used s.queues c.args.number) c.self.view_is)
