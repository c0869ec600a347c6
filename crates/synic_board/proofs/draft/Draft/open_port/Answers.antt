use Rattle.std.proofs.Common.{sym, subst}
use Rattle.synic_board.specs.Effects.{Outcome}
use Rattle.synic_board.specs.inside.Drafts.{IsDraft}
use Rattle.synic_board.proofs.Drafts.{draft-port}
use Rattle.synic_board.proofs.draft.Draft.open_port.Goals as goal

pub invariant_of-self : goal.invariant_of-self
invariant_of-self c =
    let s = c.self.inside.machine.state in
    let tickets = c.self.inside.tickets.items in
    subst (λ (o : Outcome). IsDraft o.0 tickets) (sym c.open_port.ensures.step)
    (draft-port s c.args.port c.args.vp c.args.sint c.args.shape tickets c.self.invariant)
