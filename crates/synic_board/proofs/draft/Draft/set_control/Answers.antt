use Rattle.std.proofs.Common.{sym, subst}
use Rattle.synic_board.specs.Effects.{Outcome}
use Rattle.synic_board.specs.inside.Drafts.{IsDraft}
use Rattle.synic_board.proofs.Drafts.{draft-regs}
use Rattle.synic_board.proofs.draft.Draft.set_control.Goals as goal

pub invariant_of-self : goal.invariant_of-self
invariant_of-self c =
    let s = c.self.inside.machine.state in
    let tickets = c.self.inside.tickets.items in
    subst (λ (o : Outcome). IsDraft o.0 tickets) (sym c.write_control.ensures.state)
    (draft-regs s c.args.vp _ tickets c.self.invariant)
