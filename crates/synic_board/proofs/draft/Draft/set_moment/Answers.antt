use Rattle.std.proofs.Common.{sym, subst, arith}
use Rattle.synic_board.specs.State.{State}
use Rattle.synic_board.specs.inside.Drafts.{IsDraft}
use Rattle.synic_board.proofs.Drafts.{draft-moment}
use Rattle.synic_board.proofs.draft.Draft.set_moment.Goals as goal

pub invariant_of-self : goal.invariant_of-self
invariant_of-self c = subst (λ (s : State). IsDraft s c.self.inside.tickets.items) (sym c.restore_moment.ensures)
    (draft-moment c.self.inside.machine.state c.args.moment c.self.inside.tickets.items (omega arith) c.self.invariant)
