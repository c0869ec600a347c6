use Rattle.std.proofs.Common.{sym, subst, ap, arith}
use Rattle.synic_board.specs.State.{State, processors}
use Rattle.synic_board.specs.inside.Drafts.{IsDraft}
use Rattle.synic_board.proofs.Drafts.{draft-processor}
use Rattle.synic_board.proofs.draft.Draft.set_lapic.Goals as goal

pub invariant_of-self : goal.invariant_of-self
invariant_of-self c =
    let s = c.self.inside.machine.state in
    subst (λ (s : State). IsDraft s c.self.inside.tickets.items) (sym c.restore_lapic.ensures)
    (draft-processor s c.args.vp c.args.lapic c.self.inside.tickets.items
    (omega (arith, ap processors c.self.view_is, c.requires)) c.self.invariant)
