use Rattle.std.proofs.Common.{refl, sym, subst, ap, arith}
use Rattle.synic_board.specs.State.{State, processors}
use Rattle.synic_board.specs.inside.Drafts.{IsDraft}
use Rattle.synic_board.proofs.Drafts.{draft-own}
use Rattle.synic_board.proofs.draft.Draft.set_own.Goals as goal

pub invariant_of-self : goal.invariant_of-self
invariant_of-self c =
    let s = c.self.inside.machine.state in
    let tickets = c.self.inside.tickets.items in
    subst (λ (s : State). IsDraft s tickets) (sym c.restore_own.ensures)
    (draft-own s c.args.vp c.args.kind c.args.at c.args.bytes.now tickets
    (omega (arith, ap processors c.self.view_is, c.requires.on)) c.requires.inside
    (c.if-not-has_no_tickets.ensures.0 refl) c.self.invariant)
