use Rattle.std.proofs.Common.{refl, sym, subst, ap, arith, List, ℕ}
use Rattle.std.specs.Prelude.{Some}
use Rattle.synic_board.specs.State.{State, processors, with_slot_ticket}
use Rattle.synic_board.specs.Restoring.{MayOccupy}
use Rattle.synic_board.specs.inside.Drafts.{IsDraft}
use Rattle.synic_board.proofs.Drafts.{draft-ticket}
use Rattle.synic_board.proofs.draft.Draft.set_ticket.Goals as goal

pub invariant_of-self-2 : goal.invariant_of-self-2
invariant_of-self-2 c =
    let s = c.self.inside.machine.state in
    let tickets = c.self.inside.tickets.items in
    let may = subst (λ (s : State). MayOccupy s c.args.vp c.args.sint c.args.ticket) (sym c.self.view_is)
    (c.if-not-may_occupy.ensures.0 refl) in
    subst (λ (s : State). IsDraft s c.push.new.self.items) (sym c.restore_ticket.ensures)
    (subst (λ (ts : List ℕ). IsDraft (with_slot_ticket s c.args.vp c.args.sint (Some c.args.ticket)) ts)
    (sym c.in_ok-push.ensures.items)
    (draft-ticket s c.args.vp c.args.sint c.args.ticket tickets
    (omega (arith, ap processors c.self.view_is, c.requires)) (omega arith) may c.self.invariant))
