use Rattle.std.proofs.Common.{refl, ◌∷◌, [], ◌++◌, sym, subst, ap, ◌∙◌, arith, List, ℕ}
use Rattle.synic_board.specs.State.{State, processors}
use Rattle.synic_board.specs.Restoring.{MayJoin, with_message}
use Rattle.synic_board.specs.inside.Drafts.{IsDraft}
use Rattle.synic_board.proofs.Drafts.{draft-message}
use Rattle.synic_board.proofs.draft.Draft.push_message.Goals as goal

pub invariant_of-self-2 : goal.invariant_of-self-2
invariant_of-self-2 c =
    let s = c.self.inside.machine.state in
    let tickets = c.self.inside.tickets.items in
    let may = subst (λ (s : State). MayJoin s c.args.vp c.args.sint c.args.message) (sym c.self.view_is)
    (c.if-not-may_join.ensures.0 refl) in
    let pushed = c.in_ok-push.ensures.items ∙ ap (λ t. tickets ++ t ∷ []) c.ticket.ensures in
    subst (λ (s : State). IsDraft s c.push.new.self.items) (sym c.restore_message.ensures)
    (subst (λ (ts : List ℕ). IsDraft (with_message s c.args.vp c.args.sint c.args.message) ts) (sym pushed)
    (draft-message s c.args.vp c.args.sint c.args.message tickets
    (omega (arith, ap processors c.self.view_is, c.requires)) (omega arith) may c.self.invariant))
