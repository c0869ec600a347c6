use Rattle.std.proofs.Common.{arith, sym, subst, List, ℕ}
use Rattle.synic_board.specs.State.{State, opened}
use Rattle.synic_board.specs.inside.Drafts.{IsDraft}
use Rattle.synic_board.proofs.Drafts.{draft-opened}
use Rattle.synic_board.proofs.draft.Draft.open.Goals as goal

pub invariant_of-result : goal.invariant_of-result
invariant_of-result c =
    let s : State = opened c.args.processors c.args.pages c.args.next_ticket in
    subst (λ (s : State). IsDraft s c.new.result.items) (sym c.in-Ok.ensures.opened)
    (subst (λ (ts : List ℕ). IsDraft s ts) (sym c.new.ensures.items)
    (draft-opened c.args.processors c.args.pages c.args.next_ticket (omega arith)))
