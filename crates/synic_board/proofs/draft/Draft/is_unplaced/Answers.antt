use Rattle.std.proofs.Common.{ℕ, List, ap, ◌∙◌, subst, arith, IsTrue}
use Rattle.std.specs.Prelude.{not, ◌==◌}
use Rattle.std.specs.List.{list_any}
use Rattle.synic_board.specs.State.{State}
use Rattle.synic_board.specs.Restoring.{IsUnplaced}
use Rattle.synic_board.proofs.Drafts.{loose-of}
use Rattle.synic_board.proofs.draft.Draft.is_unplaced.Goals as goal

pub returns-then-ticket-next_ticket : goal.returns-then-ticket-next_ticket
returns-then-ticket-next_ticket c =
    let r = c.contains.result in
    subst (λ (s : State). (IsTrue (not r) → IsUnplaced s c.args.ticket)
    × (IsUnplaced s c.args.ticket → IsTrue (not r))) c.self.view_is
    (loose-of c.self.inside.machine.state c.self.inside.tickets.items c.args.ticket r c.self.invariant
    (omega (arith, c.next_ticket.ensures))
    (c.contains.ensures.value ∙ ap (λ (xs : List ℕ). list_any (λ y. y == c.args.ticket) xs) c.deref.ensures.value))
