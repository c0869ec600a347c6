use Rattle.std.proofs.Common.{◌≡◌, length, ◌∙◌, subst, sym, ℕ, List}
use Rattle.stimer_bank.specs.Bank.{dues, due_list}
use Rattle.synic_board.specs.State.{BoardModel}
use Rattle.synic_board.specs.inside.Steps.{AllOn}
use Rattle.synic_board.specs.inside.View.{state_of}
use Rattle.synic_board.proofs.Clocks.{listed_on}
use Rattle.synic_board.proofs.machine.Machine.try_others.Goals as goal

pub try_in_order-requires-clause-on : goal.try_in_order-requires-clause-on
try_in_order-requires-clause-on c =
    let listed : List (ℕ × ℕ) = due_list (dues c.self.inside.timers) c.self.inside.moment in
    let on : AllOn (state_of c.self.inside) listed =
    listed_on c.self.inside.timers c.self.inside.moment
    (length c.self.inside.lapics.items) c.self.invariant.timers in
    let same : listed ≡ c.as_slice.result.now = sym (c.as_slice.ensures.value ∙ c.due_list-due.ensures) in
    subst (λ (h : BoardModel). AllOn h.state c.as_slice.result.now) c.self.view_is
    (subst (λ (ts : List (ℕ × ℕ)). AllOn (state_of c.self.inside) ts) same on)
