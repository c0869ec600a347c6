use Rattle.std.proofs.Common.{◌≡◌, ◌<◌, length, ap, sym, ◌∙◌, subst, arith}
use Rattle.std.specs.Prelude.{Some}
use Rattle.board_terms.specs.Dues.{least}
use Rattle.stimer_bank.specs.Bank.{dues}
use Rattle.synic_board.specs.Summaries.{Values}
use Rattle.synic_board.specs.State.{BoardModel, processors}
use Rattle.synic_board.proofs.Trying.{least-on}
use Rattle.synic_board.proofs.machine.Machine.first_due.Goals as goal

pub returns-in-Some-clause-on : goal.returns-in-Some-clause-on
returns-in-Some-clause-on c =
    let is : least (dues c.self.inside.timers) ≡ Some c.in-Some.first =
    sym (ap (λ (v : Values). v.earliest) c.self.invariant.summary) ∙ sym c.earliest.ensures ∙ c.in-Some.is in
    let on = least-on c.self.inside.timers
    (length c.self.inside.lapics.items) c.in-Some.first.0 c.in-Some.first.1 c.self.invariant.timers
    (omega arith) is in
    subst (λ (h : BoardModel). c.in-Some.first.1.0 < processors h.state) c.self.view_is on
