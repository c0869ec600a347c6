use Rattle.std.proofs.Common.{◌≡◌, [], false, ap, ◌∙◌, sym}
use Rattle.stimer_bank.specs.Bank.{dues}
use Rattle.board_terms.specs.Dues.{least}
use Rattle.synic_board.specs.declared.event.Reply.TheVariants.{Done}
use Rattle.synic_board.specs.Timers.{at_moment, ticked}
use Rattle.synic_board.specs.inside.Steps.{is_any_due}
use Rattle.synic_board.specs.State.{State, BoardModel, bank_of}
use Rattle.synic_board.specs.inside.View.{state_of}
use Rattle.synic_board.proofs.Clocks.{ticked_before}
use Rattle.synic_board.proofs.machine.Machine.tick.Goals as goal

pub returns-then-not-some-clause-step : goal.returns-then-not-some-clause-step
returns-then-not-some-clause-step c =
    let was = state_of c.self.inside in
    let view : was ≡ c.args.self.now.state = ap (λ (h : BoardModel). h.state) c.self.view_is in
    let none : is_any_due (least (dues (bank_of was))) c.args.moment ≡ false =
    ap (λ (s : State). is_any_due (least (dues (bank_of s))) c.args.moment) view
    ∙ sym c.is_any_due-some.ensures ∙ c.if-not-some.true in
    let emitted : ticked was c.args.moment ≡ (at_moment was c.args.moment, Done, []) =
    ticked_before was c.args.moment c.if-moment-self.false c.if-moment-self-2.false none in
    (λ i. (at_moment was c.args.moment, Done, c.requires i)) ∙ sym emitted
    ∙ ap (λ (s : State). ticked s c.args.moment) view
