use Rattle.std.proofs.Common.{◌≡◌, ℕ, ◌<◌, true, length, refl, ap, sym, ◌∙◌, subst, arith}
use Rattle.std.specs.Prelude.{None, Some}
use Rattle.std.specs.Option.{option_map, IsSome}
use Rattle.board_terms.specs.Dues.{least}
use Rattle.stimer_bank.specs.Timer.{mode_of}
use Rattle.stimer_bank.specs.Bank.{Bank, timer_in, dues}
use Rattle.synic_board.specs.Summaries.{Values}
use Rattle.synic_board.specs.State.{BoardModel, processors, bank_of}
use Rattle.synic_board.specs.Timers.{mode_at, is_ready_for}
use Rattle.synic_board.specs.Alarm.{alarm_after}
use Rattle.synic_board.proofs.Trying.{least-on}
use Rattle.synic_board.proofs.Alarming.{none-due, first-ready, first-due, searched}
use Rattle.synic_board.proofs.machine.Machine.alarm.Goals as goal

pub mode-requires : goal.mode-requires
mode-requires c =
    let is : least (dues c.self.inside.timers) ≡ Some (c.in-Some.first.0, c.in-Some.first.1) =
    sym (ap (λ (v : Values). v.earliest) c.self.invariant.summary) ∙ sym c.earliest.ensures ∙ c.in-Some.is in
    let due = first-due c.self.inside.timers c.in-Some.first.0 c.in-Some.first.1 is in
    subst IsSome (sym due) refl

pub is_ready-requires : goal.is_ready-requires
is_ready-requires c =
    let is : least (dues c.self.inside.timers) ≡ Some (c.in-Some.first.0, c.in-Some.first.1) =
    sym (ap (λ (v : Values). v.earliest) c.self.invariant.summary) ∙ sym c.earliest.ensures ∙ c.in-Some.is in
    let on = least-on c.self.inside.timers (length c.self.inside.lapics.items) c.in-Some.first.0 c.in-Some.first.1
    c.self.invariant.timers (omega arith) is in
    subst (λ (h : BoardModel). c.in-Some.first.1.0 < processors h.state) c.self.view_is on

pub returns-then-is_ready : goal.returns-then-is_ready
returns-then-is_ready c =
    let s = c.args.self.now.state in
    let inner : least (dues c.self.inside.timers) ≡ Some (c.in-Some.first.0, c.in-Some.first.1) =
    sym (ap (λ (v : Values). v.earliest) c.self.invariant.summary) ∙ sym c.earliest.ensures ∙ c.in-Some.is in
    let is : least (dues (bank_of s)) ≡ Some (c.in-Some.first.0, c.in-Some.first.1) =
    subst (λ (h : BoardModel). least (dues (bank_of h.state)) ≡ Some (c.in-Some.first.0, c.in-Some.first.1))
    c.self.view_is
    inner in
    let bank : bank_of s ≡ c.self.inside.timers = ap (λ (h : BoardModel). bank_of h.state) (sym c.self.view_is) in
    let mode : mode_at s c.in-Some.first.1 ≡ c.mode.result =
    ap (λ (b : Bank). mode_of (timer_in b c.in-Some.first.1).config) bank ∙ sym c.mode.ensures in
    let could : is_ready_for s c.in-Some.first.1 (mode_at s c.in-Some.first.1) ≡ true =
    ap (is_ready_for s c.in-Some.first.1) mode ∙ sym c.is_ready.ensures ∙ c.if-is_ready.true in
    ap Some c.later.ensures ∙ sym (first-ready s c.in-Some.first.0 c.in-Some.first.1 is could)

pub returns-in-None : goal.returns-in-None
returns-in-None c =
    let inner : least (dues c.self.inside.timers) ≡ None =
    sym (ap (λ (v : Values). v.earliest) c.self.invariant.summary) ∙ sym c.earliest.ensures ∙ c.in-None.is in
    let is : least (dues (bank_of c.args.self.now.state)) ≡ None =
    subst (λ (h : BoardModel). least (dues (bank_of h.state)) ≡ None) c.self.view_is inner in
    sym (none-due c.args.self.now.state is)

pub returns-in-Some-least_ready : goal.returns-in-Some-least_ready
returns-in-Some-least_ready c =
    let s = c.args.self.now.state in
    ap Some c.later-in-Some-least_ready.ensures
    ∙ ap (option_map (λ (r : ℕ × ℕ). alarm_after s.moment r.0)) (sym c.in-Some-least_ready.is)
    ∙ searched s c.least_ready.result c.least_ready.ensures

pub returns-in-None-least_ready : goal.returns-in-None-least_ready
returns-in-None-least_ready c =
    let s = c.args.self.now.state in
    ap (option_map (λ (r : ℕ × ℕ). alarm_after s.moment r.0)) (sym c.in-None-least_ready.is)
    ∙ searched s c.least_ready.result c.least_ready.ensures
