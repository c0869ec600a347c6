use Rattle.std.proofs.Common.{◌≡◌, ℕ, ◌-◌, ◌<◌, Bool, true, false, length, ap, sym, ◌∙◌, subst, arith}
use Rattle.std.specs.Prelude.{filter}
use mir.Val.{bool_byte}
use Rattle.synic_board.specs.inside.Steps.{is_other}
use Rattle.stimer_bank.specs.Bank.{is_due_in}
use Rattle.synic_board.specs.State.{BoardModel, bank_of}
use Rattle.synic_board.specs.Timers.{most_expiries}
use Rattle.synic_board.proofs.Trying.{IsTrying, due_now, starts-trying, tried-all, tried-most, tried-rest, tries-due, none-due, first-is_due, expired, due-others, without-first}
use Rattle.synic_board.proofs.machine.Machine.try_due.Goals as goal

less : (n : ℕ) (b : Bool) → 0 < n → b ≡ true → n - bool_byte b < n
less n true some is = omega (arith, some)
less n false some is = absurd (cc)

-- whether a timer is due, by the fields
not-due : {was now : BoardModel} {b : Bool} (t : ℕ × ℕ) → was ≡ now
    → b ≡ is_due_in (bank_of was.state) t was.state.moment → b ≡ false
    → is_due_in (bank_of now.state) t now.state.moment ≡ false
not-due {was} {now} {b} t view is never =
    sym (ap (λ (h : BoardModel). is_due_in (bank_of h.state) t h.state.moment) view) ∙ sym is ∙ never

pub loop-timer-init : goal.loop-timer-init
loop-timer-init c =
    (omega arith, starts-trying c.args.self.now c.args.notices.now most_expiries (due_now c.args.self.now.state))

pub try_due_timer-requires-clause-is_due : goal.try_due_timer-requires-clause-is_due
try_due_timer-requires-clause-is_due c =
    first-is_due c.loop-timer.self c.in-Some.timer (omega arith) (sym (c.in-Some.ensures {u = tt}).first)

pub returns : goal.returns
returns c = tried-all _ _ _ _ _ _ _ _ c.loop-timer.invariant.1
    (none-due c.loop-timer.self.state (sym c.first_due.ensures.first ∙ c.in_default.is))

pub returns-then-left-eq0 : goal.returns-then-left-eq0
returns-then-left-eq0 c =
    let first = sym (c.in-Some.ensures {u = tt}).first in
    let h = tries-due c.loop-timer.self c.in-Some.timer
    (omega arith) first _ _ _ _ _ _ c.loop-timer.invariant.1 c.loop-timer.invariant.0 _ _
    c.try_due_timer.ensures.effected _ c.try_due_timer.ensures.ready in
    tried-most _ _ _ _ _ _ _ _ h c.if-left-eq0.true

pub returns-in_default-first_due : goal.returns-in_default-first_due
returns-in_default-first_due c =
    let first = sym (c.in-Some.ensures {u = tt}).first in
    let h = tries-due c.loop-timer.self c.in-Some.timer
    (omega arith) first _ _ _ _ _ _ c.loop-timer.invariant.1 c.loop-timer.invariant.0 _ _
    c.try_due_timer.ensures.effected _ c.try_due_timer.ensures.ready in
    let all = without-first c.loop-timer.self c.in-Some.timer
    (omega arith) first c.try_due_timer.new.self _ _ c.try_due_timer.ensures.effected in
    let none = none-due c.try_due_timer.new.self.state
    (sym c.first_due-in-Some.ensures.first ∙ c.in_default-first_due.is) in
    tried-all _ _ _ _ _ _ _ _ h (all ∙ ap (filter (is_other c.in-Some.timer)) none)

pub loop-timer-smaller : goal.loop-timer-smaller
loop-timer-smaller c =
    let first = sym (c.in-Some.ensures {u = tt}).first in
    let never = not-due c.in-Some.timer c.self.view_is c.is_due.ensures c.if-is_due.false in
    let gone = expired c.loop-timer.self c.in-Some.timer
    (omega arith) first c.try_due_timer.new.self _ _ c.try_due_timer.ensures.effected never in
    less c.loop-timer.left c.try_due_timer.result c.loop-timer.invariant.0 (c.try_due_timer.ensures.ready ∙ gone)

pub loop-timer-preserved : goal.loop-timer-preserved
loop-timer-preserved c =
    let first = sym (c.in-Some.ensures {u = tt}).first in
    let never = not-due c.in-Some.timer c.self.view_is c.is_due.ensures c.if-is_due.false in (
      omega (arith, c.if-left-eq0.false),
      subst (IsTrying c.args.self.now c.args.notices.now most_expiries
          (due_now c.args.self.now.state) c.try_due_timer.new.self c.try_due_timer.new.notices
          (c.loop-timer.left - bool_byte c.try_due_timer.result))
          (due-others c.loop-timer.self c.in-Some.timer
          (omega arith) first c.try_due_timer.new.self _ _ c.try_due_timer.ensures.effected never)
          (tries-due c.loop-timer.self c.in-Some.timer
          (omega arith) first _ _ _ _ _ _ c.loop-timer.invariant.1 c.loop-timer.invariant.0 _ _
          c.try_due_timer.ensures.effected _ c.try_due_timer.ensures.ready),
    )

pub try_others-requires : goal.try_others-requires
try_others-requires c =
    let first = sym (c.in-Some.ensures {u = tt}).first in
    let h = tries-due c.loop-timer.self c.in-Some.timer
    (omega arith) first _ _ _ _ _ _ c.loop-timer.invariant.1 c.loop-timer.invariant.0 _ _
    c.try_due_timer.ensures.effected _ c.try_due_timer.ensures.ready in
    record { room = omega (arith, h.room, ap length c.requires) }

pub returns-then-is_due : goal.returns-then-is_due
returns-then-is_due c =
    let first = sym (c.in-Some.ensures {u = tt}).first in
    let h = tries-due c.loop-timer.self c.in-Some.timer
    (omega arith) first _ _ _ _ _ _ c.loop-timer.invariant.1 c.loop-timer.invariant.0 _ _
    c.try_due_timer.ensures.effected _ c.try_due_timer.ensures.ready in
    let all = without-first c.loop-timer.self c.in-Some.timer
    (omega arith) first c.try_due_timer.new.self _ _ c.try_due_timer.ensures.effected in
    tried-rest _ _ _ _ _ _ _ _
    (subst (IsTrying c.args.self.now c.args.notices.now most_expiries
    (due_now c.args.self.now.state) c.try_due_timer.new.self c.try_due_timer.new.notices
    (c.loop-timer.left - bool_byte c.try_due_timer.result)) all h)
    _ _ c.try_others.ensures
