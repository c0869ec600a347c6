use Rattle.std.proofs.Common.{rules, ◌≡◌, ◌≤◌, true, false, sym, ◌∙◌, subst, arith}
use Rattle.synic_board.specs.declared.event.Event.TheVariants.{Tick}
use Rattle.synic_board.specs.declared.event.Reply.{Reply}
use Rattle.synic_board.specs.State.{State}
use Rattle.synic_board.specs.Step.{step}
use Rattle.live_board.specs.Live.{is_any_due}
use Rattle.live_board.specs.inside.Pages.{logs_of}
use Rattle.live_board.proofs.Clocked.{early-own, ticked-quiet, tick-done}
use Rattle.live_board.proofs.DirectTicks.{all-tick}
use Rattle.live_board.proofs.Shadowed.{same-shadows}
use Rattle.live_board.proofs.Named.{same-at, ticked-named}
use Rattle.live_board.proofs.live.LiveBoard.tick_directly.Goals as goal

pub invariant_of-self-then-not-is_any_due : goal.invariant_of-self-then-not-is_any_due
invariant_of-self-then-not-is_any_due c =
    let none : is_any_due c.self.inside.board.state c.args.moment ≡ false = search rules in
    same-shadows _ _ _ (early-own _ _ _ _ _ none c.perform.ensures.performs.step)
    c.self.invariant

pub returns-then-not-is_any_due-clause-done : goal.returns-then-not-is_any_due-clause-done
returns-then-not-is_any_due-clause-done c _ =
    let s : State = c.self.inside.board.state in
    let none : is_any_due s c.args.moment ≡ false = search rules in
    let onward : s.moment ≤ c.args.moment = omega (arith, c.if-moment.false, c.moment.ensures) in
    let is = c.perform.ensures.performs.step in
    let one = subst (λ (r : Reply). (
      c.perform.new.self.state,
      r,
      c.perform.new.notices,
    ) ≡ step s (Tick c.args.moment))
    (tick-done s _ c.args.moment _ _ onward is) is in
    same-at (ticked-named _ _ _ _) c.self.inside.board c.perform.new.self
    c.self.inside.pages.items _ c.self.view_is
    (ticked-quiet c.self.inside.board c.perform.new.self (logs_of c.self.inside.pages.items) _ _ _
    (λ yes. absurd (let e : true ≡ false = sym yes ∙ none in cc)) one)

pub invariant_of-self-2 : goal.invariant_of-self-2
invariant_of-self-2 c =
    same-shadows _ _ _ (all-tick _ _ _ _ _ (c.are_all_direct.ensures (search rules)) c.facts.ensures.shape
    c.perform-2.ensures.performs.step) c.self.invariant

pub returns-clause-done : goal.returns-clause-done
returns-clause-done c _ =
    let s : State = c.self.inside.board.state in
    let onward : s.moment ≤ c.args.moment = omega (arith, c.if-moment.false, c.moment.ensures) in
    let is = c.perform-2.ensures.performs.step in
    let one = subst (λ (r : Reply). (c.perform-2.new.self.state, r, c.perform-2.new.notices)
    ≡ step s (Tick c.args.moment)) (tick-done s _ c.args.moment _ _ onward is) is in
    same-at (ticked-named _ _ _ _) c.self.inside.board c.perform-2.new.self c.self.inside.pages.items _ c.self.view_is
    (ticked-quiet c.self.inside.board c.perform-2.new.self (logs_of c.self.inside.pages.items) _ _ _
    (λ _. c.are_all_direct.ensures (search rules)) one)
