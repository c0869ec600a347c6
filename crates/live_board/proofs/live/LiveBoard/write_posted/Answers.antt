use Rattle.std.proofs.Common.{rules, ◌≡◌, ◌<◌, ◌*◌, ℕ, List, refl, sym, ap, ◌∙◌, subst, arith, set, get_or, length}
use Rattle.std.specs.Prelude.{Some}
use Rattle.synic_board.specs.State.{State}
use Rattle.live_pages.specs.Page.{Page}
use Rattle.live_pages.specs.declared.access.Access.{Access}
use Rattle.live_board.specs.Live.{LiveModel, Shadows, IsTimed}
use Rattle.live_board.specs.inside.Pages.{logs_of}
use Rattle.live_board.specs.Timers.{timer_of}
use Rattle.live_board.specs.inside.Parts.{IsTimedPart}
use Rattle.live_board.proofs.Calm.{not-timed-own}
use Rattle.live_board.proofs.TimedPart.{timer-on}
use Rattle.live_board.proofs.Shadowed.{live, timed-at, timed-shadows, same-shadows}
use Rattle.live_board.proofs.Named.{log-at, shadows-set, same-at, set-at, model, quietly-named, timed-named}
use Rattle.live_board.proofs.live.LiveBoard.write_posted.Goals as goal

pub invariant_of-self : goal.invariant_of-self
invariant_of-self c =
    same-shadows _ _ _ (not-timed-own _ _ _ _ _ c.requires (search rules) c.perform.ensures.performs.step)
    c.self.invariant

pub returns-in_default-clause-refused : goal.returns-in_default-clause-refused
returns-in_default-clause-refused c none = (
  same-at (quietly-named _ _ _) c.self.inside.board c.perform.new.self c.self.inside.pages.items _ c.self.view_is
      (record { pages = refl; names = refl; performs = c.perform.ensures.performs }),
  refl,
)

pub invariant_of-self-2 : goal.invariant_of-self-2
invariant_of-self-2 c =
    let s : State = c.self.inside.board.state in
    let items : List Page = c.self.inside.pages.items in
    let pages : List (List Access) = logs_of items in
    let p : ℕ = c.in-Some.vp in
    let on = timer-on s p c.args.event.now (search rules) in
    let inside : 2 * p < length s.own = omega (arith, on, c.facts.ensures.shape.overlays) in
    let there : 2 * p < length pages = omega (arith, inside, c.self.invariant.count) in
    let page = log-at items (2 * p) c.index_mut-page.result.now there
    (c.index_mut-page.ensures.value ∙ ap (λ n. get_or items n c.index_mut-page.result.now) c.index_of.ensures) in
    let part = subst
    (λ l. IsTimedPart s p l c.args.event.now c.time_posted.new.board.state c.time_posted.new.page.log
    c.time_posted.result.0 c.time_posted.result.1 c.time_posted.new.notices) page c.time_posted.ensures.timed in
    shadows-set _ items _ c.time_posted.new.page (subst (λ n. Shadows c.time_posted.new.board.state
    (set pages n c.time_posted.new.page.log)) (sym c.index_of.ensures)
    (timed-shadows s _ pages p _ _ _ _ _ inside c.self.invariant part))

pub returns-clause-timed : goal.returns-clause-timed
returns-clause-timed c p is =
    let s : State = c.self.inside.board.state in
    let items : List Page = c.self.inside.pages.items in
    let pages : List (List Access) = logs_of items in
    let at = λ (m : LiveModel). timer_of m.board.state c.args.event.now ≡ Some p in
    let here : timer_of s c.args.event.now ≡ Some p = subst at (sym c.self.view_is) is in
    let same : c.in-Some.vp ≡ p = search rules in
    let on = timer-on s c.in-Some.vp c.args.event.now (search rules) in
    let there : 2 * c.in-Some.vp < length pages =
    omega (arith, on, c.facts.ensures.shape.overlays, c.self.invariant.count) in
    let page = log-at items (2 * c.in-Some.vp) c.index_mut-page.result.now there
    (c.index_mut-page.ensures.value ∙ ap (λ n. get_or items n c.index_mut-page.result.now) c.index_of.ensures) in
    subst (λ n. IsTimed n c.args.self.now c.args.event.now
    (model c.time_posted.new.board (set items c.index_of.result c.time_posted.new.page)) c.time_posted.result.0
    c.time_posted.result.1 c.time_posted.new.notices) same
    (set-at (timed-named c.in-Some.vp _ _ _ _) c.self.inside.board c.time_posted.new.board items c.args.self.now
    c.index_of.result c.index_mut-page.result.now
    c.time_posted.new.page c.self.view_is c.index_mut-page.ensures.value c.time_posted.ensures.name
    (timed-at c.self.inside.board c.time_posted.new.board pages (live c.self.inside.board pages) c.in-Some.vp
    c.index_of.result c.index_mut-page.result.now.log c.time_posted.new.page.log _ _ _ _ refl c.index_of.ensures page
    c.time_posted.ensures.timed))
