use Rattle.std.proofs.Common.{◌<◌, ◌*◌, ℕ, List, sym, ap, ◌∙◌, subst, arith, set, get_or, length}
use Rattle.synic_board.specs.State.{State, processors}
use Rattle.live_pages.specs.Page.{Page}
use Rattle.live_pages.specs.declared.access.Access.{Access}
use Rattle.live_board.specs.Live.{LiveModel, Shadows}
use Rattle.live_board.specs.inside.Pages.{logs_of}
use Rattle.live_board.proofs.Shadowed.{viewed-shadows, viewed-observed, viewed-at, indexed-observed}
use Rattle.live_board.proofs.Named.{log-at, shadows-set, set-at, observed-named}
use Rattle.live_board.proofs.live.LiveBoard.observe_own.Goals as goal

pub invariant_of-self : goal.invariant_of-self
invariant_of-self c =
    let s : State = c.self.inside.board.state in
    let items : List Page = c.self.inside.pages.items in
    let pages : List (List Access) = logs_of items in
    let p : ℕ = c.args.vp in
    let on = subst (λ (m : LiveModel). p < processors m.board.state) (sym c.self.view_is) c.requires in
    let inside : 2 * p < length s.own = omega (arith, on, c.facts.ensures.shape.overlays) in
    let there : 2 * p < length pages = omega (arith, inside, c.self.invariant.count) in
    let page = log-at items (2 * p) c.index_mut-page.result.now there
    (c.index_mut-page.ensures.value ∙ ap (λ n. get_or items n c.index_mut-page.result.now) c.index_of.ensures) in
    let viewed = viewed-at s p _ _ _ _ _ page c.view_slots.ensures.viewed in
    shadows-set _ items _ c.view_slots.new.page (subst (λ n. Shadows c.view_slots.new.board.state
    (set pages n c.view_slots.new.page.log)) (sym c.index_of.ensures)
    (viewed-shadows s _ pages p _ _ inside c.self.invariant viewed))

pub returns : goal.returns
returns c =
    let s : State = c.self.inside.board.state in
    let items : List Page = c.self.inside.pages.items in
    let pages : List (List Access) = logs_of items in
    let p : ℕ = c.args.vp in
    let on = subst (λ (m : LiveModel). p < processors m.board.state) (sym c.self.view_is) c.requires in
    let there : 2 * p < length pages = omega (arith, on, c.facts.ensures.shape.overlays, c.self.invariant.count) in
    let page = log-at items (2 * p) c.index_mut-page.result.now there
    (c.index_mut-page.ensures.value ∙ ap (λ n. get_or items n c.index_mut-page.result.now) c.index_of.ensures) in
    let viewed = viewed-at s p _ _ _ _ _ page c.view_slots.ensures.viewed in
    set-at (observed-named _ _) c.self.inside.board c.view_slots.new.board items c.args.self.now c.index_of.result
    c.index_mut-page.result.now
    c.view_slots.new.page c.self.view_is c.index_mut-page.ensures.value c.view_slots.ensures.name
    (indexed-observed _ _ _ _ _ _ _ _ c.index_of.ensures
    (viewed-observed c.self.inside.board c.view_slots.new.board pages p _ _ viewed))
