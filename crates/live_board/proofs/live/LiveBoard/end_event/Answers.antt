use Rattle.std.proofs.Common.{rules, ◌≡◌, ◌<◌, ◌*◌, ℕ, List, sym, ap, ◌∙◌, subst, arith, set, get_or, length, refl}
use Rattle.board_terms.specs.declared.pages.Kind.TheVariants.{Sim}
use Rattle.synic_board.specs.State.{State}
use Rattle.live_pages.specs.Page.{Page}
use Rattle.live_pages.specs.declared.access.Access.{Access}
use Rattle.std.specs.Prelude.{Some}
use Rattle.live_board.specs.Acting.{AccessesOnlyAt}
use Rattle.live_board.specs.Live.{LiveModel, Shadows, IsShown, HasProbed, log_of}
use Rattle.live_board.specs.inside.Pages.{logs_of}
use Rattle.live_board.specs.inside.Kinds.{eom_of}
use Rattle.live_board.proofs.Calm.{not-ended-own}
use Rattle.live_board.proofs.EndedPart.{eom-on}
use Rattle.live_board.proofs.Shadowed.{live, probed-at, only-here, part-shadows, part-live, untouched-live, same-shadows, part-at, indexed-live}
use Rattle.live_board.proofs.Named.{log-at, shadows-set, same-at, set-at, model, live-named, probed-named, only-at-named}
use Rattle.live_board.proofs.live.LiveBoard.end_event.Goals as goal

pub invariant_of-self : goal.invariant_of-self
invariant_of-self c =
    same-shadows _ _ _ (not-ended-own _ _ _ _ _ c.requires (search rules) c.perform.ensures.performs.step)
    c.self.invariant

pub returns-in_default-clause-live : goal.returns-in_default-clause-live
returns-in_default-clause-live c =
    same-at (live-named _ _ _) c.self.inside.board c.perform.new.self c.self.inside.pages.items _ c.self.view_is
    (untouched-live c.self.inside.board c.perform.new.self (logs_of c.self.inside.pages.items) _ _ _
    c.perform.ensures.performs.step)

pub invariant_of-self-2 : goal.invariant_of-self-2
invariant_of-self-2 c =
    let s : State = c.self.inside.board.state in
    let items : List Page = c.self.inside.pages.items in
    let pages : List (List Access) = logs_of items in
    let p : ℕ = c.in-Some.vp in
    let on = eom-on s p c.args.event.now (search rules) in
    let inside : 2 * p < length s.own = omega (arith, on, c.facts.ensures.shape.overlays) in
    let there : 2 * p < length pages = omega (arith, inside, c.self.invariant.count) in
    let page = log-at items (2 * p) c.index_mut-page.result.now there
    (c.index_mut-page.ensures.value ∙ ap (λ n. get_or items n c.index_mut-page.result.now) c.index_of.ensures) in
    let part = part-at s p Sim _ _ _ _ _ _ _ page c.end_on.ensures.part in
    shadows-set _ items _ c.end_on.new.page (subst (λ n. Shadows c.end_on.new.board.state
    (set pages n c.end_on.new.page.log)) (sym c.index_of.ensures)
    (part-shadows s _ pages p Sim _ _ _ _ inside c.self.invariant part))

pub returns-clause-live : goal.returns-clause-live
returns-clause-live c =
    let s : State = c.self.inside.board.state in
    let items : List Page = c.self.inside.pages.items in
    let pages : List (List Access) = logs_of items in
    let p : ℕ = c.in-Some.vp in
    let on = eom-on s p c.args.event.now (search rules) in
    let there : 2 * p < length pages = omega (arith, on, c.facts.ensures.shape.overlays, c.self.invariant.count) in
    let page = log-at items (2 * p) c.index_mut-page.result.now there
    (c.index_mut-page.ensures.value ∙ ap (λ n. get_or items n c.index_mut-page.result.now) c.index_of.ensures) in
    let part = part-at s p Sim _ _ _ _ _ _ _ page c.end_on.ensures.part in
    set-at (live-named _ _ _) c.self.inside.board c.end_on.new.board items c.args.self.now c.index_of.result
    c.index_mut-page.result.now
    c.end_on.new.page c.self.view_is c.index_mut-page.ensures.value c.end_on.ensures.name
    (indexed-live _ _ _ _ _ _ _ _ _ c.index_of.ensures
    (part-live c.self.inside.board c.end_on.new.board pages p Sim _ _ _ _ part))

pub returns-clause-probed : goal.returns-clause-probed
returns-clause-probed c p is =
    let s : State = c.self.inside.board.state in
    let items : List Page = c.self.inside.pages.items in
    let pages : List (List Access) = logs_of items in
    let at = λ (m : LiveModel). eom_of m.board.state c.args.event.now ≡ Some p in
    let here : eom_of s c.args.event.now ≡ Some p = subst at (sym c.self.view_is) is in
    let same : c.in-Some.vp ≡ p = search rules in
    let on = eom-on s c.in-Some.vp c.args.event.now (search rules) in
    let there : 2 * c.in-Some.vp < length pages =
    omega (arith, on, c.facts.ensures.shape.overlays, c.self.invariant.count) in
    let page = log-at items (2 * c.in-Some.vp) c.index_mut-page.result.now there
    (c.index_mut-page.ensures.value ∙ ap (λ n. get_or items n c.index_mut-page.result.now) c.index_of.ensures) in
    subst (λ n. IsShown c.args.self.now.board.state n Sim
    → HasProbed c.args.self.now.board.state n (log_of c.args.self.now n Sim)
    (log_of (model c.end_on.new.board (set items c.index_of.result c.end_on.new.page)) n Sim)) same
    (set-at (probed-named c.in-Some.vp) c.self.inside.board c.end_on.new.board items c.args.self.now c.index_of.result
    c.index_mut-page.result.now
    c.end_on.new.page c.self.view_is c.index_mut-page.ensures.value c.end_on.ensures.name
    (probed-at c.self.inside.board c.end_on.new.board pages (live c.self.inside.board pages) c.in-Some.vp
    c.index_of.result c.index_mut-page.result.now.log c.end_on.new.page.log refl c.index_of.ensures there page
    c.end_on.ensures.probed))

pub returns-clause-only : goal.returns-clause-only
returns-clause-only c p is =
    let s : State = c.self.inside.board.state in
    let items : List Page = c.self.inside.pages.items in
    let at = λ (m : LiveModel). eom_of m.board.state c.args.event.now ≡ Some p in
    let here : eom_of s c.args.event.now ≡ Some p = subst at (sym c.self.view_is) is in
    let same : c.in-Some.vp ≡ p = search rules in
    subst (λ n. AccessesOnlyAt n Sim c.args.self.now
    (model c.end_on.new.board (set items c.index_of.result c.end_on.new.page))) same
    (set-at (only-at-named c.in-Some.vp Sim) c.self.inside.board c.end_on.new.board items c.args.self.now
    c.index_of.result c.index_mut-page.result.now
    c.end_on.new.page c.self.view_is c.index_mut-page.ensures.value c.end_on.ensures.name
    (only-here c.self.inside.board c.end_on.new.board (logs_of items) c.in-Some.vp c.index_of.result Sim
    c.end_on.new.page.log c.index_of.ensures))
