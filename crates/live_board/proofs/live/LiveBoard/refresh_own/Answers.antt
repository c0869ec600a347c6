use Rattle.std.proofs.Common.{◌<◌, ◌+◌, ◌*◌, ℕ, List, [], refl, sym, ap, ◌∙◌, subst, arith, set, get_or, length, length-set, get_or-set_other, ◌≡◌}
use Rattle.synic_board.specs.State.{State, processors}
use Rattle.live_pages.specs.Page.{Page}
use Rattle.live_pages.specs.declared.access.Access.{Access}
use Rattle.live_board.specs.Live.{LiveModel}
use Rattle.live_board.specs.inside.Pages.{logs_of}
use Rattle.live_board.proofs.Refreshed.{refreshed-at, refreshed-shadows}
use Rattle.live_board.proofs.Shadowed.{live}
use Rattle.live_board.proofs.Named.{log-at, logs-set, shadows-set-twice, set-twice-at, refreshed-named}
use Rattle.live_board.proofs.live.LiveBoard.refresh_own.Goals as goal

pub invariant_of-self : goal.invariant_of-self
invariant_of-self c =
    let s : State = c.self.inside.board.state in
    let p : ℕ = c.args.vp in
    let on = subst (λ (m : LiveModel). p < processors m.board.state) (sym c.self.view_is) c.requires in
    let inside : 2 * p + 1 < length s.own = omega (arith, on, c.facts.ensures.shape.overlays) in
    shadows-set-twice _ c.self.inside.pages.items _ _ c.refresh_page.new.page c.refresh_page-2.new.page
    (refreshed-shadows s _ _ _ p _ _ _ _ _ _ _ _ _ c.index_of.ensures c.index_of-2.ensures inside c.self.invariant
    c.refresh_page.ensures.loaded c.refresh_page-2.ensures.loaded)

pub returns : goal.returns
returns c =
    let items : List Page = c.self.inside.pages.items in
    let pages : List (List Access) = logs_of items in
    let p : ℕ = c.args.vp in
    let on = subst (λ (m : LiveModel). p < processors m.board.state) (sym c.self.view_is) c.requires in
    let size : 2 * p + 1 < length pages = omega (arith, on, c.facts.ensures.shape.overlays, c.self.invariant.count) in
    let first = log-at items (2 * p) c.index_mut-sim.result.now (omega (arith, size))
    (c.index_mut-sim.ensures.value ∙ ap (λ n. get_or items n c.index_mut-sim.result.now) c.index_of.ensures) in
    let items1 : List Page = set items c.index_of.result c.refresh_page.new.page in
    let flags : c.index_mut-sief.result.now ≡ get_or items1 (2 * p + 1) c.index_mut-sief.result.now =
    c.index_mut-sief.ensures.value ∙ ap (λ n. get_or items1 n c.index_mut-sief.result.now) c.index_of-2.ensures in
    let place = ap (λ ps. get_or ps (2 * p + 1) []) (logs-set items c.index_of.result c.refresh_page.new.page) in
    let second =
    log-at items1 (2 * p + 1) c.index_mut-sief.result.now
    (omega (
      arith,
      size,
      ap length (logs-set items c.index_of.result c.refresh_page.new.page),
      length-set pages c.index_of.result c.refresh_page.new.page.log,
    )) flags ∙ place in
    let apart = get_or-set_other pages c.index_of.result (2 * p + 1) c.refresh_page.new.page.log []
    (λ e. omega (arith, e, c.index_of.ensures)) in
    set-twice-at (refreshed-named p _) c.self.inside.board c.refresh_page-2.new.board items c.args.self.now
    c.index_of.result c.index_of-2.result c.index_mut-sim.result.now c.refresh_page.new.page
    c.index_mut-sief.result.now c.refresh_page-2.new.page c.self.view_is c.index_mut-sim.ensures.value
    c.refresh_page.ensures.name c.index_mut-sief.ensures.value c.refresh_page-2.ensures.name
    (refreshed-at c.self.inside.board c.refresh_page.new.board c.refresh_page-2.new.board pages
    (live c.self.inside.board pages) p c.index_of.result c.index_of-2.result _ _ _ _ _ _ _ refl c.index_of.ensures
    c.index_of-2.ensures first (second ∙ apart) c.clear.ensures
    c.refresh_page.ensures.loaded c.refresh_page-2.ensures.loaded)
