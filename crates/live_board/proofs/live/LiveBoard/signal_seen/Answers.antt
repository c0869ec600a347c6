use Rattle.std.proofs.Common.{rules, ◌<◌, ◌+◌, ◌*◌, ℕ, List, ap, ◌∙◌, arith, get_or, length, refl, sym, subst, set}
use Rattle.board_terms.specs.declared.pages.Kind.TheVariants.{Sief}
use Rattle.synic_board.specs.State.{State}
use Rattle.live_pages.specs.Page.{Page}
use Rattle.live_pages.specs.declared.access.Access.{Access}
use Rattle.live_board.specs.Live.{Shadows}
use Rattle.live_board.specs.inside.Pages.{logs_of}
use Rattle.live_board.proofs.Shadowed.{part-shadows, part-live, part-at, indexed-live, set-seen, live, only-at}
use Rattle.live_board.proofs.Named.{shadows-set, log-at, set-at, live-named, set-named, only-named}
use Rattle.live_board.proofs.live.LiveBoard.signal_seen.Goals as goal

pub invariant_of-self-2 : goal.invariant_of-self-2
invariant_of-self-2 c =
    let s : State = c.self.inside.board.state in
    let items : List Page = c.self.inside.pages.items in
    let pages : List (List Access) = logs_of items in
    let p : ℕ = c.in-Some.target.vp in
    let reached = c.facts.ensures.sound.whole.ports c.args.port c.in-Some.target (search rules) in
    let inside : 2 * p + 1 < length s.own = omega (arith, reached.0, c.facts.ensures.shape.overlays) in
    let there : 2 * p + 1 < length pages = omega (arith, inside, c.self.invariant.count) in
    let page = log-at items (2 * p + 1) c.index_mut-page.result.now there
    (c.index_mut-page.ensures.value ∙ ap (λ n. get_or items n c.index_mut-page.result.now) c.index_of.ensures) in
    let part = part-at s p Sief _ _ _ _ _ _ _ page c.signal_shown-was.ensures.part in
    shadows-set _ items _ c.signal_shown-was.new.page
    (subst (λ n. Shadows c.signal_shown-was.new.board.state (set pages n c.signal_shown-was.new.page.log))
    (sym c.index_of.ensures) (part-shadows s _ pages p Sief _ _ _ _ inside c.self.invariant part))

pub returns-clause-some : goal.returns-clause-some
returns-clause-some c =
    let s : State = c.self.inside.board.state in
    let items : List Page = c.self.inside.pages.items in
    let pages : List (List Access) = logs_of items in
    let p : ℕ = c.in-Some.target.vp in
    let reached = c.facts.ensures.sound.whole.ports c.args.port c.in-Some.target (search rules) in
    let there : 2 * p + 1 < length pages =
    omega (arith, reached.0, c.facts.ensures.shape.overlays, c.self.invariant.count) in
    let page = log-at items (2 * p + 1) c.index_mut-page.result.now there
    (c.index_mut-page.ensures.value ∙ ap (λ n. get_or items n c.index_mut-page.result.now) c.index_of.ensures) in
    let part = part-at s p Sief _ _ _ _ _ _ _ page c.signal_shown-was.ensures.part in
    set-at (live-named _ _ _) c.self.inside.board c.signal_shown-was.new.board items c.args.self.now c.index_of.result
    c.index_mut-page.result.now
    c.signal_shown-was.new.page c.self.view_is c.index_mut-page.ensures.value c.signal_shown-was.ensures.name
    (indexed-live _ _ _ _ _ _ _ _ _ c.index_of.ensures
    (part-live c.self.inside.board c.signal_shown-was.new.board pages p Sief _ _ _ _ part))

pub returns-clause-set : goal.returns-clause-set
returns-clause-set c =
    let s : State = c.self.inside.board.state in
    let items : List Page = c.self.inside.pages.items in
    let pages : List (List Access) = logs_of items in
    let p : ℕ = c.in-Some.target.vp in
    let reached = c.facts.ensures.sound.whole.ports c.args.port c.in-Some.target (search rules) in
    let there : 2 * p + 1 < length pages =
    omega (arith, reached.0, c.facts.ensures.shape.overlays, c.self.invariant.count) in
    let page = log-at items (2 * p + 1) c.index_mut-page.result.now there
    (c.index_mut-page.ensures.value ∙ ap (λ n. get_or items n c.index_mut-page.result.now) c.index_of.ensures) in
    set-at (set-named c.args.port c.args.flag _) c.self.inside.board c.signal_shown-was.new.board items
    c.args.self.now c.index_of.result c.index_mut-page.result.now
    c.signal_shown-was.new.page c.self.view_is c.index_mut-page.ensures.value c.signal_shown-was.ensures.name
    (set-seen c.self.inside.board c.signal_shown-was.new.board pages (live c.self.inside.board pages)
    c.in-Some.target c.args.port c.args.flag c.in-Some-flag_of.place c.index_of.result c.index_mut-page.result.now.log
    c.signal_shown-was.new.page.log _ refl c.index_of.ensures there page (search rules) (search rules)
    c.signal_shown-was.ensures.set)

pub returns-clause-only : goal.returns-clause-only
returns-clause-only c =
    let items : List Page = c.self.inside.pages.items in
    set-at (only-named c.args.port Sief) c.self.inside.board c.signal_shown-was.new.board items c.args.self.now
    c.index_of.result
    c.index_mut-page.result.now c.signal_shown-was.new.page c.self.view_is c.index_mut-page.ensures.value
    c.signal_shown-was.ensures.name
    (only-at c.self.inside.board c.signal_shown-was.new.board (logs_of items) c.args.port c.index_of.result Sief
    c.in-Some.target
    c.signal_shown-was.new.page.log (search rules) c.index_of.ensures)
