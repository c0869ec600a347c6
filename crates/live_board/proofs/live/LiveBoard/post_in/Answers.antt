use Rattle.std.proofs.Common.{rules, ◌<◌, ◌*◌, ℕ, List, sym, ap, ◌∙◌, subst, arith, set, get_or, length}
use Rattle.board_terms.specs.declared.pages.Kind.TheVariants.{Sim}
use Rattle.event_ports.specs.declared.ports.Port.{Port}
use Rattle.synic_board.specs.State.{State}
use Rattle.live_pages.specs.Page.{Page}
use Rattle.live_pages.specs.declared.access.Access.{Access}
use Rattle.live_board.specs.Live.{Shadows, IsShown, HasLooked, HasPlaced, slot_word}
use Rattle.live_board.specs.inside.Pages.{logs_of}
use Rattle.live_board.proofs.Shadowed.{part-shadows, part-live, untouched-live, same-shadows, not-open, part-at, indexed-live, port-at, only-at, only-none}
use Rattle.live_board.proofs.Named.{log-at, shadows-set, same-at, set-at, live-named, looked-named, placed-named, only-named}
use Rattle.live_board.proofs.live.LiveBoard.post_in.Goals as goal

pub invariant_of-self : goal.invariant_of-self
invariant_of-self c =
    same-shadows _ _ _ (not-open _ _ _ _ _ _ _ (search rules) c.post.ensures.performs.step) c.self.invariant

pub returns-in_default-clause-live : goal.returns-in_default-clause-live
returns-in_default-clause-live c =
    same-at (live-named _ _ _) c.self.inside.board c.post.new.self c.self.inside.pages.items _ c.self.view_is
    (untouched-live c.self.inside.board c.post.new.self (logs_of c.self.inside.pages.items) _ _ _
    c.post.ensures.performs.step)

pub invariant_of-self-2 : goal.invariant_of-self-2
invariant_of-self-2 c =
    let s : State = c.self.inside.board.state in
    let items : List Page = c.self.inside.pages.items in
    let pages : List (List Access) = logs_of items in
    let p : ℕ = c.in-Some.target.vp in
    let reached = c.facts.ensures.sound.whole.ports c.args.port c.in-Some.target (search rules) in
    let inside : 2 * p < length s.own = omega (arith, reached.0, c.facts.ensures.shape.overlays) in
    let there : 2 * p < length pages = omega (arith, inside, c.self.invariant.count) in
    let page = log-at items (2 * p) c.index_mut-page.result.now there
    (c.index_mut-page.ensures.value ∙ ap (λ n. get_or items n c.index_mut-page.result.now) c.index_of.ensures) in
    let part = part-at s p Sim _ _ _ _ _ _ _ page c.post_to.ensures.part in
    shadows-set _ items _ c.post_to.new.page (subst (λ n. Shadows c.post_to.new.board.state
    (set pages n c.post_to.new.page.log)) (sym c.index_of.ensures)
    (part-shadows s _ pages p Sim _ _ _ _ inside c.self.invariant part))

pub returns-clause-live : goal.returns-clause-live
returns-clause-live c =
    let s : State = c.self.inside.board.state in
    let items : List Page = c.self.inside.pages.items in
    let pages : List (List Access) = logs_of items in
    let p : ℕ = c.in-Some.target.vp in
    let reached = c.facts.ensures.sound.whole.ports c.args.port c.in-Some.target (search rules) in
    let there : 2 * p < length pages =
    omega (arith, reached.0, c.facts.ensures.shape.overlays, c.self.invariant.count) in
    let page = log-at items (2 * p) c.index_mut-page.result.now there
    (c.index_mut-page.ensures.value ∙ ap (λ n. get_or items n c.index_mut-page.result.now) c.index_of.ensures) in
    let part = part-at s p Sim _ _ _ _ _ _ _ page c.post_to.ensures.part in
    set-at (live-named _ _ _) c.self.inside.board c.post_to.new.board items c.args.self.now c.index_of.result
    c.index_mut-page.result.now
    c.post_to.new.page c.self.view_is c.index_mut-page.ensures.value c.post_to.ensures.name
    (indexed-live _ _ _ _ _ _ _ _ _ c.index_of.ensures
    (part-live c.self.inside.board c.post_to.new.board pages p Sim _ _ _ _ part))

pub returns-clause-looked : goal.returns-clause-looked
returns-clause-looked c =
    let items : List Page = c.self.inside.pages.items in
    let pages : List (List Access) = logs_of items in
    let p : ℕ = c.in-Some.target.vp in
    let reached = c.facts.ensures.sound.whole.ports c.args.port c.in-Some.target (search rules) in
    let there : 2 * p < length pages =
    omega (arith, reached.0, c.facts.ensures.shape.overlays, c.self.invariant.count) in
    let page = log-at items (2 * p) c.index_mut-page.result.now there
    (c.index_mut-page.ensures.value ∙ ap (λ n. get_or items n c.index_mut-page.result.now) c.index_of.ensures) in
    set-at (looked-named c.args.port) c.self.inside.board c.post_to.new.board items c.args.self.now c.index_of.result
    c.index_mut-page.result.now c.post_to.new.page c.self.view_is c.index_mut-page.ensures.value
    c.post_to.ensures.name
    (port-at (λ (t : Port) l n. IsShown c.self.inside.board.state t.vp Sim → HasLooked (32 * t.sint) l n)
    c.self.inside.board pages c.args.port
    c.index_of.result c.in-Some.target _ _ (search rules) c.index_of.ensures there page c.post_to.ensures.looked)

pub returns-clause-placed : goal.returns-clause-placed
returns-clause-placed c =
    let items : List Page = c.self.inside.pages.items in
    let pages : List (List Access) = logs_of items in
    let p : ℕ = c.in-Some.target.vp in
    let reached = c.facts.ensures.sound.whole.ports c.args.port c.in-Some.target (search rules) in
    let there : 2 * p < length pages =
    omega (arith, reached.0, c.facts.ensures.shape.overlays, c.self.invariant.count) in
    let page = log-at items (2 * p) c.index_mut-page.result.now there
    (c.index_mut-page.ensures.value ∙ ap (λ n. get_or items n c.index_mut-page.result.now) c.index_of.ensures) in
    set-at (placed-named c.args.port) c.self.inside.board c.post_to.new.board items c.args.self.now c.index_of.result
    c.index_mut-page.result.now c.post_to.new.page c.self.view_is c.index_mut-page.ensures.value
    c.post_to.ensures.name
    (port-at (λ (t : Port) l n. HasPlaced t.sint (slot_word c.post_to.new.board.state t.vp t.sint) l n)
    c.self.inside.board pages c.args.port
    c.index_of.result c.in-Some.target _ _ (search rules) c.index_of.ensures there page c.post_to.ensures.placed)

pub returns-clause-only : goal.returns-clause-only
returns-clause-only c =
    let items : List Page = c.self.inside.pages.items in
    set-at (only-named c.args.port Sim) c.self.inside.board c.post_to.new.board items c.args.self.now c.index_of.result
    c.index_mut-page.result.now c.post_to.new.page c.self.view_is c.index_mut-page.ensures.value c.post_to.ensures.name
    (only-at c.self.inside.board c.post_to.new.board (logs_of items) c.args.port c.index_of.result Sim c.in-Some.target
    c.post_to.new.page.log (search rules) c.index_of.ensures)

pub returns-in_default-clause-only : goal.returns-in_default-clause-only
returns-in_default-clause-only c =
    same-at (only-named c.args.port Sim) c.self.inside.board c.post.new.self c.self.inside.pages.items _ c.self.view_is
    (only-none c.self.inside.board c.post.new.self (logs_of c.self.inside.pages.items) c.args.port Sim (search rules))
