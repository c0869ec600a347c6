use Rattle.std.proofs.Common.{rules, ◌<◌, ◌+◌, ◌*◌, ℕ, List, sym, ap, ◌∙◌, subst, arith, set, get_or, length}
use Rattle.board_terms.specs.declared.pages.Kind.TheVariants.{Sief}
use Rattle.synic_board.specs.State.{State}
use Rattle.live_pages.specs.Page.{Page}
use Rattle.live_pages.specs.declared.access.Access.{Access}
use Rattle.live_board.specs.Live.{LiveModel, Shadows}
use Rattle.live_board.specs.inside.Pages.{logs_of}
use Rattle.live_board.specs.inside.Parts.{IsUnseen}
use Rattle.live_board.proofs.Shadowed.{part-shadows, part-live, untouched-live, same-shadows, not-signalled, part-at, indexed-live, only-at, only-none}
use Rattle.live_board.proofs.Named.{log-at, shadows-set, same-at, set-at, live-named, only-named}
use Rattle.live_board.proofs.live.LiveBoard.signal_unseen.Goals as goal

pub invariant_of-self : goal.invariant_of-self
invariant_of-self c =
    same-shadows _ _ _ (not-signalled _ _ _ _ _ _ (search rules) c.perform.ensures.performs.step) c.self.invariant

pub returns-in_default-clause-live : goal.returns-in_default-clause-live
returns-in_default-clause-live c =
    same-at (live-named _ _ _) c.self.inside.board c.perform.new.self c.self.inside.pages.items _ c.self.view_is
    (untouched-live c.self.inside.board c.perform.new.self (logs_of c.self.inside.pages.items) _ _ _
    c.perform.ensures.performs.step)

pub invariant_of-self-2 : goal.invariant_of-self-2
invariant_of-self-2 c =
    let s : State = c.self.inside.board.state in
    let items : List Page = c.self.inside.pages.items in
    let pages : List (List Access) = logs_of items in
    let p : ℕ = c.in-Some.target.vp in
    let reached = c.facts.ensures.sound.whole.ports c.args.port c.in-Some.target (search rules) in
    let inside : 2 * p + 1 < length s.own = omega (arith, reached.0, c.facts.ensures.shape.overlays) in
    let there : 2 * p + 1 < length pages = omega (arith, inside, c.self.invariant.count) in
    let page = log-at items (2 * p + 1) c.index_mut-page.result.now there
    (c.index_mut-page.ensures.value ∙ ap (λ n. get_or items n c.index_mut-page.result.now) c.index_of.ensures) in
    let part = part-at s p Sief _ _ _ _ _ _ _ page c.signal_to.ensures.part in
    shadows-set _ items _ c.signal_to.new.page (subst (λ n. Shadows c.signal_to.new.board.state
    (set pages n c.signal_to.new.page.log)) (sym c.index_of.ensures)
    (part-shadows s _ pages p Sief _ _ _ _ inside c.self.invariant part))

pub returns-clause-live : goal.returns-clause-live
returns-clause-live c =
    let s : State = c.self.inside.board.state in
    let items : List Page = c.self.inside.pages.items in
    let pages : List (List Access) = logs_of items in
    let p : ℕ = c.in-Some.target.vp in
    let reached = c.facts.ensures.sound.whole.ports c.args.port c.in-Some.target (search rules) in
    let there : 2 * p + 1 < length pages =
    omega (arith, reached.0, c.facts.ensures.shape.overlays, c.self.invariant.count) in
    let page = log-at items (2 * p + 1) c.index_mut-page.result.now there
    (c.index_mut-page.ensures.value ∙ ap (λ n. get_or items n c.index_mut-page.result.now) c.index_of.ensures) in
    let part = part-at s p Sief _ _ _ _ _ _ _ page c.signal_to.ensures.part in
    set-at (live-named _ _ _) c.self.inside.board c.signal_to.new.board items c.args.self.now c.index_of.result
    c.index_mut-page.result.now
    c.signal_to.new.page c.self.view_is c.index_mut-page.ensures.value c.signal_to.ensures.name
    (indexed-live _ _ _ _ _ _ _ _ _ c.index_of.ensures
    (part-live c.self.inside.board c.signal_to.new.board pages p Sief _ _ _ _ part))

pub signal_to-requires-clause-hidden : goal.signal_to-requires-clause-hidden
signal_to-requires-clause-hidden c f is =
    let unseen =
    subst (λ (m : LiveModel). IsUnseen m.board.state c.args.port c.args.flag) (sym c.self.view_is) c.requires in
    unseen c.in-Some.target f (search rules) is

pub returns-in_default-clause-set : goal.returns-in_default-clause-set
returns-in_default-clause-set c target place there is shown = absurd (c.requires target place there is shown)

pub returns-clause-set : goal.returns-clause-set
returns-clause-set c target place there is shown = absurd (c.requires target place there is shown)

pub returns-clause-only : goal.returns-clause-only
returns-clause-only c =
    let items : List Page = c.self.inside.pages.items in
    set-at (only-named c.args.port Sief) c.self.inside.board c.signal_to.new.board items c.args.self.now
    c.index_of.result
    c.index_mut-page.result.now c.signal_to.new.page c.self.view_is c.index_mut-page.ensures.value
    c.signal_to.ensures.name
    (only-at c.self.inside.board c.signal_to.new.board (logs_of items) c.args.port c.index_of.result Sief
    c.in-Some.target
    c.signal_to.new.page.log (search rules) c.index_of.ensures)

pub returns-in_default-clause-only : goal.returns-in_default-clause-only
returns-in_default-clause-only c =
    same-at (only-named c.args.port Sief) c.self.inside.board c.perform.new.self c.self.inside.pages.items _
    c.self.view_is
    (only-none c.self.inside.board c.perform.new.self (logs_of c.self.inside.pages.items) c.args.port Sief
    (search rules))
