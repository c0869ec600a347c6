use Rattle.std.proofs.Common.{rules, ◌≡◌, ◌-◌, true, false, List, ◌++◌, length, arith, sym, ap, ◌∙◌}
use Rattle.board_terms.specs.declared.notices.Notice.{Notice}
use Rattle.synic_board.specs.declared.event.Event.TheVariants.{Tick}
use Rattle.synic_board.specs.State.{State, processors}
use Rattle.live_board.specs.Live.{LiveModel, is_any_due}
use Rattle.live_board.specs.inside.Pages.{logs_of}
use Rattle.live_board.proofs.Clocked.{early-own, ticked-quiet, ticked-due, ticked-shadows}
use Rattle.live_board.proofs.Shadowed.{same-shadows}
use Rattle.live_board.proofs.Named.{same-at, all-at, ticked-named}
use Rattle.live_board.proofs.Staying.{stays}
use Rattle.live_board.proofs.live.LiveBoard.tick_any.Goals as goal

pub invariant_of-self : goal.invariant_of-self
invariant_of-self c =
    let none : is_any_due c.self.inside.board.state c.args.moment ≡ false = search rules in
    same-shadows _ _ _ (early-own _ _ _ _ _ none c.tick_now.ensures.ticked.step) c.self.invariant

pub returns-then-not-is_any_due-clause-ticked : goal.returns-then-not-is_any_due-clause-ticked
returns-then-not-is_any_due-clause-ticked c =
    let s : State = c.self.inside.board.state in
    let none : is_any_due s c.args.moment ≡ false = search rules in
    let one = c.tick_now.ensures.ticked in
    same-at (ticked-named _ _ _ _) c.self.inside.board c.tick_now.new.board c.self.inside.pages.items _ c.self.view_is
    (ticked-quiet c.self.inside.board c.tick_now.new.board (logs_of c.self.inside.pages.items) _ _ _
    (λ yes. absurd (let e : true ≡ false = sym yes ∙ none in cc))
    (ap (λ (ns : List Notice). (c.tick_now.new.board.state, c.tick_now.result, ns))
    (one.notices ∙ ap (λ ns. ns ++ one.emitted) c.requires.notices) ∙ one.step))

pub returns-then-not-is_any_due-clause-few : goal.returns-then-not-is_any_due-clause-few
returns-then-not-is_any_due-clause-few c =
    let one = c.tick_now.ensures.ticked in
    omega (arith, one.bound, ap length (one.notices ∙ ap (λ ns. ns ++ one.emitted) c.requires.notices))

pub returns-then-not-is_any_due-clause-processors : goal.returns-then-not-is_any_due-clause-processors
returns-then-not-is_any_due-clause-processors c =
    stays c.self.inside.board.state c.tick_now.new.board.state (Tick c.args.moment) _ _ tt c.facts.ensures.sound
    c.tick_now.ensures.ticked.step ∙ ap (λ (m : LiveModel). processors m.board.state) c.self.view_is

pub invariant_of-self-2 : goal.invariant_of-self-2
invariant_of-self-2 c =
    let count : processors c.self.inside.board.state - 0 ≡ processors c.self.inside.board.state = omega arith in
    ticked-shadows _ _ _ _ _ _ _ _ _ _ count c.facts.ensures.shape c.self.invariant c.tick_from.ensures.ticked

pub returns-clause-ticked : goal.returns-clause-ticked
returns-clause-ticked c =
    let due : is_any_due c.self.inside.board.state c.args.moment ≡ true = search rules in
    let count : processors c.self.inside.board.state - 0 ≡ processors c.self.inside.board.state = omega arith in
    all-at (ticked-named _ _ _ _) c.self.inside.board c.tick_from.new.board c.self.inside.pages.items
    c.tick_from.new.pages.items _ c.self.view_is c.tick_from.ensures.names
    (ticked-due c.self.inside.board c.tick_from.new.board (logs_of c.self.inside.pages.items)
    (logs_of c.tick_from.new.pages.items) _ _ _ _ _ _ due count c.requires.notices c.tick_from.ensures.ticked)

pub returns-clause-few : goal.returns-clause-few
returns-clause-few c =
    let t = c.tick_from.ensures.ticked in
    omega (
      arith,
      t.few,
      c.facts.ensures.sizes.processor_bound,
      ap length (t.notices ∙ ap (λ ns. ns ++ t.emitted) c.requires.notices),
    )

pub returns-clause-processors : goal.returns-clause-processors
returns-clause-processors c =
    c.tick_from.ensures.ticked.processors ∙ ap (λ (m : LiveModel). processors m.board.state) c.self.view_is
