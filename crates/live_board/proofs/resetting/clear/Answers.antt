use Rattle.std.proofs.Common.{◌≡◌, arith, subst, refl, ap, ◌∙◌}
use Rattle.live_pages.specs.Page.{Page}
use Rattle.live_board.specs.inside.Parts.{IsCleared}
use Rattle.live_board.proofs.Cleared.{clear-start, clear-more}
use Rattle.live_board.proofs.Named.{logged}
use Rattle.live_board.proofs.resetting.clear.Goals as goal

pub loop-word-init : goal.loop-word-init
loop-word-init c = (clear-start _, refl)

pub loop-word-preserved : goal.loop-word-preserved
loop-word-preserved c = (
  clear-more _ _ _ _ c.loop-word.invariant.0 (logged c.store.ensures),
  ap (λ (p : Page). p.name) c.store.ensures ∙ c.loop-word.invariant.1,
)

pub returns-clause-cleared : goal.returns-clause-cleared
returns-clause-cleared c = let end : c.loop-word.word ≡ 512 = omega (
  arith,
  c.loop-word.auto.word-end,
  c.loop-word-test.false,
) in
    subst (λ n. IsCleared n c.args.page.now.log c.loop-word.page.log) end c.loop-word.invariant.0
