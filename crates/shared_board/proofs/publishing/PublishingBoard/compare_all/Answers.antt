use Rattle.std.proofs.Common.{All, set, ap, get_or, subst, sym, ◌∙◌, arith}
use Rattle.std.proofs.lemmas.List.{set-get_or, take_all}
use Rattle.published_words.specs.Words.{Watching, IsWithin}
use Rattle.shared_board.specs.Publishing.{Publishing}
use Rattle.shared_board.proofs.Watchers.{one-more}
use Rattle.shared_board.proofs.publishing.PublishingBoard.compare_all.Goals as goal

pub loop-index-preserved : goal.loop-index-preserved
loop-index-preserved g c =
    let l = c.loop-index in
    let w = c.index-watchers-index.result in
    let at = c.index-watchers-index.is in
    let is = subst (λ (z : Publishing × Watching). IsWithin z.0.shared.history z.1)
    (λ i. (l.invariant.0 i, sym at i)) c.compare.ensures.within in
    let kept = ap (set l.watchers l.index) c.compare.ensures.same.1
    ∙ set-get_or l.watchers l.index _ ∙ l.invariant.1 in (
      c.compare.ensures.same.0 ∙ l.invariant.0,
      kept,
      one-more _ _ l.index w c.loop-index-test.true
          (at ∙ ap (λ ws. get_or ws l.index w) l.invariant.1) is l.invariant.2,
    )

pub returns-clause-within : goal.returns-clause-within
returns-clause-within g c =
    let l = c.loop-index in
    subst (All (λ (w : Watching). IsWithin c.args.self.now.shared.history w))
    (take_all l.index c.args.watchers.now (omega (arith, c.loop-index-test.false))) l.invariant.2
