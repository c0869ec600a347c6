use Rattle.std.proofs.Common.{ap, ◌∙◌}
use Rattle.synic_board.specs.State.{BoardModel}
use Rattle.published_words.specs.Words.{Words}
use Rattle.shared_board.proofs.Published.{continues, for-words, stored}
use Rattle.shared_board.proofs.publishing.PublishingBoard.absorb.Goals as goal

pub publish-requires-clause-continued : goal.publish-requires-clause-continued
publish-requires-clause-continued g c =
    for-words _ g.S.Sharing.start _ _ _ _ _ (ap (λ (w : Words). w.start) c.requires.words)
    (ap (λ (b : BoardModel). b.state) c.board.ensures.board) c.history.ensures
    (continues _ _ _ _ _ _ _ c.self.invariant.1 c.board.ensures.run c.board.ensures.count
    c.absorb-absorbed.ensures.history)

pub invariant_of-self : goal.invariant_of-self
invariant_of-self g c = (
  c.publish.ensures.own ∙ c.self.invariant.0,
  stored _ g.S.Sharing.start _ _ _ _ _ (ap (λ (w : Words). w.start) c.requires.words) c.history.ensures
      (continues _ _ _ _ _ _ _ c.self.invariant.1 c.board.ensures.run c.board.ensures.count
      c.absorb-absorbed.ensures.history) c.publish.ensures.stored,
)
