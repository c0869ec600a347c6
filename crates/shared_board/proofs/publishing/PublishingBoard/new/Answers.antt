use Rattle.std.proofs.Common.{ap}
use Rattle.published_words.specs.Words.{Published}
use Rattle.shared_board.specs.Witnessed.{Witnessed}
use Rattle.shared_board.proofs.Published.{opened}
use Rattle.shared_board.proofs.publishing.PublishingBoard.new.Goals as goal

pub invariant_of-result : goal.invariant_of-result
invariant_of-result g c = (
  ap (λ (p : Published). p.of) c.requires.publisher,
  opened _ _ _ _ (ap (λ (w : Witnessed). w.history) c.requires.locked) c.requires.start
      (ap (λ (p : Published). p.logs) c.requires.publisher),
)
