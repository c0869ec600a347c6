use Rattle.std.proofs.Common.{ap, subst}
use Rattle.published_words.specs.Words.{Words, IsWithin}
use Rattle.shared_board.specs.Publishing.{Publishing}
use Rattle.shared_board.proofs.Watchers.{within}
use Rattle.shared_board.proofs.publishing.PublishingBoard.compare.Goals as goal

pub returns-clause-within : goal.returns-clause-within
returns-clause-within g c =
    subst (λ h. IsWithin h c.args.watcher.now) (ap (λ (p : Publishing). p.shared.history) c.self.view_is)
    (within _ g.S.Sharing.start _ _ _ _
    (ap (λ (w : Words). w.start) c.requires.words) c.requires.watcher.1 c.self.invariant.1 c.compare.ensures.within)
