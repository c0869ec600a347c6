use Rattle.std.proofs.Common.{ap, get_or, subst, sym, ◌∙◌}
use Rattle.published_words.specs.Words.{IsWithin}
use Rattle.shared_board.specs.Publishing.{Publishing}
use Rattle.shared_board.proofs.watched.WatchedBoard.into_board_with_watchers.Goals as goal

pub returns-in-Ok-clause-within : goal.returns-in-Ok-clause-within
returns-in-Ok-clause-within g c =
    let same = ap (λ (p : Publishing). p.shared.history) c.compare_all.ensures.same.0 in
    λ k d inside. subst (λ h. IsWithin h (get_or c.args.watchers.now k d)) (sym (c.in-Ok.ensures.history ∙ same))
    (c.compare_all.ensures.within k d inside)
