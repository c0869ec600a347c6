use Rattle.std.proofs.Common.{◌≡◌, All, take}
use Rattle.published_words.specs.Words.{IsWithin}
use Rattle.shared_board.proofs.publishing.PublishingBoard.compare_all.Given as goal

abbrev pub invariant-loop-index : goal.invariant-loop-index
invariant-loop-index g l =
    (l.self ≡ l.fn.self) × (l.watchers ≡ l.fn.watchers)
    × All (λ w. IsWithin l.fn.self.shared.history w) (take l.index l.fn.watchers)
