use Rattle.std.proofs.Common.{◌≡◌}
use Rattle.live_board.specs.inside.Parts.{IsCleared}
use Rattle.live_board.proofs.resetting.clear.Given as goal

abbrev pub invariant-loop-word : goal.invariant-loop-word
invariant-loop-word l = IsCleared l.word l.fn.page.log l.page.log × (l.page.name ≡ l.fn.page.name)
