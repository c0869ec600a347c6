use Rattle.std.proofs.Common.{◌≡◌}
use Rattle.live_board.specs.inside.Parts.{IsFilling}
use Rattle.live_board.proofs.filling.fill.Given as goal

abbrev pub invariant-loop-k : goal.invariant-loop-k
invariant-loop-k l =
    IsFilling l.fn.sint l.header l.after l.k l.fn.page.log l.page.log × (l.page.name ≡ l.fn.page.name)
