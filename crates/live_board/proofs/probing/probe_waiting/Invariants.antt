use Rattle.std.proofs.Common.{◌≡◌}
use Rattle.live_board.specs.inside.Parts.{IsProbing}
use Rattle.live_board.proofs.probing.probe_waiting.Given as goal

abbrev pub invariant-loop-number : goal.invariant-loop-number
invariant-loop-number l =
    IsProbing l.fn.board.state l.fn.vp l.fn.page.log l.board.state l.page.log l.words l.notices l.number
    × (l.page.name ≡ l.fn.page.name)
