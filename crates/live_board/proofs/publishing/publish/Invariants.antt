use Rattle.std.proofs.Common.{◌≡◌}
use Rattle.live_board.specs.inside.Parts.{IsPublished}
use Rattle.live_board.proofs.publishing.publish.Given as goal

abbrev pub invariant-loop-number : goal.invariant-loop-number
invariant-loop-number l =
    IsPublished l.board.state l.fn.vp l.fn.is_shown l.fn.words l.number l.fn.page.log l.page.log
    × (l.page.name ≡ l.fn.page.name)
