use Rattle.std.proofs.Common.{ℕ, ◌<◌}
use Rattle.live_board.specs.Live.{AreDueDirect}
use Rattle.live_board.proofs.ticking.are_all_direct.Given as goal

abbrev pub invariant-loop-number : goal.invariant-loop-number
invariant-loop-number l = (p : ℕ) → p < l.number → AreDueDirect l.board.state p l.moment
