use Rattle.std.proofs.Common.{◌≡◌, ◌++◌, take}
use Rattle.live_board.proofs.performing.append.Given as goal

abbrev pub invariant-loop-notice : goal.invariant-loop-notice
invariant-loop-notice l = l.notices ≡ l.fn.notices ++ take l.notice-index l.more
