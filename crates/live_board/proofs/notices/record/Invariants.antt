use Rattle.std.proofs.Common.{◌≡◌, ◌++◌, take}
use Rattle.live_board.proofs.notices.record.Given as goal

abbrev pub invariant-loop-notice : goal.invariant-loop-notice
invariant-loop-notice l = l.journal ≡ l.fn.journal ++ take l.notice-index l.notices
