use Rattle.std.proofs.Common.{◌≡◌, ◌≤◌, ◌*◌, [], length}
use Rattle.synic_board.specs.State.{processors}
use Rattle.live_board.specs.Refreshing.{AreRefreshed}
use Rattle.live_board.proofs.live.LiveBoard.refresh_each.Given as goal

abbrev pub invariant-loop-number : goal.invariant-loop-number
invariant-loop-number l =
    AreRefreshed l.number l.fn.self l.self l.notices × (length l.notices ≤ 320 * l.number)
    × (processors l.self.board.state ≡ processors l.fn.self.board.state) × (l.part ≡ [])
