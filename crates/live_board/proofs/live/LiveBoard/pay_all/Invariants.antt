use Rattle.std.proofs.Common.{◌≡◌, ◌≤◌, ◌*◌, List, [], ◌++◌, length}
use Rattle.board_terms.specs.declared.notices.Notice.{Notice}
use Rattle.synic_board.specs.State.{processors}
use Rattle.live_board.specs.Acting.{ArePaid}
use Rattle.live_board.proofs.live.LiveBoard.pay_all.Given as goal

abbrev pub invariant-loop-number : goal.invariant-loop-number
invariant-loop-number l =
    (last : List Notice) × ArePaid l.owed l.number l.fn.self l.self last
    × (l.notices ≡ l.fn.notices ++ last) × (length last ≤ 320 * l.number)
    × (processors l.self.board.state ≡ processors l.fn.self.board.state) × (l.part ≡ [])
