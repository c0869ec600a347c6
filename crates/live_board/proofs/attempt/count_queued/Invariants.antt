use Rattle.std.proofs.Common.{◌≡◌, ◌≤◌, count_by, take}
use Rattle.message_queues.specs.Queues.{queue_of, is_from_port}
use Rattle.live_board.proofs.attempt.count_queued.Given as goal

abbrev pub invariant-loop-index : goal.invariant-loop-index
invariant-loop-index l =
    (l.count ≡ count_by (is_from_port l.number) (take l.index (queue_of l.board.state.queues l.vp l.sint)))
    × (l.count ≤ l.index)
