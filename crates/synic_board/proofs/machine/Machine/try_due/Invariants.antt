use Rattle.std.proofs.Common.{◌<◌}
use Rattle.synic_board.specs.Timers.{most_expiries}
use Rattle.synic_board.proofs.Trying.{IsTrying, due_now}
use Rattle.synic_board.proofs.machine.Machine.try_due.Given as goal

abbrev pub invariant-loop-timer : goal.invariant-loop-timer
invariant-loop-timer l =
    (0 < l.left) × IsTrying l.fn.self l.fn.notices most_expiries (due_now l.fn.self.state) l.self l.notices l.left
    (due_now l.self.state)

abbrev pub decreases-loop-timer : goal.decreases-loop-timer
decreases-loop-timer l = l.left
