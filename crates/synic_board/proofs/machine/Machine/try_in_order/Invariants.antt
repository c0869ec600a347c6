use Rattle.std.proofs.Common.{drop}
use Rattle.std.specs.Prelude.{filter}
use Rattle.synic_board.specs.inside.Steps.{is_other}
use Rattle.synic_board.proofs.Trying.{IsTrying}
use Rattle.synic_board.proofs.machine.Machine.try_in_order.Given as goal

abbrev pub invariant-loop-timer : goal.invariant-loop-timer
invariant-loop-timer l =
    IsTrying l.fn.self l.fn.notices l.fn.left (filter (is_other l.tried) l.timers) l.self l.notices l.left
    (filter (is_other l.tried) (drop l.timer-index l.timers))
