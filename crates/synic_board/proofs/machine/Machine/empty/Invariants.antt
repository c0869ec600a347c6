use Rattle.std.proofs.Common.{◌≤◌}
use Rattle.synic_board.specs.inside.Effected.{Effected}
use Rattle.synic_board.specs.Resetting.{emptied_below}
use Rattle.synic_board.proofs.machine.Machine.empty.Given as goal

abbrev pub invariant-loop-number : goal.invariant-loop-number
invariant-loop-number l =
    record {
      bound : l.number ≤ 16;
      so_far : Effected l.fn.self l.fn.notices l.self l.notices (emptied_below l.fn.self.state l.vp l.number);
    }
