use Rattle.std.proofs.Common.{◌≡◌, ◌-◌, ◌/◌, ◌^◌, ◌≤◌}
use Rattle.synic_board.specs.inside.Effected.{Effected}
use Rattle.synic_board.specs.Sending.{sent_below}
use Rattle.synic_board.proofs.machine.Machine.send_to_each.Given as goal

abbrev pub invariant-loop-left : goal.invariant-loop-left
invariant-loop-left l =
    record {
      few_bits : l.behind ≤ 64;
      left : l.left ≡ l.mask / 2 ^ l.behind;
      so_far : Effected l.fn.self l.fn.notices l.self l.notices (sent_below l.fn.self.state l.vector l.mask l.behind);
    }

abbrev pub decreases-loop-left : goal.decreases-loop-left
decreases-loop-left l = 64 - l.behind
