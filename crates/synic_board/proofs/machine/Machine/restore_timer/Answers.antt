use Rattle.synic_board.proofs.Restored.{kept-timer}
use Rattle.synic_board.proofs.machine.Machine.restore_timer.Goals as goal

pub invariant_of-self-2 : goal.invariant_of-self-2
invariant_of-self-2 c =
    kept-timer c.self.inside c.args.timer _ c.restore_timer.new.self c.earliest.result c.write.new.self c.self.invariant
    c.if-not-restore_timer.ensures.restored c.earliest.ensures c.write.ensures
