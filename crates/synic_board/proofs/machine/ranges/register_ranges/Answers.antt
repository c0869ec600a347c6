use Rattle.std.proofs.Common.{arith, subst}
use Rattle.std.proofs.lemmas.List.Elements.{All-more}
use Rattle.synic_regs.specs.Ranges.{AreRegs}
use Rattle.synic_board.proofs.machine.ranges.register_ranges.Goals as goal

pub loop-registers-preserved : goal.loop-registers-preserved
loop-registers-preserved c =
    All-more AreRegs c.args.regs.now c.loop-registers.registers-index c.registers-item.result
    (omega arith) c.loop-registers.invariant
    (subst AreRegs c.registers-item.is c.facts.ensures.ranges)
