use Rattle.std.proofs.Common.{take}
use Rattle.std.specs.List.{All}
use Rattle.synic_regs.specs.Ranges.{AreRegs}
use Rattle.synic_board.proofs.machine.ranges.register_ranges.Given as goal

abbrev pub invariant-loop-registers : goal.invariant-loop-registers
invariant-loop-registers l = All AreRegs (take l.registers-index l.regs)
