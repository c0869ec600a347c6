use Rattle.std.proofs.Common.{take}
use Rattle.std.specs.List.{All}
use Rattle.lapic_core.specs.Ranges.{IsApic}
use Rattle.synic_board.proofs.machine.ranges.lapic_ranges.Given as goal

abbrev pub invariant-loop-lapic : goal.invariant-loop-lapic
invariant-loop-lapic l = All IsApic (take l.lapic-index l.lapics)
