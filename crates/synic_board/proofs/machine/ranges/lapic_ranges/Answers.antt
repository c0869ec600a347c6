use Rattle.std.proofs.Common.{arith, subst}
use Rattle.std.proofs.lemmas.List.Elements.{All-more}
use Rattle.lapic_core.specs.Ranges.{IsApic}
use Rattle.synic_board.proofs.machine.ranges.lapic_ranges.Goals as goal

pub loop-lapic-preserved : goal.loop-lapic-preserved
loop-lapic-preserved c =
    All-more IsApic c.args.lapics.now c.loop-lapic.lapic-index c.lapic-item.result
    (omega arith) c.loop-lapic.invariant (subst IsApic c.lapic-item.is c.facts.ensures.ranges)
