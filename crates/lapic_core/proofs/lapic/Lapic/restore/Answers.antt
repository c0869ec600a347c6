use Rattle.lapic_core.specs.inside.Threshold.{serving}
use Rattle.lapic_core.proofs.Priority.{awaited_kept, full}
use Rattle.lapic_core.proofs.lapic.Lapic.restore.Goals as goal

pub invariant_of-result : goal.invariant_of-result
invariant_of-result c =
    let held = c.threshold_of-threshold.ensures _ c.args.requested c.highest_of.ensures in record {
      floor_is = c.floor_of-floor.ensures;
      highest_is = c.highest_of-highest.ensures;
      threshold_is = held;
      next_is = awaited_kept (serving _ _ _) _ _ c.next_above-next.ensures.greatest held;
      suspended = λ e. c.next_above-next.ensures.none (full _ c.args.requested _ _ _ _ c.floor_of-floor.ensures held e);
    }
