use Rattle.lapic_core.specs.inside.Threshold.{serving}
use Rattle.lapic_core.proofs.Priority.{awaited_kept, full}
use Rattle.lapic_core.proofs.lapic.Lapic.end.Goals as goal

pub invariant_of-self : goal.invariant_of-self
invariant_of-self c =
    let held = c.threshold_of-self-inside.ensures _ c.self.inside.requested c.highest_of-self-inside.ensures in record {
      floor_is = c.self.invariant.floor_is;
      highest_is = c.highest_of-self-inside.ensures;
      threshold_is = held;
      next_is = awaited_kept (serving _ _ _) _ _ c.next_above-self-inside.ensures.greatest held;
      suspended = λ e. c.next_above-self-inside.ensures.none
          (full _ c.self.inside.requested _ _ _ _ c.self.invariant.floor_is held e);
    }
