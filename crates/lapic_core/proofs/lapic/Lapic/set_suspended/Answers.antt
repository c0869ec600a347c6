use Rattle.lapic_core.specs.inside.Threshold.{serving}
use Rattle.lapic_core.proofs.Priority.{awaited_kept, full}
use Rattle.lapic_core.proofs.lapic.Lapic.set_suspended.Goals as goal

pub invariant_of-self : goal.invariant_of-self
invariant_of-self c =
    let held = c.threshold_of-self-inside.ensures _ c.self.inside.requested c.self.invariant.highest_is in record {
      floor_is = c.floor_of-self-inside.ensures;
      highest_is = c.self.invariant.highest_is;
      threshold_is = held;
      next_is = awaited_kept (serving _ _ _) _ _ c.next_above-self-inside.ensures.greatest held;
      suspended = λ e. c.next_above-self-inside.ensures.none
          (full _ c.self.inside.requested _ _ _ _ c.floor_of-self-inside.ensures held e);
    }
