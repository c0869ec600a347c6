use Rattle.std.proofs.Common.{ap, arith, ◌<◌, ◌≤◌}
use Rattle.lapic_core.specs.inside.Threshold.{to_exceed}
use Rattle.lapic_core.specs.inside.View.{held_of}
use Rattle.lapic_core.proofs.Priority.{awaited_request-above, awaited_request-same, full}
use Rattle.lapic_core.proofs.lapic.Lapic.request.Goals as goal

pub invariant_of-self : goal.invariant_of-self
invariant_of-self c =
    let kept = c.self.invariant in
    let greater : to_exceed c.self.inside.threshold c.self.inside.next < c.args.vector =
    omega (arith, c.number.ensures.value, c.to_exceed.ensures, c.if-number-to_exceed.true) in
    rw c.insert.ensures record {
      floor_is = kept.floor_is;
      highest_is = kept.highest_is;
      threshold_is = kept.threshold_is;
      next_is = awaited_request-above
          (held_of c.self.inside) c.self.inside.threshold c.args.vector _ kept.next_is kept.threshold_is greater;
      suspended = λ e.
          let all = full _ c.self.inside.requested _ _ _ _ kept.floor_is kept.threshold_is e in
          let none = ap (to_exceed c.self.inside.threshold) (kept.suspended e) in
          absurd (omega (arith, all, none, c.number.ensures, c.to_exceed.ensures, c.if-number-to_exceed.true));
    }

pub invariant_of-self-else-number-to_exceed : goal.invariant_of-self-else-number-to_exceed
invariant_of-self-else-number-to_exceed c =
    let kept = c.self.invariant in
    let not_greater : c.args.vector ≤ to_exceed c.self.inside.threshold c.self.inside.next =
    omega (arith, c.number.ensures.value, c.to_exceed.ensures, c.if-number-to_exceed.false) in
    rw c.insert.ensures record {
      floor_is = kept.floor_is;
      highest_is = kept.highest_is;
      threshold_is = kept.threshold_is;
      next_is = awaited_request-same
          (held_of c.self.inside) c.self.inside.threshold c.args.vector _ kept.next_is kept.threshold_is not_greater;
      suspended = kept.suspended;
    }
