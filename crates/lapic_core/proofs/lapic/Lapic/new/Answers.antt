use Rattle.std.proofs.Common.{sym, refl}
use Rattle.lapic_core.proofs.Priority.{awaited-empty, greatest-empty, threshold-empty}
use Rattle.lapic_core.proofs.lapic.Lapic.new.Goals as goal

pub invariant_of-result : goal.invariant_of-result
invariant_of-result c =
    rw (c.new.ensures, c.new-2.ensures)
    record {
      floor_is = refl;
      highest_is = greatest-empty;
      threshold_is = sym threshold-empty;
      next_is = sym awaited-empty;
      suspended = λ _. refl;
    }
