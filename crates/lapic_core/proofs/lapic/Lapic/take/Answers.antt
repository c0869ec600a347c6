use Rattle.std.proofs.Common.{◌≡◌, ◌∙◌, sym, ap, refl}
use Rattle.std.specs.Prelude.{Some}
use Rattle.lapic_core.specs.Apic.{class, awaited}
use Rattle.lapic_core.specs.inside.Threshold.{last_of}
use Rattle.lapic_core.specs.inside.View.{held_of}
use Rattle.lapic_core.proofs.Priority.{awaited_taken, highest_taken, threshold_taken}
use Rattle.lapic_core.proofs.lapic.Lapic.take.Goals as goal

pub invariant_of-self-else-auto : goal.invariant_of-self-else-auto
invariant_of-self-else-auto c =
    let before = held_of c.self.inside in
    let is : Some c.in_ok-vector.vector ≡ awaited before =
    sym (c.in_ok-vector.was {u = tt}) ∙ c.self.invariant.next_is in
    let last = c.last_of_class-self-inside.ensures ∙ ap (λ n. last_of (class n)) c.number.ensures.value in
    rw (c.remove.ensures, c.insert.ensures) record {
      floor_is = c.self.invariant.floor_is;
      highest_is = highest_taken before _ is;
      threshold_is = last ∙ threshold_taken before _ is;
      next_is = awaited_taken before _ is;
      suspended = λ _. refl;
    }
