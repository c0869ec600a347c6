use Rattle.std.proofs.Common.{◌≡◌, true, ◌&&◌, sym, ap, ◌∙◌}
use Rattle.std.specs.Prelude.{is_some, is_none}
use Rattle.lapic_core.specs.Vectors.{greatest}
use Rattle.lapic_core.specs.Apic.{is_no_end_required}
use Rattle.lapic_core.proofs.Ends.{none-tested}
use Rattle.lapic_core.proofs.lapic.Lapic.is_no_end_required.Goals as goal

pub returns-then-is_some : goal.returns-then-is_some
returns-then-is_some c =
    let some : is_some (greatest c.self.inside.in_service) ≡ true =
    ap is_some (sym c.self.invariant.highest_is) ∙ sym c.is_some.ensures ∙ c.if-is_some.true in
    none-tested c.is_empty.result (greatest c.self.inside.requested) c.is_empty.ensures
    ∙ ap (λ b. b && is_none (greatest c.self.inside.requested)) (sym some) ∙ ap is_no_end_required c.self.view_is
