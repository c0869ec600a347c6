use Rattle.std.proofs.Common.{ap, sym, ◌∙◌}
use Rattle.lapic_core.specs.Apic.{next}
use Rattle.lapic_core.proofs.Priority.{next-empty}
use Rattle.synic_board.proofs.Restored.{kept-lapic}
use Rattle.synic_board.proofs.machine.Machine.clear_lapic.Goals as goal

pub invariant_of-self : goal.invariant_of-self
invariant_of-self c =
    kept-lapic c.self.inside c.number.result c.args.vp c.new.result _ c.write.new.self c.self.invariant
    c.number.ensures.value
    (sym (ap next c.new.ensures ∙ next-empty)) c.write.ensures
