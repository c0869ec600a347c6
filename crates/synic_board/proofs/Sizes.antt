-- The sizes of the cached summary.
use Rattle.std.proofs.Common.{length, ◌∙◌}
use Rattle.std.proofs.lemmas.List.{length-map}
use Rattle.lapic_core.specs.Apic.{next}
use Rattle.synic_regs.specs.Regs.{auto_vectors}
use Rattle.synic_board.specs.declared.machine.Machine.TheInside.{Inside}
use Rattle.synic_board.specs.State.{processors, space_of}
use Rattle.synic_board.specs.Summaries.{summary_of, HasSizes}
use Rattle.synic_board.specs.inside.View.{state_of, MachineInvariant}
use Rattle.synic_board.proofs.Overlays.{length-owners}

pub has_sizes : (b : Inside) → MachineInvariant b
    → HasSizes (processors (state_of b)) (length (state_of b).pages) (summary_of (state_of b))
has_sizes b kept = record {
  nexts = length-map b.lapics.items next;
  autos = length-map b.regs.items auto_vectors ∙ kept.registers;
  owners = length-owners (space_of (state_of b));
  queued = length-map b.queues length ∙ kept.queues;
}
