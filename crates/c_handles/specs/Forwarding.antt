-- A local APIC outside the board: it takes, and ends at once, each vector that is requested at a processor of the
-- board.
use Rattle.std.specs.Prelude.{◌≡◌, Bool, true, false, List, [], ◌∷◌, if◌then◌else◌}
use Rattle.std.specs.FinSet as set
use Rattle.board_terms.specs.Quantities.{Processor}
use Rattle.lapic_core.specs.Vectors.{Vectors}
use Rattle.lapic_core.specs.Apic.{Apic, deliverable}
use Rattle.synic_regs.specs.Registers.{number_of_register}
use Rattle.synic_regs.specs.declared.register.Register.TheVariants.{Eoi}
use Rattle.synic_regs.specs.Regs.{auto_vectors}
use Rattle.synic_board.specs.declared.event.Event.{Event}
use Rattle.synic_board.specs.declared.event.Event.TheVariants.{Take, Write}
use Rattle.synic_board.specs.State.{State, apic_of, regs_of, with_apic}
use Rattle.synic_board.specs.Run.{run_of}
use Rattle.c_handles.specs.declared.forwarding.Forwarded.{Forwarded}

-- the vectors that a processor forwards: those that its priority does not block, and none while it is suspended
abbrev pub to_forward : Apic → Vectors
to_forward a = if a.suspended then set.empty else deliverable a

-- vectors leave the requests, and do not enter service
abbrev pub without : Apic → Vectors → Apic
without a vectors = record a { requested = set.difference a.requested vectors }

-- the events of an APIC that takes vectors and ends each at once; one that is auto-EOI has ended when it is taken
abbrev pub takes_and_ends : Processor → List Bool → List Event
takes_and_ends p [] = []
takes_and_ends p (true ∷ autos) = Take p ∷ takes_and_ends p autos
takes_and_ends p (false ∷ autos) = Take p ∷ Write p (number_of_register Eoi) 0 ∷ takes_and_ends p autos

-- a run of such events leads from one state to another, and emits no notice
abbrev pub AreTakenAndEnded : Processor → State → State → Type 0
AreTakenAndEnded p s now =
    (autos : List Bool) × ((run_of s (takes_and_ends p autos)).0 ≡ now) × ((run_of s (takes_and_ends p autos)).2 ≡ [])

-- a processor forwards its vectors; nothing else changes
pub record IsForwarded (s : State) (p : Processor) (now : State) (forwarded : Forwarded) : Type 0 where
  pub vectors : forwarded.vectors ≡ to_forward (apic_of s p)
  pub auto_eoi : forwarded.auto_eoi ≡ set.intersection forwarded.vectors (auto_vectors (regs_of s p))
  pub state : now ≡ with_apic s p (without (apic_of s p) forwarded.vectors)
  pub run : AreTakenAndEnded p s now
