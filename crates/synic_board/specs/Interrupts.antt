-- Interrupts of one processor (SDM volume 3, "Handling Local Interrupts"; TLFS, "Virtual Interrupt Controller").
use Rattle.std.specs.Prelude.{◌%◌, Bool, [], ◌∷◌, if◌then◌else◌}
use Rattle.std.specs.Option.{option_map_or}
use Rattle.std.specs.FinSet as set
use Rattle.board_terms.specs.Quantities.{Processor, Source, Vector, Word}
use Rattle.board_terms.specs.declared.notices.Notice.TheVariants.{Requested}
use Rattle.lapic_core.specs.Apic.{Apic, request, next, with_task_priority, take_vector, after_end}
use Rattle.synic_regs.specs.Regs.{raised_by, auto_vectors}
use Rattle.synic_board.specs.declared.event.Reply.TheVariants.{Taken}
use Rattle.synic_board.specs.State.{State, apic_of, regs_of, with_apic}
use Rattle.synic_board.specs.Effects.{Effect, Outcome, nothing}

-- a vector is requested at a processor
abbrev pub is_requested : State → Processor → Vector → Bool
is_requested s p v = set.contains (apic_of s p).requested v

-- a vector is requested; a request that is already set merges with it, and emits no notice
abbrev pub requested : State → Processor → Vector → Effect
requested s p v =
    if is_requested s p v then nothing s
    else (with_apic s p (request (apic_of s p) v), Requested p v ∷ [])

-- a source raises its vector, unless it is masked or polling
abbrev pub raised : State → Processor → Source → Effect
raised s p i = option_map_or (requested s p) (raised_by (regs_of s p) i) (nothing s)

-- `take`: the next vector does not enter service if it is auto-EOI now (profile)
abbrev pub taken_at : State → Processor → Vector → Apic
taken_at s p v = take_vector (set.contains (auto_vectors (regs_of s p)) v) v (apic_of s p)

abbrev pub taken_state : State → Processor → State
taken_state s p = option_map_or (λ v. with_apic s p (taken_at s p v)) (next (apic_of s p)) s

abbrev pub taken : State → Processor → Outcome
taken s p = (taken_state s p, Taken (next (apic_of s p)), [])

-- EOI ends the greatest vector in service
abbrev pub ended : State → Processor → State
ended s p = with_apic s p (after_end (apic_of s p))

-- TPR stores the low 8 bits (profile)
abbrev pub with_priority : State → Processor → Word → State
with_priority s p value = with_apic s p (with_task_priority (apic_of s p) (value % 256))
