-- One vector that is forwarded.
use Rattle.std.specs.Prelude.{◌≡◌, Bool, true, false, [], ◌∷◌, None, Some, if◌then◌else◌}
use Rattle.std.specs.FinSet as set
use Rattle.board_terms.specs.Quantities.{Processor, Vector}
use Rattle.lapic_core.specs.Apic.{Apic, next}
use Rattle.synic_regs.specs.Regs.{auto_vectors}
use Rattle.synic_board.specs.State.{State, apic_of, regs_of, with_apic}
use Rattle.synic_board.specs.Run.{run_of}
use Rattle.c_handles.specs.Forwarding.{takes_and_ends}
use Rattle.c_handles.specs.declared.forwarding.Forwarded.{Forwarded}

-- a vector leaves the requests, and does not enter service
abbrev pub without_one : Apic → Vector → Apic
without_one a v = record a { requested = set.remove a.requested v }

abbrev pub is_auto : State → Processor → Vector → Bool
is_auto s p v = set.contains (auto_vectors (regs_of s p)) v

pub record Forwards (s : State) (p : Processor) (v : Vector) (now : State) (before after : Forwarded) : Type 0 where
  pub was_next : next (apic_of s p) ≡ Some v
  pub state : now ≡ with_apic s p (without_one (apic_of s p) v)
  pub vectors : after.vectors ≡ set.insert before.vectors v
  pub auto_eoi : after.auto_eoi ≡ (if is_auto s p v then set.insert before.auto_eoi v else before.auto_eoi)
  pub run : (run_of s (takes_and_ends p (is_auto s p v ∷ []))).0 ≡ now
  pub quiet : (run_of s (takes_and_ends p (is_auto s p v ∷ []))).2 ≡ []

-- the next vector is forwarded, if there is one
abbrev pub ForwardsOne : State → Processor → State → Forwarded → Forwarded → Bool → Type 0
ForwardsOne s p now before after true = (v : Vector) × Forwards s p v now before after
ForwardsOne s p now before after false = (next (apic_of s p) ≡ None) × (now ≡ s) × (after ≡ before)
