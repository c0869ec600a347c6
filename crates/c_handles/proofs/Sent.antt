-- What a handle owns is `Send` if the value in its box is.
use Rattle.c_handles.proofs.Steps.{Bool, true, false, bare, RattleType, Ptr, block_ptr, null_ptr, full_share}
use Rattle.std.specs.Prelude.{Option, None, Some}
pub use Rattle.std.specs.Prelude.{◌∷◌}
use base.Shift.{Keyless}
use denote.Exit.{Exit, unchanged, leaves, hidden, under}
use denote.Memory.{lone}
use denote.RawPtr.{lies_at}
pub use denote.Struct.Struct.{exits_of}
pub use denote.Struct.Owning.{shape, fields, to}
pub use denote.Param.Send.{IsSend, AllSend, owning_send, struct_send, sendable}
use denote.Param.Send.{Quiet, part_keyless}
use Rattle.std.proofs.Crossing.{frees}
use Rattle.c_handles.specs.inside.Owned.{heap, owned}

pub quiet : {D X : Type 0} (f : D → X) (e : Exit X) → Quiet e → Quiet (hidden (under f e))
quiet f unchanged q = λ x w. tt
quiet f (leaves L l S s r₀) q = λ d. q (f d)

lies : (R : RattleType) → IsSend R → (p : Ptr) (x : R.Denot) → Keyless (lies_at R full_share p x)
lies R s (block_ptr b o) x = part_keyless R s full_share x b o
lies R s null_ptr x = tt

pub held_keyless : (R : RattleType) → IsSend R → (is_open : Bool) (at : Ptr) (x : Option R.Denot)
    → Keyless (owned R is_open at x)
held_keyless R s true at (Some x) = (lies R s at x, frees.frees heap (bare (lone R.mir)) at)
held_keyless R s true at None = tt
held_keyless R s false at (Some x) = tt
held_keyless R s false at None = tt
