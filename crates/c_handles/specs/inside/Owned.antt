-- What a handle owns.
use Rattle.std.specs.Prelude.{Bool, true, false, Option, None, Some}
use Rattle.std.specs.Coded.{Coded, coded_option}
use base.Fml.{Fml, ftrue, ffalse}
use denote.RattleType.{RattleType}
use denote.RawPtr.{Ptr}
use Rattle.std.specs.Box.Ownership.{box_owns}
use Rattle.std.specs.declared.alloc.Global.{Global}
use Rattle.std.specs.contracts.impls.GlobalAllocator.TheImpl.{ghosts}

-- the allocator, a singleton
abbrev pub heap : Global
heap = record { memory = record { seal = tt } }

-- the encoding of an optional value in the logic
abbrev pub code_of : (R : RattleType) → Coded (Option R.Denot)
code_of R = coded_option R.coded

-- an open handle owns its value, and the right to free its block; a closed one owns nothing
abbrev pub owned : (R : RattleType) → Bool → Ptr → Option R.Denot → Fml
owned R true at (Some x) = box_owns (ghosts.dealloc_token heap) R at x
owned R true at None = ffalse
owned R false at (Some x) = ffalse
owned R false at None = ftrue
