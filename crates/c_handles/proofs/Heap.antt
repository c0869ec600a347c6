-- The heap, as the functions of `Box` take it.
use Rattle.c_handles.proofs.Steps.{[], ◌∷◌, refl, Dict, impl, tcons, tnil, dnil, bare, no, RattleType, layout, arg, Laws, arg_laws}
use Rattle.std.specs.contracts.alloc.Global as heap
use Rattle.std.proofs.alloc.Global.TheLaws as heap_laws
use Rattle.c_handles.proofs.Destruct++none.drop.Symbol as heap_drop
use Rattle.c_handles.proofs.Destruct++none.drop.Code.{code}
use seplogic.Ra.Ura.{Ura}
use types.Logic.{Logic}
use prog.Model.{Model}
use prog.Wired.{Wired}
use contract.Running.{Running}
use denote.Param.Glue.{Met}
use denote.Param.NoDrop.{glues}

-- the heap
abbrev pub Z : RattleType
Z = arg (bare (layout heap.the_row)) no heap.the_row

abbrev pub Z-laws : Laws Z
Z-laws = arg_laws (bare (layout heap.the_row)) no heap.the_row heap_laws.the_row_laws refl

-- the heap's destructor
abbrev pub heap_drops : Dict
heap_drops = impl (heap_drop.symbol ∷ []) (tcons (layout Z) tnil) dnil

pub heap_glue : {M : Type 1} (𝓤 : Ura M) (𝓛 : Logic 𝓤) (𝓜 : Model 𝓤 𝓛.H) (𝓡 : Running 𝓤 𝓛.H 𝓜)
    → Wired 𝓡.env heap_drop.code → Met 𝓛 𝓜 𝓡 𝓡.env Z heap_drops
unfolding code
heap_glue {M} 𝓤 𝓛 𝓜 𝓡 wired = glues heap_drop.symbol 𝓡.env wired Z Z-laws M 𝓤 𝓛 𝓜 𝓡
