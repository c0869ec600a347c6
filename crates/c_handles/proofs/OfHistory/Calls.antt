-- The history, as the functions of `Box` take it.
use Rattle.c_handles.proofs.Steps.{[], ◌∷◌, refl, Dict, impl, tnil, dnil, bare, no, RattleType, layout, arg, Laws, arg_laws}
use Rattle.std.specs.contracts.alloc.Global as heap
use Rattle.std.proofs.alloc.Global.TheLaws as heap_laws
use Rattle.std.specs.contracts.impls.GlobalAllocator.TheImpl.{ghosts}
use Rattle.std.specs.contracts.boxed.Box as boxed
use Rattle.std.proofs.boxed.Box.TheLaws as boxed_laws
use Rattle.c_handles.specs.contracts.history.History as history
use Rattle.c_handles.proofs.history.History.TheLaws as history_laws
use Rattle.c_handles.proofs.c_handles++history++History+Destruct.drop.Symbol as history_drop
use Rattle.c_handles.proofs.c_handles++history++History+Destruct.drop.Kinds as history_kinds
use Rattle.c_handles.proofs.c_handles++history++History+Destruct.drop.Reads as history_reads
use Rattle.c_handles.proofs.c_handles++history++History+Destruct.drop.Met as history_met
use seplogic.Ra.Ura.{Ura}
use base.Fml.{Fml}
use mir.Syntax.{Callee, method, no_args}
use contract.Lifetimes.{Lfts}
use denote.Triple.Carry.{AllWithin}
use denote.Triple.Clauses.{Ended, Lasts, lasts, at_exit}
use denote.Triple.Walked.{Fit}
use borrow.Fn.Kinds.{Dens, ended_of, stays, r_unit, res_t}
use borrow.Fn.Glue.{glue_by, glue_ps}
use borrow.Fn.Impl.{via_longer, method_Known}
use borrow.Fn.Run.{Over}
use borrow.Fn.World.{World}
use types.Logic.{Logic}
use prog.Model.{Model}
use prog.Wired.{Wired}
use contract.Running.{Running}
use denote.Param.Glue.{Met}

-- the history
abbrev pub D : RattleType
D = arg (bare (layout history.the_row)) no history.the_row

abbrev pub D-laws : Laws D
D-laws = arg_laws (bare (layout history.the_row)) no history.the_row history_laws.the_row_laws refl

-- the box of a history
abbrev pub B : RattleType
B = boxed.the_row history.the_row heap.the_row ghosts

abbrev pub B-laws : Laws B
B-laws = boxed_laws.the_row_laws history.the_row heap.the_row ghosts history_laws.the_row_laws heap_laws.the_row_laws

-- the history's destructor
abbrev pub history_drops : Dict
history_drops = impl (history_drop.symbol ∷ []) tnil dnil

-- the postcondition of the history's destructor, in the form that `Box` requires
abbrev dropped : Ended
dropped = ended_of 0 history_kinds.ps history_kinds.r

abbrev Left : (κs : Lfts 1) → Dens κs (glue_ps D D-laws) → Type 0
Left κs a = Lasts dropped tt a

abbrev left : (κs : Lfts 1) (a : Dens κs (glue_ps D D-laws)) → Left κs a → Fml
left κs a = lasts dropped tt a

abbrev Learnt : (κs : Lfts 1) (a : Dens κs (glue_ps D D-laws)) → (res_t {n = 1} r_unit κs).Denot → Left κs a → Type 0
Learnt κs a x ws = Fit dropped (stays history_kinds.ps) tt a ws × history_reads.Learnt tt a x (at_exit dropped tt a ws)

abbrev Lives : (κs : Lfts 1) → Dens κs (glue_ps D D-laws) → Type 0
Lives κs a = AllWithin 1 (κs.0, tt) (D.lives, tt) × Unit {0}

pub history_glue : {M : Type 1} (𝓤 : Ura M) (𝓛 : Logic 𝓤) (𝓜 : Model 𝓤 𝓛.H) (𝓡 : Running 𝓤 𝓛.H 𝓜)
    → Wired 𝓡.env history_drop.code → Met 𝓛 𝓜 𝓡 𝓡.env D history_drops
history_glue {M} 𝓤 𝓛 𝓜 𝓡 wired =
    let w : World = record { M = M; 𝓤 = 𝓤; 𝓛 = 𝓛; 𝓜 = 𝓜; 𝓡 = 𝓡 } in let key : Callee = method history_drops 0 no_args in
    glue_by D D-laws w history_drops 𝓡.env Left left Learnt Lives 0 tt (λ κs a h. ((h, tt), tt))
    (via_longer 𝓛 (Over 𝓛 𝓜 𝓡 𝓡.env) 1 (glue_ps D D-laws) r_unit Left left Learnt Lives key 0 tt (λ κs. tt)
    (λ κs a. history_reads.Asked tt a) (λ κs a p. (tt, tt)) (λ κs bd inside a vss qs.
    method_Known 0 history_kinds.ps history_kinds.r history_reads.requires history_reads.ensures history_reads.Asked
    history_reads.Learnt history_reads.known w history_drop.name key
    (history_drop.as_method 𝓡.env wired key refl) (history_met.met 𝓤 𝓛 𝓜 𝓡 wired) ((tt, qs, tt, a, vss), tt)))
