-- `new` returns a value of no bytes whose ghost text is empty.
use mathlib.Core.Path.{refl}
use mathlib.Core.List.{[], ◌∷◌}
use seplogic.Ra.Ura.{Ura}
use mir.Syntax.{Fn}
use mir.Val.{Val, vstruct, vcons, vnil}
use base.Logic.{ent}
use base.Fml.{Fml}
use prog.Wp.{WpFn}
use prog.Model.{Model}
use types.Logic.{Logic}
use contract.Running.{Running, MachineTables, tables, tables_of}
use sound.WpLaws.{WpFn-mono}
use types.Kit.{‵, raw, ◌$◌, ◌∵◌, !, qed, keep, use0, suffices, done}
use types.Run.{no_more, and_then, returns, enter}
use types.Part.{agg}
use types.ByLocal.{alloc_all, pass_all, free_all, look_at, get, sets}
use denote.RattleType.{RattleType}
use denote.Shadow.{makes_shadow}
use denote.Signature.{type_at}
use denote.Steps.{nothing}
use denote.Triple.Clauses.{Clauses, closing}
use denote.Triple.Entry.{on_entry}
use denote.Triple.Spec.{Meets, triple_of}
use denote.Triple.Table.{entered}
use denote.Triple.Walked.{says, Stays, walk_of, ends_at, walk_Meets}
use contract.CodeStep
use Rattle.ghost_history.specs.contracts.history.History as log
use Rattle.ghost_history.specs.contracts.history.History.new.{ended, clauses}
use Rattle.ghost_history.specs.contracts.history.History.new.Key.{name as #self}
use Rattle.ghost_history.proofs.history.History.new.Statement as stated
use Rattle.ghost_history.proofs.history.History.new.Code as code

abbrev R : RattleType
R = log.the_row

abbrev function : Fn
function = code.function

abbrev stayed : Stays ended.signature.params ended.kept
stayed = tt

module _ {M : Type 1} {𝓤 : Ura M} (𝓛 : Logic 𝓤) (𝓜 : Model 𝓤 𝓛.H) (𝓡 : Running 𝓤 𝓛.H 𝓜) where
  open 𝓛 use {H}

  abbrev 𝓣 : MachineTables 𝓤 H 𝓜
  𝓣 = tables 𝓤 H 𝓜 𝓡 𝓡.env

  abbrev held : Clauses 𝓤 ended
  held = clauses 𝓛 𝓜.mem 𝓡.returns

  module _ (z : (walk_of 𝓛 ended stayed held).Ghost) where
    abbrev At : (walk_of 𝓛 ended stayed held).Ghost
    At = ((z.0.0, z.0.1, z.0.2, z.0.3, tt), z.1)

    walks : ent 𝓤 ((walk_of 𝓛 ended stayed held).pre At)
        (WpFn 𝓤 H 𝓣.C 𝓣.Λ function [] ((walk_of 𝓛 ended stayed held).post At))
    walks =
        let v : Val =
        vstruct (vcons (vstruct vnil) vnil) in let r : denote.Triple.Entry.Res ended.signature z.0.0 =
        record { marker = record {}; entries = [] } in
        let O : Fml = (type_at ended.signature.result z.0.0).own_val r (v ∷ []) in
        qed 𝓛 (raw (on_entry 𝓛 ended.signature z.0.0 z.0.1 z.0.3 tt) ∷ raw ((held z.0.0 z.0.3).requires z.1) ∷ []) ∵
        keep ! [] $
        enter ! 𝓣.C 𝓣.Λ function [] _ $ alloc_all ! (λ l. pass_all ! refl tt $
        sets ! (agg ! (no_more !)) refl (tt, tt) $ sets ! (agg ! (and_then ! (get ! refl) (no_more !))) refl
        (tt, (tt, tt)) $
        returns ! (look_at ! 0 refl) $ free_all ! refl $
        use0 𝓛 (‵ O) (makes_shadow 𝓛 O ((λ vss. (tt, ((λ uss. (tt, tt)), tt))), tt)
        (((vstruct vnil ∷ [], tt), (refl, ((tt, (refl, tt)), tt))), tt)) $
        suffices ! _ (ends_at 𝓛 ended stayed held At v r tt tt) $ says ! refl $
        nothing ! $ nothing ! $ done !)

  meets : Meets 𝓛 ended.signature (WpFn 𝓤 H 𝓣.C 𝓣.Λ function) (closing 𝓛 ended held)
  unfolding tables_of contract.CodeStep.c_Tables
  meets = walk_Meets 𝓛 ended stayed tt held (WpFn 𝓤 H 𝓣.C 𝓣.Λ function)
      (WpFn-mono 𝓤 H 𝓛.laws (tables_of 𝓤 H 𝓜 𝓣) function) (λ z. walks z)

pub new_spec : {M : Type 1} → stated.statement M
new_spec 𝓤 𝓛 𝓜 𝓡 wired = let 𝓣' = tables 𝓤 𝓛.H 𝓜 𝓡 𝓡.env in
    entered 𝓤 𝓛.H (triple_of 𝓛 ended.signature (closing 𝓛 ended (held 𝓛 𝓜 𝓡))) 𝓣'.C 𝓣'.Λ #self function
    (code.unfolded 𝓤 𝓛.H 𝓜 𝓡 wired) (meets 𝓛 𝓜 𝓡)
