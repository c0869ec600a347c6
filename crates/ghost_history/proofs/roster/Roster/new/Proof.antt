-- `new` takes a name under which every key is free.
use Rattle.atomic_table.proofs.Names.{◌≡◌, ℕ, [], ◌∷◌, refl, Val, SProp, emp, via, ‵, raw, ◌⊛◌, some, later, ◌$◌, ◌∵◌, !, qed, by, keep, split, fjoin, fpack, pick, await, use0, no_more, and_then, returns, enter, alloc_all, pass_all, free_all, look_at, get, sets, agg, tables, owns, types_at, nothing, alive, Stays, walk_of, fact, fact_i, full_share, sem}
use base.Logic.{ex}
use types.Keyed.{entries_new}
use types.Owned.{basic}
use Rattle.atomic_table.proofs.Walks.{proved, leaves}
use Rattle.atomic_table.specs.Seated.{halved, unused}
use Rattle.ghost_history.specs.Rows.{Row}
use Rattle.ghost_history.specs.inside.Codes.{row_coded}
use Rattle.ghost_history.proofs.Tokens.{token, bare, bare_made}
use Rattle.ghost_history.specs.contracts.roster.Roster as rosters
use Rattle.ghost_history.specs.contracts.roster.Roster.new.{ended, clauses}
use Rattle.ghost_history.specs.contracts.roster.Roster.new.Key.{name as #self}
use Rattle.ghost_history.proofs.roster.Roster.new.Statement.{statement}
use Rattle.ghost_history.proofs.roster.Roster.new.Code as code

pub new_spec : {M : Type 1} → statement M
new_spec 𝓤 𝓛 𝓜 𝓡 wired =
    let H = 𝓛.H in let 𝓣 = tables 𝓤 H 𝓜 𝓡 𝓡.env in let En = ended in let c = clauses 𝓛 𝓜.mem 𝓡.returns in
    let fn = code.function in
    let hs : Stays En.signature.params En.kept = tt in let v : Row = (0, []) in
    proved 𝓛 En hs c 𝓜 𝓡 tt #self fn (code.unfolded 𝓤 H 𝓜 𝓡 wired) (λ κs. tt) (λ κs. tt) (λ κs qs bounds a gh are.
    let y : (walk_of 𝓛 En hs c).Ghost =
    ((κs, qs, bounds, a, tt), gh) in let Post : Val → SProp 𝓤 = (walk_of 𝓛 En hs c).post y in
    qed 𝓛 ((raw (alive 𝓛 En.signature κs qs) ⊛ ‵ (owns (types_at En.signature.params κs) a y.0.4)) ∷ raw
    ((c κs a).requires gh) ∷ []) ∵
    split ! $ keep ! (0 ∷ []) $ enter ! 𝓣.C 𝓣.Λ fn [] Post $ alloc_all ! (λ l. pass_all ! refl tt $
    use0 𝓛 (later (some (λ (γ : ℕ). ‵ (unused row_coded.code γ 0 v))))
    (via 𝓤 _ (entries_new halved 𝓛 0 (λ _. (full_share, row_coded.code v)))
    (basic 𝓛 (ex 𝓤 (λ (γ : ℕ). sem 𝓛 (unused row_coded.code γ 0 v))))) $ await ! tt $ pick ! (λ γ.
    fpack ! Row (unused row_coded.code γ 0) v $
    let r : (rosters.the_row).Denot =
    record { marker = record {}; name = γ; rows = [] } in let Told : Type 0 = r.rows ≡ [] in
    use0 𝓛 (‵ (bare (rosters.the_type).name)) (bare_made 𝓛 (rosters.the_type).name) $ fjoin ! $
    sets ! (agg ! (no_more !)) refl (tt, tt) $ sets ! (agg ! (and_then ! (get ! refl) (no_more !))) refl
    (tt, (tt, tt)) $
    use0 𝓛 (raw (fact 𝓤 Told)) (fact_i 𝓤 Told (emp 𝓤) refl) $ nothing ! $
    returns ! (look_at ! 0 refl) $ free_all ! refl $ keep ! (3 ∷ 0 ∷ 2 ∷ 1 ∷ []) $ by !
    (leaves 𝓛 En hs c y token r tt tt))))
