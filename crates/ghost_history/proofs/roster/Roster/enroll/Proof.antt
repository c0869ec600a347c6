-- `enroll` takes the next key.
use Rattle.atomic_table.proofs.Names.{◌≡◌, ℕ, ◌++◌, List, [], ◌∷◌, refl, named, Val, vptr, vint, w64, SProp, emp, via, ftrue, flft, ‵, raw, ◌⊛◌, some, later, ◌$◌, ◌∵◌, !, qed, by, move, keep, split, join, fsplit, fsplit3, fjoin, fjoin3, fpack, pick, await, use0, use1, feq_i, no_more, and_then, returns, enter, alloc_all, pass_all, free_all, look_at, get, sets, agg, tables, yes, RattleType, owns, types_at, plain, nothing, Stays, stay_dropped, stay_ref, walk_of, Goes-dropped, Goes-ref, fact, fact_i, mut_vals, mut_Tells, uint_vals, uint_Tells, u64, opens, closes}
use base.Logic.{ex}
use types.Owned.{basic}
use Rattle.atomic_table.proofs.Walks.{proved, leaves}
use Rattle.atomic_table.specs.Seated.{roster}
use Rattle.atomic_table.proofs.Roster.{joins, Joined}
use Rattle.ghost_history.specs.Rows.{Row, row}
use Rattle.ghost_history.specs.inside.Codes.{row_coded}
use Rattle.ghost_history.proofs.Tokens.{held, token, bare, bare_made}
use Rattle.ghost_history.specs.contracts.roster.Roster as rosters
use Rattle.ghost_history.specs.contracts.roster.Part as parts
use Rattle.ghost_history.specs.contracts.roster.Roster.enroll.{ended, clauses}
use Rattle.ghost_history.specs.contracts.roster.Roster.enroll.Key.{name as #self}
use Rattle.ghost_history.proofs.roster.Roster.enroll.Statement.{statement}
use Rattle.ghost_history.proofs.roster.Roster.enroll.Code as code

pub enroll_spec : {M : Type 1} → statement M
enroll_spec 𝓤 𝓛 𝓜 𝓡 wired =
    let H = 𝓛.H in let 𝓣 = tables 𝓤 H 𝓜 𝓡 𝓡.env in let En = ended in let c = clauses 𝓛 𝓜.mem 𝓡.returns in
    let fn = code.function in
    let Rr : RattleType = rosters.the_row in let Pr : RattleType = parts.the_row in let self = plain (λ _. Rr) in
    let hs : Stays En.signature.params En.kept =
    (stay_ref (0 ∷ []) tt self, (stay_dropped (plain (λ _. u64)) yes, tt)) in
    proved 𝓛 En hs c 𝓜 𝓡 (Goes-ref 𝓛 1 0 tt self, (Goes-dropped 𝓛 1 (plain (λ _. u64)) yes (λ κs x f. refl), tt))
    #self fn (code.unfolded 𝓤 H 𝓜 𝓡 wired)
    (λ κs. (mut_vals, (uint_vals w64, tt))) (λ κs. (mut_Tells (named 0) κs.0 Rr, (uint_Tells w64, tt)))
    (λ κs qs bounds a gh are.
    let b : ℕ = a.0.ref_ptr.0 in let o : ℕ = a.0.ref_ptr.1 in let h : Rr.Denot = a.0.now in let γ : ℕ = h.name in
    let n : ℕ = a.1.0 in let u : Row = row n [] in
    let y : (walk_of 𝓛 En hs c).Ghost =
    ((κs, qs, bounds, a, (vptr b o ∷ [], (vint w64 n ∷ [], tt))), gh) in let Post : Val → SProp 𝓤 =
    (walk_of 𝓛 En hs c).post y in
    qed 𝓛 (((‵ (flft κs.0 qs.0) ⊛ ‵ ftrue) ⊛ ‵ (owns (types_at En.signature.params κs) a y.0.4)) ∷ raw
    ((c κs a).requires gh) ∷ []) ∵
    split ! $ split ! $ move ! (2 ∷ []) $ fsplit ! $ fsplit3 ! $ keep ! (1 ∷ 2 ∷ 4 ∷ 5 ∷ []) $
    enter ! 𝓣.C 𝓣.Λ fn (vptr b o ∷ vint w64 n ∷ []) Post $ alloc_all !
    (λ l. pass_all ! refl ((tt, tt), ((tt, record { fits = are.1.0.1 }), tt)) $
    opens ! tt Rr b o (λ ts. move ! (1 ∷ []) $ fsplit ! $ move ! (1 ∷ []) $
    use1 𝓛 (later (some (λ (j : ℕ). ‵ (roster row_coded.code γ 0 (h.rows ++ u ∷ [])) ⊛ ‵ (held γ u j))))
    (via 𝓤 _ (joins 𝓛 row_coded γ (h.rows) 0 u) (basic 𝓛 (ex 𝓤 (Joined 𝓛 row_coded γ 0 h.rows u)))) $ await ! tt $
    pick ! (λ j. split ! $
    let h' : Rr.Denot =
    record { marker = h.marker; name = γ; rows = h.rows ++ u ∷ [] } in let p : Pr.Denot =
    record { marker = record {}; name = γ; row = u } in
    let A₁ : Type 0 =
    (γ ≡ γ) × (γ ≡ γ) in let A₂ : Type 0 = h'.rows ≡ h.rows ++ u ∷ [] in let A₃ : Type 0 = p.row ≡ u in
    move ! (2 ∷ 0 ∷ []) $ fjoin ! $ move ! (2 ∷ 0 ∷ 3 ∷ 4 ∷ 5 ∷ []) $ closes ! tt Rr h' ts b o $ feq_i ! (List Val)
    (vptr b o ∷ []) (vptr b o ∷ []) refl $ fjoin3 ! $
    nothing ! $ nothing ! $ fjoin ! $ move ! (1 ∷ 0 ∷ []) $ fjoin ! $ move ! (1 ∷ 3 ∷ []) $ join ! $ move !
    (2 ∷ []) $ fpack ! ℕ (held γ u) j $
    use0 𝓛 (‵ (bare (parts.the_type).name)) (bare_made 𝓛 (parts.the_type).name) $ fjoin ! $
    sets ! (agg ! (no_more !)) refl (tt, tt) $ sets ! (agg ! (and_then ! (get ! refl) (no_more !))) refl
    (tt, (tt, tt)) $
    use0 𝓛 (raw (fact 𝓤 A₃)) (fact_i 𝓤 A₃ (emp 𝓤) refl) $ use0 𝓛 (raw (fact 𝓤 A₂))
    (fact_i 𝓤 A₂ (emp 𝓤) refl) $ join ! $ use0 𝓛 (raw (fact 𝓤 A₁)) (fact_i 𝓤 A₁ (emp 𝓤) (refl, refl)) $ join ! $
    returns ! (look_at ! 0 refl) $ free_all ! refl $ keep ! (2 ∷ 3 ∷ 1 ∷ 0 ∷ []) $ by !
    (leaves 𝓛 En hs c y token p (h', (tt, tt)) (tt, (tt, tt)))))))
