-- `extend` sets the row of a part, which the roster has, in both.
use Rattle.std.specs.Prelude.{slice_set}
use Rattle.atomic_table.proofs.Names.{◌≡◌, ℕ, ◌++◌, List, [], ◌∷◌, refl, named, Val, vptr, vunit, SProp, sep, emp, all, all_e, ftrue, flft, sem, ‵, raw, ◌⊛◌, given, later, ◌$◌, ◌∵◌, !, qed, by, move, keep, split, split3, join, fsplit, fsplit3, fjoin, fjoin3, fpick, fpack, learn, rewrite, await, use0, use1, use2, feq_i, unit_lit, of_opd, returns, enter, alloc_all, pass_all, free_all, look_at, sets, tables, yes, RattleType, owns, types_at, plain, RefOf, nothing, Stays, stay_dropped, stay_ref, walk_of, Goes-dropped, Goes-ref, fact, fact_i, mut_vals, mut_Tells, shr_vals, shr_Tells, opens, closes, heard, arith}
use mathlib.Core.Option as maybe
use lib.ListN.{get_elem?}
use types.Owned.{basic}
use Rattle.atomic_table.proofs.Walks.{proved, leaves}
use Rattle.atomic_table.specs.Seated.{roster}
use Rattle.atomic_table.proofs.Roster.{moves, Moved}
use Rattle.ghost_history.specs.Rows.{Answer, answer, Row, row, IsExtended}
use Rattle.ghost_history.specs.inside.Codes.{row_coded}
use Rattle.ghost_history.proofs.Tokens.{held}
use Rattle.ghost_history.specs.contracts.roster.Answered as answers
use Rattle.ghost_history.specs.contracts.roster.Roster as rosters
use Rattle.ghost_history.specs.contracts.roster.Part as parts
use Rattle.ghost_history.specs.contracts.roster.Roster.extend.{ended, clauses}
use Rattle.ghost_history.specs.contracts.roster.Roster.extend.Key.{name as #self}
use Rattle.ghost_history.proofs.roster.Roster.extend.Statement.{statement}
use Rattle.ghost_history.proofs.roster.Roster.extend.Code as code

pub extend_spec : {M : Type 1} → statement M
extend_spec 𝓤 𝓛 𝓜 𝓡 wired =
    let H = 𝓛.H in let 𝓣 = tables 𝓤 H 𝓜 𝓡 𝓡.env in let En = ended in let c = clauses 𝓛 𝓜.mem 𝓡.returns in
    let fn = code.function in
    let Rr : RattleType =
    rosters.the_row in let Pr : RattleType =
    parts.the_row in let Hr : RattleType =
    answers.the_row in let self = plain (λ _. Rr) in let own = plain (λ _. Pr) in
    let one = RefOf (2 ∷ []) tt (plain (λ _. Hr)) (λ _. tt) in
    let hs : Stays En.signature.params En.kept =
    (stay_ref (0 ∷ []) tt self, (stay_ref (1 ∷ []) tt own, (stay_dropped one yes, tt))) in
    proved 𝓛 En hs c 𝓜 𝓡 (
      Goes-ref 𝓛 3 0 tt self,
      (Goes-ref 𝓛 3 1 tt own, (Goes-dropped 𝓛 3 one yes (λ κs x f. refl), tt)),
    ) #self fn
    (code.unfolded 𝓤 H 𝓜 𝓡 wired)
    (λ κs. (mut_vals, (mut_vals, (shr_vals, tt))))
    (λ κs. (mut_Tells (named 0) κs.0 Rr, (mut_Tells (named 1) κs.1.0 Pr, (shr_Tells (named 2) κs.1.1.0 Hr, tt))))
    (λ κs qs bounds a gh are.
    let b : ℕ = a.0.ref_ptr.0 in let o : ℕ = a.0.ref_ptr.1 in let h : Rr.Denot = a.0.now in let γ : ℕ = h.name in
    let b₂ : ℕ =
    a.1.0.ref_ptr.0 in let o₂ : ℕ =
    a.1.0.ref_ptr.1 in let p : Pr.Denot =
    a.1.0.now in let v : Row =
    p.row in let x : Answer =
    answer a.1.1.0.now.event.value a.1.1.0.now.reply.value a.1.1.0.now.notices.value in let u : Row =
    row v.0 (v.1 ++ x ∷ []) in
    let us : List Val = vptr a.1.1.0.ref_ptr.0 a.1.1.0.ref_ptr.1 ∷ [] in
    let y : (walk_of 𝓛 En hs c).Ghost =
    ((κs, qs, bounds, a, (vptr b o ∷ [], (vptr b₂ o₂ ∷ [], (us, tt)))), gh) in let Post : Val → SProp 𝓤 =
    (walk_of 𝓛 En hs c).post y in
    qed 𝓛 (((‵ (flft κs.0 qs.0) ⊛ ‵ (flft κs.1.0 qs.1.0) ⊛ ‵ (flft κs.1.1.0 qs.1.1.0) ⊛ ‵ ftrue) ⊛ ‵
    (owns (types_at En.signature.params κs) a y.0.4)) ∷ raw ((c κs a).requires gh) ∷ []) ∵
    move ! (1 ∷ []) $ heard ! (p.name ≡ γ)
    (λ same. split ! $ split3 ! $ move ! (2 ∷ []) $ split ! $ move ! (4 ∷ []) $ fsplit3 ! $ fsplit3 ! $ move !
    (3 ∷ []) $ fsplit3 ! $ keep ! (1 ∷ 2 ∷ 10 ∷ 4 ∷ 5 ∷ 9 ∷ 7 ∷ 8 ∷ []) $
    enter ! 𝓣.C 𝓣.Λ fn (vptr b o ∷ vptr b₂ o₂ ∷ us) Post $ alloc_all !
    (λ l. pass_all ! refl ((tt, tt), ((tt, tt), ((tt, tt), tt))) $
    opens ! tt Pr b₂ o₂ (λ ts₂.
    move ! (1 ∷ []) $ fsplit ! $ move ! (1 ∷ []) $ fpick !
    (λ k. rewrite ! 0 (λ (x : ℕ). ‵ (held x v k)) same refl $ move ! (6 ∷ 7 ∷ 8 ∷ []) $
    opens ! tt Rr b o (λ ts. move ! (1 ∷ []) $ fsplit ! $ move ! (1 ∷ 6 ∷ []) $
    let Again = Moved 𝓛 row_coded γ 0 h.rows k k in let rows' : List Row = lib.ListN.set h.rows k u in
    use2 𝓛 (given (get_elem? h.rows k ≡ maybe.some v) (raw (all 𝓤 Again)))
    (moves 𝓛 row_coded γ h.rows 0 k k v (omega arith)) $ learn ! (λ at.
    use1 𝓛 (raw (Again u)) (all_e 𝓤 Again u) $ use1 𝓛 (later (‵ (roster row_coded.code γ 0 rows') ⊛ ‵ (held γ u k)))
    (basic 𝓛 (sep 𝓤 (sem 𝓛 (roster row_coded.code γ 0 rows')) (sem 𝓛 (held γ u k)))) $ await ! tt $ split ! $
    let h' : Rr.Denot =
    record { marker = h.marker; name = γ; rows = rows' } in let p' : Pr.Denot =
    record { marker = p.marker; name = γ; row = u } in
    let A₁ : Type 0 = (γ ≡ γ) × (γ ≡ γ) in let A₂ : Type 0 = IsExtended h.rows v x rows' u in
    move ! (2 ∷ 0 ∷ []) $ fjoin ! $ move ! (2 ∷ 0 ∷ 3 ∷ 4 ∷ 5 ∷ []) $ closes ! tt Rr h' ts b o $ feq_i ! (List Val)
    (vptr b o ∷ []) (vptr b o ∷ []) refl $ fjoin3 ! $
    move ! (2 ∷ []) $ fpack ! ℕ (held γ u) k $ move ! (3 ∷ 0 ∷ []) $ fjoin ! $ move !
    (3 ∷ 0 ∷ 4 ∷ 5 ∷ 6 ∷ []) $ closes ! tt Pr p' ts₂ b₂ o₂ $ feq_i ! (List Val) (vptr b₂ o₂ ∷ [])
    (vptr b₂ o₂ ∷ []) refl $ fjoin3 ! $
    nothing ! $ nothing ! $ fjoin ! $ move ! (1 ∷ 0 ∷ []) $ fjoin ! $ move ! (2 ∷ 0 ∷ []) $ fjoin ! $ move !
    (3 ∷ 4 ∷ []) $ join ! $ move ! (2 ∷ 0 ∷ []) $ join ! $ move ! (2 ∷ 0 ∷ []) $ join ! $
    sets ! (of_opd ! (unit_lit !)) refl (tt, tt) $
    use0 𝓛 (raw (fact 𝓤 A₂)) (fact_i 𝓤 A₂ (emp 𝓤) (refl, k, at, refl)) $ use0 𝓛 (raw (fact 𝓤 A₁))
    (fact_i 𝓤 A₁ (emp 𝓤) (refl, refl)) $ join ! $ feq_i ! (List Val) (vunit ∷ []) (vunit ∷ []) refl $
    returns ! (look_at ! 0 refl) $ free_all ! refl $ keep ! (2 ∷ 3 ∷ 0 ∷ 1 ∷ []) $ by !
    (leaves 𝓛 En hs c y vunit tt (h', (p', (tt, tt))) (tt, (tt, (tt, tt)))))))))))
