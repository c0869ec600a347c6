-- What an open handle owns is what `from_raw` requires.
use Rattle.c_handles.proofs.Steps.{has_ty, WT, and_tt, ap, ◌∙◌, heard, Ura, Logic, Item, Goal, Step, step, ◌≡◌, Bool, List, [], ◌∷◌, refl, sym, subst, not, lit<, T, Val, vcons, vnil, emp, id⊢, ftrue, flft, fact, fact_i, ‵, raw, ◌⊛◌, some, later, at_ret, ◌$◌, ◌∵◌, !, qed, by, move, keep, drop, use0, use1, split, split3, join, fjoin, feq_i, pick, await, enter, of_opd, un, lit, fld, stop, no_more, and_then, first, blocks, branches, skips, exec, returns, returns_within, alloc_all, pass_all, free_all, look_at, get, get_in, sets, lands_last, env, agg, sub, whole, live, lft_new, ◌⊑◌, tables, yes, RattleType, Is, shows, layout, ptr_val, plain, nothing, peeks, calls_at_last, Lasts, lasts, triple_of, framed, Stays, walk_of, stay_dropped, Goes-dropped, proved, leaves, full_share, rawptr_Lawful}
use Rattle.std.proofs.alloc.Global.TheLaws as heap_laws
use Rattle.c_handles.specs.contracts.line.OwnedLine as line
use Rattle.std.specs.Prelude.{Option, None, Some, IfSome, IfNone}
use Rattle.c_handles.specs.Lines.{LineModel}
use Rattle.std.specs.declared.option.Option.TheVariants as option
use Rattle.std.proofs.option.Made.{Some-of, none_of}
use Rattle.std.proofs.Handle.{heap_val, heap_Tells}
use Rattle.std.specs.contracts.alloc.Global as heap
use Rattle.std.specs.contracts.option.Option as opt
use Rattle.std.specs.contracts.impls.GlobalAllocator.TheImpl.{ghosts, dict}
use Rattle.std.proofs.impls.GlobalAllocator.TheImpl.Met as heap_met
use Rattle.std.specs.contracts.boxed.Box.from_raw as g
use Rattle.std.proofs.boxed.Box.from_raw.Met.{met}
use Rattle.c_handles.proofs.line.OwnedLine.TheLaws as line_laws
use Rattle.c_handles.proofs.OfLine.Calls.{D, D-laws, B, B-laws}
use Rattle.c_handles.proofs.Heap.{Z, Z-laws, heap_drops, heap_glue}
use Rattle.c_handles.proofs.Owned.{word, word_good, held_cases}
use Rattle.c_handles.proofs.OfLine.Owned.{handle_Tells, handle_out}
use Rattle.c_handles.specs.contracts.line_handle.LineHandle as handle
use Rattle.c_handles.specs.contracts.line_handle.LineHandle.into_line as f
use Rattle.c_handles.proofs.line_handle.LineHandle.into_line.Statement.{statement}
use Rattle.c_handles.proofs.line_handle.LineHandle.into_line.Code as code

abbrev O : RattleType
O = opt.the_row B

-- what the contract says of the result
module _ {M : Type 1} {𝓤 : Ura M} {𝓛 : Logic 𝓤} {K : Type 0} {Γ : List (Item 𝓤)} {G : Goal 𝓤 𝓛.H} where
  told : K → (r : O.Denot) (x : Option LineModel) → IfSome r (λ b. x ≡ Some b.value) → IfNone r (x ≡ None)
      → Step K 𝓛 ((raw (fact 𝓤 (IfSome r (λ b. x ≡ Some b.value))) ⊛ raw (fact 𝓤 (IfNone r (x ≡ None)))) ∷ Γ) G Γ G
  told t r x found none = step (λ s.
      use0 𝓛 (raw (fact 𝓤 (IfNone r (x ≡ None)))) (fact_i 𝓤 (IfNone r (x ≡ None)) (emp 𝓤) none) $
      use0 𝓛 (raw (fact 𝓤 (IfSome r (λ b. x ≡ Some b.value))))
      (fact_i 𝓤 (IfSome r (λ b. x ≡ Some b.value)) (emp 𝓤) found) $ join t $ s)

abbrev stayed : Stays f.ended.signature.params f.ended.kept
stayed = (stay_dropped _ yes, (stay_dropped _ yes, tt))

pub into_line_spec : {M : Type 1} → statement M
into_line_spec {M} 𝓤 𝓛 𝓜 𝓡 wired =
    let c = f.clauses 𝓛 𝓜.mem 𝓡.returns in let W = walk_of 𝓛 f.ended stayed c in let 𝓣 = tables 𝓤 𝓛.H 𝓜 𝓡 𝓡.env in
    proved 𝓛 f.ended stayed c 𝓜 𝓡 (
      Goes-dropped 𝓛 0 (plain (λ _. handle.the_row)) yes (λ κs x w. refl),
      (Goes-dropped 𝓛 0 (plain (λ _. heap.the_row)) yes (λ κs x w. refl), tt),
    )
    f.Key.name code.function (code.unfolded 𝓤 𝓛.H 𝓜 𝓡 wired)
    (λ κs. (λ h. word h.at h.is_open ∷ [], (λ _. heap_val ∷ [], tt))) (λ κs. (handle_Tells, (heap_Tells, tt)))
    (λ κs qs bounds a n are.
    let h = a.0 in let w = word h.at h.is_open in
    let z : W.Ghost = ((κs, qs, bounds, a, (w ∷ [], (heap_val ∷ [], tt))), tt) in
    let at_good = ((rawptr_Lawful 𝓛).typed h.at _ refl).0 in
    qed 𝓛 ((‵ ftrue ⊛ ‵ (handle.the_row.own_val h (w ∷ [])) ⊛ ‵
    (heap.the_row.own_val a.1.0 (heap_val ∷ [])) ⊛ ‵ ftrue) ∷ ‵ ftrue ∷ []) ∵
    split ! $ drop ! $ split ! $ handle_out ! h $ move ! (1 ∷ []) $ split ! $ keep ! (2 ∷ 0 ∷ []) $
    -- [what is held; the heap]
    enter ! _ _ _ _ _ $ alloc_all ! (λ l. pass_all ! refl (word_good h.at h.is_open, ((tt, ((tt, tt), tt)), tt)) $
    sets ! (of_opd ! (get_in ! (fld ! refl (stop !)) (sub ! 0 refl (whole !)))) refl at_good $
    sets ! (of_opd ! (get_in ! (fld ! refl (stop !)) (sub ! 1 refl (whole !)))) refl (tt, tt) $
    sets ! (un ! (get ! refl) tt) refl (tt, tt) $
    first ! $ branches ! (get ! refl)
    (λ shut. held_cases line.the_row ! h.is_open h.at h.line (λ _ is_none.
    sets ! (agg ! (and_then ! (lit ! tt) (no_more !))) refl (tt, (record { fits = lit< tt }, tt)) $
    returns_within ! (W.post z) refl (look_at ! 0 refl) $ free_all ! refl $
    use0 𝓛 (‵ (O.own_val option.None (live 0 vnil ∷ [])))
    (none_of 𝓛 B) $ told ! option.None h.line tt is_none $ nothing ! $ nothing ! $ nothing ! $ fjoin ! $ move !
    (1 ∷ 0 ∷ []) $ fjoin ! $ nothing ! $ keep ! (0 ∷ 1 ∷ 3 ∷ 2 ∷ []) $
    by ! (leaves 𝓛 f.ended stayed c z (live 0 vnil) option.None (tt, (tt, tt)) (tt, (tt, tt))))
    (λ d is_open _. absurd (subst (λ (y : Bool). T (not y)) is_open shut)))
    (λ not_shut. skips ! $ exec ! 𝓣.C 𝓣.Λ (env code.Mir.locals l) code.Mir.t-5
    (at_ret (env code.Mir.locals l) (W.post z)) $
    held_cases line.the_row ! h.is_open h.at h.line
    (λ is_shut _. absurd (subst (λ (y : Bool). T (not (not y))) is_shut not_shut)) (λ d _ is_some.
    let p = h.at in let e = a.1.0 in
    first ! $ blocks ! $
    sets ! (of_opd ! (get ! refl)) refl at_good $
    -- [the line and its block; the heap]
    lft_new ! tt (λ α. lft_new ! tt (λ β.
    let κ₁ = α ∷ [] in let κ₂ = β ∷ [] in
    let k = triple_of 𝓛 (g.signature D Z ghosts dict heap_drops)
    (g.spec D Z ghosts dict heap_drops 𝓛 𝓜.mem 𝓡.returns) in
    let y : k.Ghost =
    (((κ₁, (κ₂, tt)), (full_share, (full_share, tt)), tt, (e, (p, tt)), (heap_val ∷ [], (ptr_val p ∷ [], tt))), d)
    in
    let toks = ‵ (flft κ₁ full_share) ⊛ ‵ (flft κ₂ full_share) ⊛ ‵ ftrue in
    -- [the token of β; the token of α; the line and its block; the heap]
    nothing ! $ move ! (1 ∷ 0 ∷ []) $ join ! $ move ! (1 ∷ 0 ∷ []) $ join ! $
    nothing ! $ feq_i ! (List Val) (ptr_val p ∷ []) (ptr_val p ∷ []) refl $ fjoin ! $ move !
    (3 ∷ 0 ∷ []) $ fjoin ! $ move ! (1 ∷ 0 ∷ []) $ join ! $
    move ! (1 ∷ []) $ use0 𝓛 (raw (fact 𝓤 (κ₂ ⊑ Z.lives)))
    (fact_i 𝓤 (κ₂ ⊑ Z.lives) (emp 𝓤) (heap_laws.the_within κ₂)) $ join ! $
    use0 𝓛 (raw (fact 𝓤 (κ₁ ⊑ D.lives))) (fact_i 𝓤 (κ₁ ⊑ D.lives) (emp 𝓤) (line_laws.the_within κ₁)) $ join ! $
    move ! (1 ∷ 0 ∷ []) $ join ! $ use1 𝓛 (raw (k.pre y)) (id⊢ 𝓤 _) $
    calls_at_last ! (framed 𝓤 𝓛.H 𝓜 𝓣) k
    (met 𝓤 𝓛 𝓜 𝓡 (code.calls-std_alloc::boxed::Box::from_raw 𝓡.env wired) D Z D-laws Z-laws ghosts dict heap_drops
    (heap_met.passed 𝓡.env (code.calls-std_heap::GlobalAllocator::allocate 𝓡.env wired)
    (code.calls-std_heap::GlobalAllocator::deallocate 𝓡.env wired)
    (code.calls-std_heap::GlobalAllocator::grow 𝓡.env wired)
    (code.calls-std_heap::GlobalAllocator::shrink 𝓡.env wired) M 𝓤 𝓛 𝓜 𝓡)
    (heap_glue 𝓤 𝓛 𝓜 𝓡 (code.calls-c_handles::Destruct++none::drop 𝓡.env wired))) y
    (and_then ! (get ! refl) (and_then ! (get ! refl) (no_more !))) (λ u.
    use1 𝓛 (later (some
    (λ (r : B.Denot). (toks ⊛ ‵ (B.own_val r (u ∷ []))) ⊛ some
    (λ (ls : Lasts (g.ended D Z ghosts dict heap_drops) y.0.0 y.0.3). ‵
    (lasts (g.ended D Z ghosts dict heap_drops) y.0.0 y.0.3 ls) ⊛
    (raw (fact 𝓤 (r.value ≡ d)) ⊛ raw (fact 𝓤 (r.alloc ≡ e))))))) (id⊢ 𝓤 (k.post y u)) $
    await ! tt $ pick ! (λ r.
    split ! $ move ! (1 ∷ []) $ pick !
    (λ _. split3 ! $ drop ! $ heard ! (r.value ≡ d) (λ same. drop ! $ split ! $ move ! (1 ∷ []) $
    -- [the box]
    peeks ! B (Is B) (shows 𝓛 B) r (u ∷ []) (λ is.
    let good : T (has_ty (layout B) u) × WT u = ((B-laws.lawful 𝓛).typed r _ is).0 in
    let v : Val = live 1 (vcons u vnil) in
    lands_last ! refl good $ exec ! 𝓣.C 𝓣.Λ (env code.Mir.locals l) code.Mir.t-6
    (at_ret (env code.Mir.locals l) (W.post z)) $
    sets ! (of_opd ! (get ! refl)) refl good $ sets ! (of_opd ! (get ! refl)) refl good $
    sets ! (agg ! (and_then ! (lit ! tt) (and_then ! (get ! refl) (no_more !)))) refl
    (and_tt _ good.0, (record { fits = lit< tt }, (good.1, tt))) $
    returns ! (look_at ! 0 refl) $ free_all ! refl $
    use1 𝓛 (‵ (O.own_val (option.Some r) (v ∷ []))) (Some-of 𝓛 B r u) $
    told ! (option.Some r) h.line
    (is_some ∙ ap Some (sym same)) tt $ nothing ! $ nothing ! $ nothing ! $ fjoin ! $ move !
    (1 ∷ 0 ∷ []) $ fjoin ! $ nothing ! $ keep ! (0 ∷ 1 ∷ 3 ∷ 2 ∷ []) $
    by ! (leaves 𝓛 f.ended stayed c z v (option.Some r) (tt, (tt, tt)) (tt, (tt, tt))))))))))))))
