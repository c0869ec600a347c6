-- The result of `into_raw` is what an open handle owns.
use Rattle.c_handles.proofs.Steps.{◌≡◌, true, List, [], ◌∷◌, ◌++◌, refl, sym, ap, subst, Val, SProp, ent, emp, id⊢, WpFn, ftrue, flft, fact, fact_i, ‵, raw, ◌⊛◌, some, later, ◌$◌, ◌∵◌, !, qed, by, move, keep, drop, use0, use1, split, join, fsplit, fjoin, feq_l, pick, await, rewrite, suffices, enter, of_opd, true_lit, no_more, and_then, returns, alloc_all, pass_all, free_all, look_at, get, sets, lands_as, agg, lft_new, ◌⊑◌, tables, yes, Is, shows, layout, owns, types_at, Ptr, RawPtr, plain, nothing, only, peeks, calls_at, Lasts, lasts, triple_of, framed, Stays, walk_of, stay_dropped, Goes-dropped, proved_at, leaves, full_share, rawptr_Lawful}
use Rattle.c_handles.specs.contracts.any_board.AnyBoard as board
use Rattle.std.specs.Prelude.{Some}
use Rattle.std.proofs.alloc.Global.TheLaws as heap_laws
use Rattle.std.specs.contracts.impls.GlobalAllocator.TheImpl.{ghosts, dict}
use Rattle.std.proofs.impls.GlobalAllocator.TheImpl.Met as heap_met
use Rattle.std.specs.contracts.boxed.Box.into_raw as g
use Rattle.std.proofs.boxed.Box.into_raw.Met.{met}
use Rattle.std.proofs.cell.Inside.{Good, one}
use Rattle.c_handles.proofs.any_board.AnyBoard.TheLaws as board_laws
use Rattle.c_handles.specs.inside.Owned.{owned}
use Rattle.c_handles.proofs.OfBoard.Calls.{D, D-laws, B, B-laws, board_drops, board_glue}
use Rattle.c_handles.proofs.Heap.{Z, Z-laws, heap_drops, heap_glue}
use Rattle.c_handles.proofs.Owned.{word, word_good}
use Rattle.c_handles.proofs.OfBoard.Owned.{handle_in}
use Rattle.c_handles.specs.declared.board_handle.BoardHandle.{BoardHandle}
use Rattle.c_handles.specs.contracts.board_handle.BoardHandle.holding as f
use Rattle.c_handles.proofs.board_handle.BoardHandle.holding.Statement.{statement}
use Rattle.c_handles.proofs.board_handle.BoardHandle.holding.Code as code

abbrev stayed : Stays f.ended.signature.params f.ended.kept
stayed = (stay_dropped (plain (λ _. B)) yes, tt)

pub holding_spec : {M : Type 1} → statement M
holding_spec {M} 𝓤 𝓛 𝓜 𝓡 wired =
    let c = f.clauses 𝓛 𝓜.mem 𝓡.returns in let W = walk_of 𝓛 f.ended stayed c in let 𝓣 = tables 𝓤 𝓛.H 𝓜 𝓡 𝓡.env in
    proved_at 𝓛 f.ended stayed c 𝓜 𝓡 (Goes-dropped 𝓛 0 (plain (λ _. B)) yes (λ κs x w. refl), tt)
    f.Key.name code.function (code.unfolded 𝓤 𝓛.H 𝓜 𝓡 wired) (λ z are.
    let v = z.0.3.0 in let vs = z.0.4.0 in
    let Run : List Val → SProp 𝓤 = λ ws. WpFn 𝓤 𝓛.H 𝓣.C 𝓣.Λ code.function ws (W.post z) in
    qed 𝓛 ((‵ ftrue ⊛ ‵ (owns (types_at f.ended.signature.params tt) z.0.3 z.0.4)) ∷ ‵ ftrue ∷ []) ∵ split ! $ drop !
    $ fsplit ! $ keep ! (0 ∷ []) $
    peeks ! B (Is B) (shows 𝓛 B) v vs (λ is.
    let told = one (layout B) vs ((B-laws.lawful 𝓛).typed v vs is) in let w : Val = told.0 in
    let good : Good (layout B) w = told.2 in
    suffices ! (Run (w ∷ []))
    (subst (λ (us : List Val). ent 𝓤 (Run (w ∷ [])) (Run us)) (sym (λ i. told.1 i ++ [])) (id⊢ 𝓤 (Run (w ∷ [])))) $
    rewrite ! 0 (λ (us : List Val). ‵ (B.own_val v us)) told.1 refl $
    enter ! _ _ _ _ _ $ alloc_all ! (λ l. pass_all ! refl (good, tt) $
    sets ! (of_opd ! (get ! refl)) refl good $
    -- [the box]
    lft_new ! tt (λ α. lft_new ! tt (λ β.
    let κ₁ = α ∷ [] in let κ₂ = β ∷ [] in
    let k = triple_of 𝓛 (g.signature D Z ghosts dict heap_drops board_drops)
    (g.spec D Z ghosts dict heap_drops board_drops 𝓛 𝓜.mem 𝓡.returns) in
    let y : k.Ghost = (((κ₁, (κ₂, tt)), (full_share, (full_share, tt)), tt, (v, tt), (w ∷ [], tt)), tt) in
    let toks = ‵ (flft κ₁ full_share) ⊛ ‵ (flft κ₂ full_share) ⊛ ‵ ftrue in
    -- [the token of β; the token of α; the box]
    nothing ! $ move ! (1 ∷ 0 ∷ []) $ join ! $ move ! (1 ∷ 0 ∷ []) $ join ! $
    nothing ! $ move ! (2 ∷ 0 ∷ []) $ fjoin ! $ move ! (1 ∷ 0 ∷ []) $ join ! $
    nothing ! $ use0 𝓛 (raw (fact 𝓤 (κ₂ ⊑ Z.lives)))
    (fact_i 𝓤 (κ₂ ⊑ Z.lives) (emp 𝓤) (heap_laws.the_within κ₂)) $ join ! $
    use0 𝓛 (raw (fact 𝓤 (κ₁ ⊑ D.lives))) (fact_i 𝓤 (κ₁ ⊑ D.lives) (emp 𝓤) (board_laws.the_within κ₁)) $ join ! $
    move ! (1 ∷ 0 ∷ []) $ join ! $ use1 𝓛 (raw (k.pre y)) (id⊢ 𝓤 _) $
    calls_at ! (framed 𝓤 𝓛.H 𝓜 𝓣) k
    (met 𝓤 𝓛 𝓜 𝓡 (code.calls-std_alloc::boxed::Box::into_raw 𝓡.env wired) D Z D-laws Z-laws ghosts dict heap_drops
    board_drops
    (heap_met.passed 𝓡.env (code.calls-std_heap::GlobalAllocator::allocate 𝓡.env wired)
    (code.calls-std_heap::GlobalAllocator::deallocate 𝓡.env wired)
    (code.calls-std_heap::GlobalAllocator::grow 𝓡.env wired)
    (code.calls-std_heap::GlobalAllocator::shrink 𝓡.env wired) M 𝓤 𝓛 𝓜 𝓡)
    (heap_glue 𝓤 𝓛 𝓜 𝓡 (code.calls-c_handles::Destruct++none::drop 𝓡.env wired))
    (board_glue 𝓤 𝓛 𝓜 𝓡 (code.calls-c_handles::c_handles++any_board++AnyBoard+Destruct::drop 𝓡.env wired))) y
    (and_then ! (get ! refl) (no_more !)) (λ u.
    use1 𝓛 (later (some (λ (r : Ptr). (toks ⊛ ‵ (RawPtr.own_val r (u ∷ []))) ⊛ some
    (λ (ls : Lasts (g.ended D Z ghosts dict heap_drops board_drops) y.0.0 y.0.3). ‵
    (lasts (g.ended D Z ghosts dict heap_drops board_drops) y.0.0 y.0.3 ls) ⊛
    ‵ (owned board.the_row true r (Some v.value)))))) (id⊢ 𝓤 (k.post y u)) $
    await ! tt $ pick ! (λ r.
    split ! $ move ! (1 ∷ []) $ pick !
    (λ _. split ! $ drop ! $ move ! (1 ∷ []) $ split ! $ move ! (1 ∷ []) $ feq_l ! (λ is_ptr.
    let made : BoardHandle =
    record { at = r; is_open = true; board = Some v.value } in let at_good = ((rawptr_Lawful 𝓛).typed r _ refl).0 in
    -- [the tokens; what is held]
    lands_as ! (ap only is_ptr) refl at_good $ sets ! (of_opd ! (get ! refl)) refl at_good $
    sets ! (agg ! (and_then ! (get ! refl) (and_then ! (true_lit !) (no_more !)))) refl (word_good r true) $
    returns ! (look_at ! 0 refl) $ free_all ! refl $ move ! (1 ∷ []) $ handle_in ! made $
    use0 𝓛 (raw (fact 𝓤 (made.board ≡ Some v.value))) (fact_i 𝓤 (made.board ≡ Some v.value) (emp 𝓤) refl) $
    nothing ! $ nothing ! $ fjoin ! $ nothing ! $ keep ! (0 ∷ 1 ∷ 3 ∷ 2 ∷ []) $
    by ! (leaves 𝓛 f.ended stayed c z (word r true) made (tt, tt) (tt, tt)))))))))))
