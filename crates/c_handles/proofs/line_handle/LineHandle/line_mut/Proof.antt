-- The line leaves the handle for the duration of the borrow, and the handle gets its final value.
use Rattle.c_handles.proofs.Steps.{fres, GName, Fml, fst∗, never, sep, named, fsplit3, group, load, addr, through, sets_last, look_in, part_at, mem, cell_at, MutRef, mut_vals, mut_Tells, MutBor, mut_ref_to, opens, closes, in_a_block, Goes-spent_ref, follows, lends_Part, ◌≡◌, ℕ, Bool, true, false, List, [], ◌∷◌, refl, sym, subst, not, lit<, T, Ura, Val, vptr, vcons, vnil, ent, emp, ftrue, fsep, flft, full_share, Logic, sem, fact, fact_i, bare, Item, ‵, raw, ◌⊛◌, some, later, at_ret, ◌$◌, ◌∵◌, !, qed, by, done, move, keep, drop, use0, use1, split, split3, join, fsplit, fjoin, fpack, pick, await, rewrite, enter, of_opd, un, lit, fld, stop, no_more, and_then, first, blocks, branches, skips, exec, returns, returns_within, alloc_all, pass_all, free_all, look_at, get, sets, env, agg, sub, whole, live, tables, no, RattleType, Is, shows, layout, Ptr, block_ptr, null_ptr, plain, nothing, peeks, Stays, walk_of, stay_dropped, proved, leaves, rawptr_Lawful}
use mathlib.Core.Option as maybe
use denote.Memory.{part_of}
use denote.Follow.{follows_by, such_by}
use Rattle.std.specs.Prelude.{Option, None, Some}
use Rattle.std.specs.declared.option.Option.TheVariants as option
use Rattle.std.specs.contracts.option.Option as opt
use Rattle.std.proofs.option.Made.{Some-of, none_of}
use Rattle.std.specs.Box.Ownership.{box_owns}
use Rattle.std.specs.contracts.impls.GlobalAllocator.TheImpl.{ghosts}
use Rattle.c_handles.specs.Lines.{LineModel}
use Rattle.c_handles.specs.contracts.line.OwnedLine as line
use Rattle.c_handles.specs.inside.Owned.{heap, owned}
use Rattle.c_handles.specs.declared.line_handle.LineHandle.{LineHandle}
use Rattle.c_handles.specs.contracts.line_handle.LineHandle as handle
use Rattle.c_handles.proofs.Owned.{word, held_cases}
use Rattle.c_handles.proofs.OfLine.Owned.{handle_Tells, handle_in}
use Rattle.c_handles.specs.contracts.line_handle.LineHandle.line_mut as f
use Rattle.c_handles.proofs.line_handle.LineHandle.line_mut.Statement.{statement}
use Rattle.c_handles.proofs.line_handle.LineHandle.line_mut.Code as code

abbrev H : RattleType
H = handle.the_row

abbrev D : RattleType
D = line.the_row

abbrev stayed : Stays f.ended.signature.params f.ended.kept
stayed = (stay_dropped (mut_ref_to (0 ∷ []) tt (plain (λ _. H))) no, tt)

-- the handle once its line is d
abbrev with_line : LineHandle → LineModel → LineHandle
with_line h d = record { at = h.at; is_open = h.is_open; line = Some d }

abbrev shut : LineHandle
shut = record { at = null_ptr; is_open = false; line = None }

-- the final value of the handle: with the last line, or unchanged if there is no borrow
abbrev Such : Type 0
Such = (s : (LineModel → LineHandle) × LineHandle) × ((d : LineModel) → (s.0 d).line ≡ Some d) × ((s.1).line ≡ None)

-- the right to free the line's block, and the handle's cell
abbrev Rest : LineHandle → ℕ → ℕ → ℕ → ℕ → Fml
Rest h b o b' o' =
    fsep (ghosts.dealloc_token heap (bare (layout D)) (block_ptr b' o'))
    (cell_at full_share H.mir (word (block_ptr b' o') h.is_open ∷ []) b o)

module _ {M : Type 1} {𝓤 : Ura M} (𝓛 : Logic 𝓤) (h : LineHandle) (b o b' o' : ℕ) where
  back : h.at ≡ block_ptr b' o' → h.is_open ≡ true → (w : LineModel)
      → ent 𝓤 (sep 𝓤 (sem 𝓛 ((mem D).own_at w b' o')) (sem 𝓛 (Rest h b o b' o')))
      (sem 𝓛 ((mem H).own_at (with_line h w) b o))
  unfolding part_of
  back at_b is_open w =
      qed 𝓛 (‵ (part_at D full_share w b' o') ∷ ‵ (Rest h b o b' o') ∷ []) ∵ move ! (1 ∷ []) $ fsplit ! $ move !
      (2 ∷ 0 ∷ []) $ fjoin ! $
      rewrite ! 0 (λ (p : Ptr). ‵ (owned line.the_row true p (Some w))) (sym at_b) refl $ rewrite ! 0
      (λ (y : Bool). ‵ (owned line.the_row y h.at (Some w))) (sym is_open) refl $
      handle_in ! (with_line h w) $ rewrite ! 1
      (λ (p : Ptr). ‵ (cell_at full_share H.mir (word p h.is_open ∷ []) b o)) (sym at_b) refl $ move !
      (1 ∷ 0 ∷ []) $ fjoin ! $
      fpack ! (List Val) (λ us. fsep (cell_at full_share H.mir us b o) (H.own_val (with_line h w) us))
      (word h.at h.is_open ∷ []) $ done !

pub line_mut_spec : {M : Type 1} → statement M
unfolding such_by follows_by
line_mut_spec {M} 𝓤 𝓛 𝓜 𝓡 wired =
    let c = f.clauses 𝓛 𝓜.mem 𝓡.returns in let W = walk_of 𝓛 f.ended stayed c in let 𝓣 = tables 𝓤 𝓛.H 𝓜 𝓡 𝓡.env in
    proved 𝓛 f.ended stayed c 𝓜 𝓡 (Goes-spent_ref 𝓛 1 (0 ∷ []) tt (plain (λ _. H)), tt)
    f.Key.name code.function (code.unfolded 𝓤 𝓛.H 𝓜 𝓡 wired)
    (λ κs. (mut_vals, tt)) (λ κs. (mut_Tells (named 0) κs.0 H, tt)) (λ κs qs bounds a n are.
    let κ = κs.0 in let q = qs.0 in let b = a.0.ref_ptr.0 in let o = a.0.ref_ptr.1 in let γ = a.0.ghost_name in
    let h = a.0.now in let vs = mut_vals a.0 in
    let z : W.Ghost = ((κs, qs, bounds, a, (vs, tt)), tt) in
    let Lent : RattleType = MutRef (named 0) κ D in let O : RattleType = opt.the_row Lent in
    let w = word h.at h.is_open in let at_good = ((rawptr_Lawful 𝓛).typed h.at _ refl).0 in
    let Cell : List Val → Item 𝓤 = λ us. ‵ (cell_at full_share H.mir us b o) in
    qed 𝓛 (((‵ (flft κ q) ⊛ ‵ ftrue) ⊛ ‵ ((MutRef (named 0) κ H).own_val a.0 vs) ⊛ ‵ ftrue) ∷ ‵ ftrue ∷ []) ∵
    split ! $ split ! $ move ! (2 ∷ []) $ split ! $ keep ! (0 ∷ 2 ∷ []) $
    enter ! _ _ _ _ _ $ alloc_all ! (λ l. pass_all ! refl ((tt, tt), tt) $
    fsplit3 ! $ move ! (1 ∷ 2 ∷ 3 ∷ []) $ opens ! tt H b o
    (λ us. move ! (1 ∷ []) $ peeks ! H (Is H) (shows 𝓛 H) h us (λ is.
    rewrite ! 0 (λ (ws : List Val). ‵ (H.own_val h ws)) (handle_Tells h us is) refl $ rewrite ! 1 Cell
    (handle_Tells h us is) refl $ fsplit ! $ drop ! $
    -- [what is held; the handle's cell; the open borrow, in three entries]
    sets ! (of_opd ! (load ! (through ! refl (fld ! refl (stop !))) (look_in ! 1 (sub ! 1 refl (whole !))))) refl
    (tt, tt) $
    sets ! (un ! (get ! refl) tt) refl (tt, tt) $
    first ! $ branches ! (get ! refl)
    (λ is_shut. held_cases line.the_row ! h.is_open h.at h.line (λ e none.
    sets ! (agg ! (and_then ! (lit ! tt) (no_more !))) refl (tt, (record { fits = lit< tt }, tt)) $
    nothing ! $ rewrite ! 0 (λ (x : Option LineModel). ‵ (owned line.the_row false h.at x))
    (sym none) refl $ rewrite ! 0
    (λ (y : Bool). ‵ (owned line.the_row y h.at h.line)) (sym e) refl $ handle_in ! h $
    move ! (1 ∷ []) $ closes ! tt H h (w ∷ []) b o $
    returns_within ! (W.post z) refl (look_at ! 0 refl) $ free_all ! refl $ keep ! (0 ∷ 2 ∷ []) $
    -- [the observation of the borrow; the token]
    use1 𝓛 (‵ (fres γ (H.coded.code h))) (𝓛.names.obs-res γ (H.coded.code h)) $
    fpack ! Such (λ s. follows_by LineHandle LineModel H.coded.code D.coded.code γ maybe.none s.0.0 s.0.1)
    ((with_line h, h), (λ _. refl), none) $
    use0 𝓛 (raw (fact 𝓤 (h.line ≡ None))) (fact_i 𝓤 (h.line ≡ None) (emp 𝓤) none) $ move ! (1 ∷ 0 ∷ []) $ join ! $
    use0 𝓛 (‵ (O.own_val option.None (live 0 vnil ∷ []))) (none_of 𝓛 Lent) $ nothing ! $ nothing ! $ fjoin ! $ move !
    (3 ∷ []) $ nothing ! $ move ! (1 ∷ 0 ∷ []) $ join ! $
    by ! (leaves 𝓛 f.ended stayed c z (live 0 vnil) option.None (tt, tt) (tt, tt)))
    (λ d is_open _. absurd (subst (λ (y : Bool). T (not y)) is_open is_shut)))
    (λ not_shut. skips ! $ exec ! 𝓣.C 𝓣.Λ (env code.Mir.locals l) code.Mir.t-4
    (at_ret (env code.Mir.locals l) (W.post z)) $
    held_cases line.the_row ! h.is_open h.at h.line (λ e _. absurd (subst (λ (y : Bool). T (not (not y))) e not_shut))
    (λ d is_open is_some.
    in_a_block ! h.at (λ p. box_owns (ghosts.dealloc_token heap) D p d)
    (fst∗ 𝓤 (never 𝓤) (sem 𝓛 (ghosts.dealloc_token heap (bare (layout D)) null_ptr))) (λ b' o' at_b.
    let v : Val = vptr b' o' in let out : Val = live 1 (vcons v vnil) in
    rewrite ! 1 (λ (p : Ptr). ‵ (cell_at full_share H.mir (word p h.is_open ∷ []) b o)) at_b refl $ fsplit ! $
    -- [the line; the right to free its block; the handle's cell; the open borrow, in three entries]
    sets ! (of_opd ! (load ! (through ! refl (fld ! refl (stop !))) (look_in ! 2 (sub ! 0 refl (whole !))))) refl
    (tt, tt) $
    sets ! (of_opd ! (get ! refl)) refl (tt, tt) $
    first ! $ blocks ! $ sets_last ! (addr ! (through ! refl (stop !))) refl (tt, tt) $
    exec ! 𝓣.C 𝓣.Λ (env code.Mir.locals l) code.Mir.t-7 (at_ret (env code.Mir.locals l) (W.post z)) $
    sets ! (of_opd ! (get ! refl)) refl (tt, tt) $
    sets ! (agg ! (and_then ! (lit ! tt) (and_then ! (get ! refl) (no_more !)))) refl
    (tt, (record { fits = lit< tt }, (tt, tt))) $
    move ! (1 ∷ 2 ∷ []) $ fjoin ! $ move ! (2 ∷ 3 ∷ 4 ∷ 1 ∷ 0 ∷ []) $ group ! 5 $
    use1 𝓛 (later
    (some (λ (γ' : GName). ‵ (Lent.own_val (record { ref_ptr = (b', o'); ghost_name = γ'; now = d }) (v ∷ [])) ⊛ ‵
    (flft κ q) ⊛ ‵ (follows H D γ γ' (with_line h)))))
    (lends_Part 𝓛 H D (with_line h) (named 0) κ q b o b' o' γ (sem 𝓛 (Rest h b o b' o'))
    (back 𝓛 h b o b' o' at_b is_open) (H.coded.code h) (H.coded.code h) d) $ await ! tt $ pick ! (λ γ'.
    let r : MutBor LineModel = record { ref_ptr = (b', o'); ghost_name = γ'; now = d } in
    split3 ! $ use1 𝓛 (‵ (O.own_val (option.Some r) (out ∷ []))) (Some-of 𝓛 Lent r v) $
    returns ! (look_at ! 0 refl) $ free_all ! refl $ keep ! (2 ∷ 0 ∷ 1 ∷ []) $
    fpack ! Such (λ s. follows_by LineHandle LineModel H.coded.code D.coded.code γ (maybe.some γ') s.0.0 s.0.1)
    ((with_line h, shut), (λ _. refl), refl) $
    use0 𝓛 (raw (fact 𝓤 (h.line ≡ Some d))) (fact_i 𝓤 (h.line ≡ Some d) (emp 𝓤) is_some) $ move !
    (1 ∷ 0 ∷ []) $ join ! $
    nothing ! $ nothing ! $ fjoin ! $ move ! (3 ∷ 0 ∷ 2 ∷ 1 ∷ []) $ nothing ! $ move ! (1 ∷ 0 ∷ []) $ join ! $
    by ! (leaves 𝓛 f.ended stayed c z out (option.Some r) (tt, tt) (tt, tt))))))))))
