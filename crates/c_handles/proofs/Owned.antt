-- The machine value of a handle, and the two cases of its ownership. Assumes `Logic`.
use Rattle.c_handles.proofs.Steps.{◌≡◌, Bool, true, false, List, ◌∷◌, refl, lit<, Ura, T, Val, vbool, vstruct, vcons, vnil, has_ty, WT, never_e, ftrue, given, learn, Logic, Item, Goal, Seq, ‵, ◌$◌, drop, use1, RattleType, layout, block_ptr, null_ptr, Ptr, ptr_val}
use Rattle.std.specs.Prelude.{Option, None, Some}
use Rattle.std.specs.Box.Ownership.{box_owns}
use Rattle.std.specs.contracts.impls.GlobalAllocator.TheImpl.{ghosts}
use Rattle.c_handles.specs.inside.Owned.{heap, owned}
use Rattle.c_handles.specs.contracts.board_handle.BoardHandle as board

-- the machine value of a handle: all have the same fields
abbrev pub word : Ptr → Bool → Val
word at is_open = vstruct (vcons (ptr_val at) (vcons (vbool is_open) vnil))

abbrev pub Good : Ptr → Bool → Type 0
Good at is_open = T (has_ty (layout board.the_row) (word at is_open)) × WT (word at is_open)

pub word_good : (at : Ptr) (is_open : Bool) → Good at is_open
word_good (block_ptr b o) is_open = (tt, (tt, (tt, tt)))
word_good null_ptr is_open = (tt, (record { fits = lit< tt }, (tt, tt)))

module _ {M : Type 1} {𝓤 : Ura M} {𝓛 : Logic 𝓤} {K : Type 0} {Γ : List (Item 𝓤)} {G : Goal 𝓤 𝓛.H} (R : RattleType) where
  -- an open handle owns a value, and a closed one owns none
  pub held_cases : K → (is_open : Bool) (at : Ptr) (x : Option R.Denot)
      → (is_open ≡ false → x ≡ None → Seq K 𝓛 Γ G)
      → ((d : R.Denot) → is_open ≡ true → x ≡ Some d → Seq K 𝓛 (‵ (box_owns (ghosts.dealloc_token heap) R at d) ∷ Γ) G)
      → Seq K 𝓛 (‵ (owned R is_open at x) ∷ Γ) G
  held_cases t true at (Some d) none found = found d refl refl
  held_cases t false at None none found = drop t $ none refl refl
  held_cases t true at None none found = use1 𝓛 (given ⊥ (‵ ftrue)) (never_e 𝓤 _) $ learn t (λ wrong. absurd wrong)
  held_cases t false at (Some d) none found = use1 𝓛 (given ⊥ (‵ ftrue)) (never_e 𝓤 _) $ learn t (λ wrong. absurd wrong)
