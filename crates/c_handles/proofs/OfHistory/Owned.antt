-- Moving what a handle of a history owns to the context and back. Assumes `Logic`.
use Rattle.c_handles.proofs.Steps.{List, [], ◌∷◌, refl, Ura, Val, vbool, Logic, Item, Goal, Step, step, ‵, ◌$◌, drop, fsplit, fjoin, fpack, feq_i, bool, Valss, Is, RawPtr, ptr_val, nothing, within, shape}
use denote.Laws.{Tells}
use Rattle.c_handles.specs.inside.Owned.{owned}
use Rattle.c_handles.specs.declared.history_handle.HistoryHandle.{HistoryHandle}
use Rattle.c_handles.specs.contracts.history_handle.HistoryHandle as handle
use Rattle.c_handles.proofs.history_handle.HistoryHandle.TheLaws.{lowers}
use Rattle.c_handles.proofs.Owned.{word}
use Rattle.c_handles.specs.contracts.history.History as history

pub handle_Tells : Tells handle.the_row (Is handle.the_row) (λ h. word h.at h.is_open ∷ [])
handle_Tells h vs is = lowers.val_is h vs is

module _ {M : Type 1} {𝓤 : Ura M} {𝓛 : Logic 𝓤} {K : Type 0} {Γ : List (Item 𝓤)} {G : Goal 𝓤 𝓛.H} where
  pub handle_in : K → (h : HistoryHandle)
      → Step K 𝓛 (‵ (handle.the_row.own_val h (word h.at h.is_open ∷ [])) ∷ Γ) G
      (‵ (owned history.the_row h.is_open h.at h.history) ∷ Γ) G
  handle_in t h = step (λ s. let v : Val = word h.at h.is_open in
      nothing t $ feq_i t (List Val) (vbool h.is_open ∷ []) (vbool h.is_open ∷ []) refl $ fjoin t $ feq_i t (List Val)
      (ptr_val h.at ∷ []) (ptr_val h.at ∷ []) refl $ fjoin t $
      feq_i t (List Val) (v ∷ []) (v ∷ []) refl $ fjoin t $
      fpack t (Valss (RawPtr ∷ bool ∷ [])) (within (shape handle.the_type) (h.at, (h.is_open, tt)) (v ∷ []))
      (ptr_val h.at ∷ [], (vbool h.is_open ∷ [], tt)) $ fjoin t $ s)

  pub handle_out : K → (h : HistoryHandle)
      → Step K 𝓛 (‵ (owned history.the_row h.is_open h.at h.history) ∷ Γ) G
      (‵ (handle.the_row.own_val h (word h.at h.is_open ∷ [])) ∷ Γ) G
  handle_out t h = step (λ s. fsplit t $ drop t $ s)
