-- A store consumes at most the message of the slot whose type it writes.
use Rattle.std.proofs.Common.{◌≡◌, ◌≢◌, ◌⊎◌, inl, inr, ⊎_elim, ℕ, suc, ◌+◌, ◌-◌, ◌*◌, ◌/◌, ◌%◌, ◌<◌, ◌≤◌, Bool, true, false, List, [], length, get_or, set, refl, ap, sym, subst, ◌∙◌, arith, nat_lt, zero-add}
use Rattle.std.specs.Prelude.{Option, None, Some, Ok, ◌==◌}
use Rattle.std.specs.Option.{option_map_or}
use Rattle.std.proofs.lemmas.Bool.{cases_lt, cases_eq}
use Rattle.std.proofs.lemmas.Bool.Decides.{nat_tests}
use Rattle.std.proofs.lemmas.List.{get_or-set_same, get_or-set_other}
use Rattle.std.proofs.lemmas.List.Quantifiers.{position-Some}
use Rattle.board_terms.specs.declared.refusal.Refusal.{Refusal}
use Rattle.board_terms.specs.declared.pages.Owner.{Owner}
use Rattle.board_terms.specs.Sources.{source_number}
use Rattle.message_queues.specs.Image.{slot_type}
use Rattle.gpa_space.specs.Page.{overwritten}
use Rattle.gpa_space.specs.Space.{Space, page_count, refusal_of, owner_of, visible, is_mapped_at, overlay_owner, visible_page, with_visible_page, store_answer, after_store}
use Rattle.synic_board.specs.State.{State, processors, overlay_registers, space_of, slot_of, with_space}
use Rattle.synic_board.specs.Effects.{Effect, nothing, after}
use Rattle.synic_board.specs.Delivery.{is_slot_empty}
use Rattle.synic_board.specs.Stores.{consumed_ticket, consumed, consumed_below}
use Rattle.synic_board.specs.Sound.{IsFree, IsSound}
use Rattle.synic_board.specs.inside.Touches.{touched, OthersFree}
use Rattle.synic_board.proofs.Folds.{fold_skip, consumes}
use Rattle.synic_board.proofs.Storing.{store_is_good}
use Rattle.synic_board.proofs.Overlays.{length-overlays}
use Rattle.synic_board.proofs.keeping.Requests.{either}
use Rattle.synic_board.proofs.keeping.Slots.{overwritten-other}

-- a slot other than the written one is another source's, or its type is before the written bytes
apart : (at count i : ℕ) → touched at count ≢ Some i → (i ≢ (at + count - 1) / 256)
    ⊎ (256 * ((at + count - 1) / 256) + 4 ≤ at)
apart at count i other = by-type (nat_lt at (256 * ((at + count - 1) / 256) + 4)) refl
  where
    by-type : (b : Bool) → nat_lt at (256 * ((at + count - 1) / 256) + 4) ≡ b → (i ≢ (at + count - 1) / 256)
        ⊎ (256 * ((at + count - 1) / 256) + 4 ≤ at)
    by-type true e = inl (λ same. other (rw e (ap Some (sym same))))
    by-type false e = inr (grind (arith, nat_tests))

type-untouched : (page bytes : List ℕ) (at i : ℕ) → length page ≡ 4096 → at + length bytes ≤ 4096 → 0 < length bytes
    → length bytes ≤ 8 → i < 16 →
    touched at (length bytes) ≢ Some i → slot_type (overwritten page at bytes) i ≡ slot_type page i
type-untouched page bytes at i l fits some bound low other =
    let byte = λ (k : ℕ) (h : k < 4). overwritten-other page bytes at (256 * i + k) (omega arith)
    (place k h (apart at (length bytes) i other)) in
    rw (byte 0 (omega arith), byte 1 (omega arith), byte 2 (omega arith), byte 3 (omega arith)) refl
  where
    place : (k : ℕ) → k < 4 → (i ≢ (at + length bytes - 1) / 256) ⊎ (256 * ((at + length bytes - 1) / 256) + 4 ≤ at)
        → (256 * i + k < at) ⊎ (at + length bytes ≤ 256 * i + k)
    place k h (inl ne) =
        ⊎_elim (λ below. inl (omega arith)) (λ above. inr (omega arith)) (cases_lt i ((at + length bytes - 1) / 256))
    place k h (inr behind) = ⊎_elim (λ below. inl (omega arith))
        (λ above. ⊎_elim (λ same. inl (omega arith)) (λ ne. inr (omega arith))
        (cases_eq i ((at + length bytes - 1) / 256))) (cases_lt i ((at + length bytes - 1) / 256))

-- a slot that is empty only if it holds no ticket consumes nothing
free-consumes : (t : State) (p i : ℕ) → IsFree t p i → consumed t p i ≡ nothing t
unfolding consumed
free-consumes t p i free =
    either (λ e. e ≡ nothing t) (is_slot_empty t p i) _ _
    (λ e. let none = free (grind (arith, nat_tests)) in ap (consumed_ticket t p i) none) (λ _. refl)

-- the slots of the other sources stay so
free-behind : (t : State) (p k i : ℕ) → i < 16 → k < 16 → i ≢ k → IsFree t p i → IsFree (consumed t p k).0 p i
unfolding consumed
free-behind t p k i low under ne free =
    either (λ (e : Effect). IsFree e.0 p i) (is_slot_empty t p k) _ _ (λ _. held (slot_of t p k)) (λ _. free)
  where
    held : (o : Option ℕ) → IsFree (consumed_ticket t p k o).0 p i
    held None = free
    held (Some x) =
        λ z. get_or-set_other t.slots (source_number p k) (source_number p i) None None (λ e. ne (omega (arith, e)))
        ∙ free z

none-below : (t : State) (p k : ℕ) → ((i : ℕ) → i < k → IsFree t p i) → consumed_below t p k ≡ nothing t
none-below t p k free =
    let start : consumed_below t p 0 ≡ nothing t = (consumes p).none t in
    let now : t ≡ (consumed_below t p 0).0 = ap (λ (e : Effect). e.0) (sym start) in
    ap (consumed_below t p) (sym (zero-add k))
    ∙ fold_skip (consumes p) t 0 k
    (λ j h. subst (λ u. consumed u p (0 + j) ≡ nothing u) now
    (free-consumes t p (0 + j) (free (0 + j) (omega arith)))) ∙ start

pub none-consumed : (t : State) (p : ℕ) → ((i : ℕ) → i < 16 → IsFree t p i) → consumed_below t p 16 ≡ nothing t
none-consumed t p free = none-below t p 16 free

pub one-consumed : (t : State) (p k : ℕ) → k < 16 → ((i : ℕ) → i < 16 → i ≢ k → IsFree t p i)
    → consumed_below t p 16 ≡ consumed t p k
one-consumed t p k low free =
    let before = none-below t p k (λ i h. free i (omega arith) (omega arith)) in
    let e : Effect = consumed t p k in
    let here : consumed_below t p (suc k) ≡ e =
    (consumes p).more t k ∙ ap (λ (x : Effect). after x (consumed x.0 p k)) before in
    let now : e.0 ≡ (consumed_below t p (suc k)).0 = ap (λ (x : Effect). x.0) (sym here) in
    let all : suc k + (15 - k) ≡ 16 = omega arith in
    ap (consumed_below t p) (sym all)
    ∙ fold_skip (consumes p) t (suc k) (15 - k) (λ j h. subst (λ u. consumed u p (suc k + j) ≡ nothing u) now
    (free-consumes e.0 p (suc k + j)
    (free-behind t p k (suc k + j) (omega arith) low (omega arith) (free (suc k + j) (omega arith) (omega arith)))))
    ∙ here

-- an overlay's page was written
others-written : (s : State) (k at : ℕ) (bytes : List ℕ) → IsSound s → k < 2 * processors s → at + length bytes ≤ 4096
    → 0 < length bytes → length bytes ≤ 8 →
    OthersFree (record s { own = set s.own k (overwritten (get_or s.own k []) at bytes) }) (overlay_owner k)
    (touched at (length bytes))
others-written s k at bytes h low fits some bound =
    either (λ o. OthersFree (record s { own = set s.own k page }) o (touched at (length bytes))) (k % 2 == 0) _ _
    (λ even i under other. one i under other (grind (arith, nat_tests))) (λ _. tt)
  where
    page : List ℕ
    page = overwritten (get_or s.own k []) at bytes

    one : (i : ℕ) → i < 16 → touched at (length bytes) ≢ Some i → 2 * (k / 2) ≡ k
        → IsFree (record s { own = set s.own k page }) (k / 2) i
    one i under other same z =
        let within : k < length s.own = omega (arith, h.whole.own) in
        let there : get_or (set s.own k page) (2 * (k / 2)) [] ≡ page =
        ap (λ n. get_or (set s.own k page) n []) same ∙ get_or-set_same s.own k page [] within in
        let stays = type-untouched (get_or s.own k []) bytes at i
        (h.whole.pages k [] within) fits some bound under other in
        h.empty (k / 2) i (omega arith) under
        (ap (λ n. slot_type (get_or s.own n []) i) same ∙ sym stays ∙ ap (λ x. slot_type x i) (sym there) ∙ z)

-- after an accepted store
pub others-free : (s : State) (address : ℕ) (bytes : List ℕ) (t : Space) (owner : Owner) → IsSound s
    → Ok owner ≡ store_answer (space_of s) address bytes → t ≡ after_store (space_of s) address bytes →
    OthersFree (with_space s t) owner (touched (address % 4096) (length bytes))
others-free s address bytes t owner h answer after' =
    let good = store_is_good (space_of s) address bytes owner answer in
    let is = after'
    ∙ ap (λ o. option_map_or (λ (_ : Refusal). space_of s) o
    (with_visible_page (space_of s) page (overwritten (visible_page (space_of s) page) at bytes))) good.0 in
    subst (λ x. OthersFree (with_space s x) owner slot) (sym is) (subst
    (λ o. OthersFree (with_space s
    (with_visible_page (space_of s) page (overwritten (visible_page (space_of s) page) at bytes))) o slot)
    (sym good.1)
    (seen good.0 (visible (space_of s) page) refl))
  where
    page : ℕ
    page = address / 4096

    at : ℕ
    at = address % 4096

    slot : Option ℕ
    slot = touched at (length bytes)

    seen : refusal_of (space_of s) address (length bytes) ≡ None → (o : Option ℕ) → visible (space_of s) page ≡ o →
        OthersFree (with_space s
        (with_visible_page (space_of s) page (overwritten (visible_page (space_of s) page) at bytes)))
        (owner_of (space_of s) page) slot
    seen none None is = rw is
        (either (λ o. OthersFree
        (record s { pages = set s.pages page (overwritten (get_or s.pages page []) at bytes) }) o slot)
        (nat_lt page (page_count (space_of s))) _ _ (λ _. tt) (λ _. tt))
    seen none (Some k) is =
        let low : k < 2 * processors s =
        omega (
          arith,
          (position-Some (is_mapped_at page) (overlay_registers s.regs) k 0 is).0,
          length-overlays s.regs,
          h.whole.registers,
        ) in
        let sizes : (at + length bytes ≤ 4096) × (0 < length bytes) × (length bytes ≤ 8) =
        (grind (arith, nat_tests), grind (arith, nat_tests), grind (arith, nat_tests)) in
        rw is (either (λ o. OthersFree
        (record s { own = set s.own k (overwritten (get_or s.own k []) at bytes) }) o slot)
        (nat_lt page (page_count (space_of s))) _ _
        (λ _. others-written s k at bytes h low sizes.0 sizes.1 sizes.2) (λ _. tt))
