-- The words that a delivery attempt changes.
use Rattle.std.proofs.Common.{◌≡◌, ◌≢◌, ◌⊎◌, inl, inr, ℕ, ◌+◌, ◌*◌, ◌/◌, ◌%◌, ◌^◌, ◌<◌, Bool, true, false, List, [], ◌∷◌, length, get_or, set, None, Some, refl, sym, ap, ◌∙◌, subst, arith, nat_lt, All, length-set}
use Rattle.std.specs.Prelude.{◌==◌, bit_or, if◌then◌else◌}
use Rattle.std.specs.Option.{option_map_or}
use Rattle.std.proofs.lemmas.Bool.{cases_eq, and_parts}
use Rattle.std.proofs.lemmas.Bool.Decides.{nat_tests}
use Rattle.std.proofs.lemmas.List.{get_or-set_same, get_or-set_other}
use Rattle.board_terms.specs.declared.messages.Message.{Message}
use Rattle.synic_regs.specs.Regs.{raised_by}
use Rattle.message_queues.specs.Queues.{queue_of}
use Rattle.message_queues.specs.Image.{slot_type}
use Rattle.message_queues.proofs.WrittenSlots.{length-image, slot_type-written}
use Rattle.gpa_space.specs.Page.{with_slot, with_bit, pending_place}
use Rattle.synic_board.specs.State.{State, regs_of}
use Rattle.synic_board.specs.Effects.{Effect, nothing, after}
use Rattle.synic_board.specs.Interrupts.{requested, raised}
use Rattle.synic_board.specs.Delivery.{delivers, is_slot_empty, placed_head, tried}
use Rattle.synic_board.specs.Sound.{IsWhole, IsMessage}
use Rattle.synic_board.proofs.keeping.Requests.{either}
use Rattle.synic_board.proofs.keeping.Placements.{page_of, image_of, page-long, queue-good, tail-good}
use Rattle.live_board.specs.Live.{is_waiting}
use Rattle.live_board.specs.Words.{word_at, word_of}
use Rattle.live_board.specs.inside.Parts.{Attempts}
use Rattle.live_board.proofs.Bytes.{bit-here, bit-elsewhere, slot-elsewhere}

not-empty : (x : ℕ) → x ≢ 0 → (x == 0) ≡ false
not-empty x ne = grind (arith, nat_tests)

-- raising a vector changes no page
pub own-requested : (s : State) (p v : ℕ) → (requested s p v).0.own ≡ s.own
own-requested s p v = either (λ (e : Effect). e.0.own ≡ s.own) _ _ _ (λ _. refl) (λ _. refl)

pub own-raised : (s : State) (p i : ℕ) → (raised s p i).0.own ≡ s.own
own-raised s p i =
    elim (raised_by (regs_of s p) i) as
    (λ o. (option_map_or (requested s p) o (nothing s)).0.own ≡ s.own) [ None ↦ refl | Some v ↦ own-requested s p v ]

-- the own pages after an attempt
abbrev pub Pages : State → ℕ → ℕ → List (List ℕ) → Type 0
Pages s p i own =
    (is_waiting s p i ≡ false × own ≡ s.own)
    ⊎ ((is_waiting s p i ≡ true)
    × ((is_slot_empty s p i ≡ false × own ≡ set s.own (2 * p) (with_bit (page_of s p) (pending_place i) 0))
    ⊎ (is_slot_empty s p i ≡ true
    × ((bytes : List ℕ) × (length bytes ≡ 256) × (slot_type (with_slot (page_of s p) i bytes) i ≢ 0)
    × (own ≡ set s.own (2 * p) (with_slot (page_of s p) i bytes))))))

pub pages-tried : (n : ℕ) (s : State) (p i : ℕ) → IsWhole n s → p < n → i < 16 → Pages s p i (tried s p i).0.own
unfolding tried
pages-tried n s p i h on under =
    either (λ (e : Effect). Pages s p i e.0.own) (is_waiting s p i) _ _
    (λ tries. either (λ (e : Effect). Pages s p i e.0.own) (is_slot_empty s p i) _ _
    (λ empty. inr (tries, inr (empty, head (queue_of s.queues p i) refl (some tries))))
    (λ full. inr (tries, inl (full, refl))))
    (λ none. inl (none, refl))
  where
    some : is_waiting s p i ≡ true → nat_lt 0 (length (queue_of s.queues p i)) ≡ true
    some tries = (and_parts (delivers s p) _ tries).1

    head : (q : List Message) → queue_of s.queues p i ≡ q → nat_lt 0 (length q) ≡ true
        → (bytes : List ℕ) × (length bytes ≡ 256) × (slot_type (with_slot (page_of s p) i bytes) i ≢ 0)
        × ((after (placed_head s p i q) (raised (placed_head s p i q).0 p i)).0.own
        ≡ set s.own (2 * p) (with_slot (page_of s p) i bytes))
    head [] is none = absurd (cc)
    head (m ∷ rest) is more =
        let good = (tail-good m rest (subst (λ q. All IsMessage q) is (queue-good n s p i h on under))).0 in (
          image_of s m rest,
          length-image m (nat_lt 0 (length rest)) s.moment good.2,
          (λ z. good.0
              (sym (slot_type-written (page_of s p) i m (nat_lt 0 (length rest)) s.moment
              (page-long n s p h on) under good.2 good.1) ∙ z)),
          own-raised (placed_head s p i (m ∷ rest)).0 p i,
        )

-- the words of a list of pages
words : List (List ℕ) → ℕ → ℕ → ℕ
words own j x = word_at (get_or own j []) (8 * x)

no-both : {b : Bool} → b ≡ true → b ≡ false → ⊥
no-both {b} t f = let e : true ≡ false = sym t ∙ f in cc

pub tries-is : (s now : State) (p i : ℕ) → 2 * p < length s.own → length (page_of s p) ≡ 4096 → i < 16
    → ((b : ℕ) → b < 8 → get_or (page_of s p) (8 * (32 * i) + b) 0 < 256) → Pages s p i now.own
    → Attempts s p i (is_waiting s p i) now
unfolding words
tries-is s now p i inside long under bytes (inl (none, own)) = record {
  count = ap length own;
  others = λ j x _ _. ap (λ l. words l j x) own;
  idle = λ _ j x. ap (λ l. words l j x) own;
  marks = λ made _ x _. absurd (no-both made none);
  fills = λ made _. absurd (no-both made none);
}
tries-is s now p i inside long under bytes (inr (made, inl (full, own))) = record {
  count = ap length own ∙ length-set s.own (2 * p) page;
  others = λ j x low ne. ap (λ l. words l j x) own ∙ elsewhere j x (cases_eq j (2 * p)) ne;
  idle = λ none j x. absurd (no-both made none);
  marks = λ _ _ x low. ap (λ l. words l (2 * p) x) own
      ∙ ap (λ l. word_at l (8 * x)) (get_or-set_same s.own (2 * p) page [] inside) ∙ here x low (cases_eq x (32 * i));
  fills = λ _ free. absurd (no-both free full);
}
  where
    page : List ℕ
    page = with_bit (page_of s p) (pending_place i) 0

    elsewhere : (j x : ℕ) → (j ≡ 2 * p) ⊎ (j ≢ 2 * p) → (j ≢ 2 * p) ⊎ (x / 32 ≢ i)
        → words (set s.own (2 * p) page) j x ≡ words s.own j x
    elsewhere j x (inr ne) apart = ap (λ l. word_at l (8 * x)) (get_or-set_other s.own (2 * p) j page [] ne)
    elsewhere j x (inl is) (inl ne) = absurd (ne is)
    elsewhere j x (inl is) (inr ne) =
        ap (λ n. words (set s.own (2 * p) page) n x) is
        ∙ ap (λ l. word_at l (8 * x)) (get_or-set_same s.own (2 * p) page [] inside)
        ∙ bit-elsewhere (page_of s p) (pending_place i) 0 x (λ e. ne (omega (arith, e)))
        ∙ ap (λ n. words s.own n x) (sym is)

    here : (x : ℕ) → x < 512 → (x ≡ 32 * i) ⊎ (x ≢ 32 * i)
        → word_at page (8 * x) ≡ (if x == 32 * i then bit_or (word_of s (2 * p) x) (2 ^ 40) else word_of s (2 * p) x)
    here x low (inl is) =
        let e : (x == 32 * i) ≡ true = grind (arith, nat_tests) in
        let place : pending_place i ≡ 8 * (32 * i) + 5 = omega arith in
        rw e (rw is (ap (λ at. word_at (with_bit (page_of s p) at 0) (8 * (32 * i))) place
        ∙ bit-here (page_of s p) (32 * i) 5 0 (omega arith) (omega arith) (omega (arith, long)) bytes))
    here x low (inr ne) =
        let e : (x == 32 * i) ≡ false = grind (arith, nat_tests) in
        rw e (bit-elsewhere (page_of s p) (pending_place i) 0 x (λ z. ne (omega (arith, z))))
tries-is s now p i inside long under bytes (inr (made, inr (empty, (image, size, some, own)))) = record {
  count = ap length own ∙ length-set s.own (2 * p) page;
  others = λ j x low ne. ap (λ l. words l j x) own ∙ elsewhere j x low (cases_eq j (2 * p)) ne;
  idle = λ none j x. absurd (no-both made none);
  marks = λ _ full x _. absurd (no-both empty full);
  fills = λ _ _. not-empty (slot_type (page_of now p) i) (λ z.
      some (ap (λ l. slot_type l i) (sym (get_or-set_same s.own (2 * p) page [] inside))
      ∙ ap (λ l. slot_type (get_or l (2 * p) []) i) (sym own) ∙ z));
}
  where
    page : List ℕ
    page = with_slot (page_of s p) i image

    elsewhere : (j x : ℕ) → x < 512 → (j ≡ 2 * p) ⊎ (j ≢ 2 * p) → (j ≢ 2 * p) ⊎ (x / 32 ≢ i)
        → words (set s.own (2 * p) page) j x ≡ words s.own j x
    elsewhere j x low (inr ne) apart = ap (λ l. word_at l (8 * x)) (get_or-set_other s.own (2 * p) j page [] ne)
    elsewhere j x low (inl is) (inl ne) = absurd (ne is)
    elsewhere j x low (inl is) (inr ne) =
        let place : 32 * (x / 32) + x % 32 ≡ x = omega arith in
        ap (λ n. words (set s.own (2 * p) page) n x) is
        ∙ ap (λ l. word_at l (8 * x)) (get_or-set_same s.own (2 * p) page [] inside)
        ∙ sym (ap (λ n. word_at page (8 * n)) place)
        ∙ slot-elsewhere (page_of s p) image i (x / 32) (x % 32) long size under (omega (arith, low)) ne (omega arith)
        ∙ ap (λ n. word_at (page_of s p) (8 * n)) place
        ∙ ap (λ n. words s.own n x) (sym is)
