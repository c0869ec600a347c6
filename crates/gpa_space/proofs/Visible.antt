-- Where overlays are mapped after a register write, and which of them is visible.
use Rattle.std.proofs.Common.{◌≡◌, ◌≢◌, ℕ, ◌/◌, ◌<◌, ◌≤◌, true, false, ◌==◌, List, length, get_or, set, replicate, position, bit_and, Option, None, Some, ◌⊎◌, inl, inr, ⊎_elim, refl, sym, ap, ◌∙◌, subst, arith}
use Rattle.std.specs.List.{position_or_len}
use Rattle.std.specs.Int.{bit_at}
use Rattle.std.proofs.lemmas.Bool.{cases_lt, cases_eq}
use Rattle.std.proofs.lemmas.Bool.Decides.{nat_tests}
use Rattle.std.proofs.lemmas.List.{get_or-set_same, get_or-set_other, get_or-replicate, get_or_past, length-replicate}
use Rattle.std.proofs.lemmas.List.Sums.{position_or_len_is}
use Rattle.std.proofs.lemmas.Nat.Bits.{bit_at-zero}
use Rattle.gpa_space.specs.Space.{is_mapped_at}
use Rattle.gpa_space.specs.inside.OverlaysAt.{own_word, has_word, AreOverlaysAt, IsLowest, Marks}

-- no overlay is mapped at a page
pub none-visible : (registers : List ℕ) (page : ℕ)
    → ((k : ℕ) → k < length registers → is_mapped_at page (get_or registers k 0) ≡ false)
    → None ≡ position (is_mapped_at page) registers
none-visible registers page none =
    let first : position_or_len (is_mapped_at page) registers ≡ length registers =
    position_or_len_is (is_mapped_at page) registers (length registers) 0 (omega arith) none
    (λ lt. absurd (omega arith)) in
    grind (arith, nat_tests)

-- an overlay that is mapped somewhere has a register
within : (registers : List ℕ) (page k : ℕ) → is_mapped_at page (get_or registers k 0) ≡ true → k < length registers
within registers page k is_mapped = ⊎_elim (λ lt. lt)
    (λ beyond. let none = ap (is_mapped_at page) (get_or_past registers k 0 beyond) in
    let no : true ≡ false = sym is_mapped ∙ none in absurd (cc)) (cases_lt k (length registers))

-- an overlay is mapped at a page, and none before it
pub first-visible : (registers : List ℕ) (page k : ℕ) → is_mapped_at page (get_or registers k 0) ≡ true
    → ((i : ℕ) → i < k → is_mapped_at page (get_or registers i 0) ≡ false) →
    Some k ≡ position (is_mapped_at page) registers
first-visible registers page k here none =
    let inside = within registers page k here in
    let first : position_or_len (is_mapped_at page) registers ≡ k =
    position_or_len_is (is_mapped_at page) registers k 0 (omega arith) none (λ _. here) in
    grind (arith, nat_tests)

-- the overlay with the lowest bit set is visible, and none if no bit is set
pub lowest-visible : (registers words : List ℕ) (page : ℕ) (first : Option ℕ)
    → AreOverlaysAt own_word 16 registers words → page < length words → length registers ≤ 16 →
    IsLowest (get_or words page 0) first → first ≡ position (is_mapped_at page) registers
lowest-visible registers words page None are inside bound none =
    none-visible registers page (λ k below. sym (are page k inside (omega arith)) ∙ ap (λ b. b == 1) (none k))
lowest-visible registers words page (Some k) are inside bound low =
    first-visible registers page k (sym (are page k inside low.0) ∙ ap (λ b. b == 1) low.1)
    (λ i below. sym (are page i inside (omega (arith, low.0))) ∙ ap (λ b. b == 1) (low.2 i below))

module _ (word_of : ℕ → ℕ) where
  -- an overlay is mapped only at the page that its register names
  elsewhere : (at register : ℕ) → at ≢ word_of (register / 4096) → has_word word_of at register ≡ false
  elsewhere at register other = grind (arith, nat_tests)

  there : (at register : ℕ) → at ≡ word_of (register / 4096) → has_word word_of at register ≡ (bit_and register 1 == 1)
  there at register same = grind (arith, nat_tests)

  -- the overlay left the page that its register named, and is mapped at the one that it names now
  pub keeps : (bits : ℕ) (xs words once twice : List ℕ) (o y : ℕ) → o < length xs → AreOverlaysAt word_of bits xs words
      → Marks bits words once (word_of (get_or xs o 0 / 4096)) o false
      → Marks bits once twice (word_of (y / 4096)) o (bit_and y 1 == 1)
      → AreOverlaysAt word_of bits (set xs o y) twice
  keeps bits xs words once twice o y lt are leaves comes at i inside low = ⊎_elim own other (cases_eq i o)
    where
      before : at < length words
      before = omega (arith, leaves.many, comes.many)

      other : i ≢ o → (bit_at (get_or twice at 0) i == 1) ≡ has_word word_of at (get_or (set xs o y) i 0)
      other apart =
          ap (λ b. b == 1) (comes.others at i low (inr apart) ∙ leaves.others at i low (inr apart))
          ∙ are at i before low
          ∙ ap (has_word word_of at) (sym (get_or-set_other xs o i y 0 apart))

      own : i ≡ o → (bit_at (get_or twice at 0) i == 1) ≡ has_word word_of at (get_or (set xs o y) i 0)
      own same =
          ap (λ k. bit_at (get_or twice at 0) k == 1) same ∙ reached (cases_eq at (word_of (y / 4096)))
          ∙ ap (has_word word_of at) (sym (ap (λ k. get_or (set xs o y) k 0) same ∙ get_or-set_same xs o y 0 lt))
        where
          small : o < bits
          small = subst (λ k. k < bits) same low

          gone : (at ≡ word_of (get_or xs o 0 / 4096)) ⊎ (at ≢ word_of (get_or xs o 0 / 4096))
              → (bit_at (get_or once at 0) o == 1) ≡ false
          gone (inl here) =
              ap (λ p. bit_at (get_or once p 0) o == 1) here ∙ leaves.here (subst (λ p. p < length words) here before)
          gone (inr away) =
              ap (λ b. b == 1) (leaves.others at o small (inl away)) ∙ are at o before small
              ∙ elsewhere at (get_or xs o 0) away

          reached : (at ≡ word_of (y / 4096)) ⊎ (at ≢ word_of (y / 4096))
              → (bit_at (get_or twice at 0) o == 1) ≡ has_word word_of at y
          reached (inl here) =
              ap (λ p. bit_at (get_or twice p 0) o == 1) here
              ∙ comes.here (subst (λ p. p < length once) here (omega (arith, before, leaves.many)))
              ∙ sym (there at y here)
          reached (inr away) =
              ap (λ b. b == 1) (comes.others at o small (inl away))
              ∙ gone (cases_eq at (word_of (get_or xs o 0 / 4096))) ∙ sym (elsewhere at y away)

-- no overlay is mapped anywhere at first
zeros : (n i : ℕ) → get_or {A = ℕ} (replicate n 0) i 0 ≡ 0
zeros n i = ⊎_elim (λ lt. get_or-replicate n i 0 0 lt)
    (λ beyond. get_or_past (replicate n 0) i 0 (omega (arith, length-replicate {A = ℕ} n 0, beyond))) (cases_lt i n)

pub opens : (word_of : ℕ → ℕ) (bits m n : ℕ) → AreOverlaysAt word_of bits (replicate m 0) (replicate n 0)
opens word_of bits m n at i inside low = rw (zeros n at, zeros m i, bit_at-zero i) refl
