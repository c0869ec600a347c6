-- The search for the overlay that is visible at a page of a sparse space.
use Rattle.std.proofs.Common.{◌≡◌, ◌≢◌, ℕ, ◌%◌, ◌<◌, ◌≤◌, true, false, ◌==◌, List, length, get_or, position, None, Some, ⊎_elim, sym, ap, ◌∙◌, subst, arith}
use lib.Bits.{and_le_l}
use Rattle.std.specs.Prelude.{bit_and}
use Rattle.std.specs.Int.{bit_at}
use Rattle.std.proofs.lemmas.Bool.{cases_lt, cases_eq}
use Rattle.std.proofs.lemmas.Bool.Decides.{nat_tests}
use Rattle.std.proofs.lemmas.List.{get_or_past}
use Rattle.std.proofs.lemmas.Nat.Bits.{bit_at-zero}
use Rattle.gpa_space.specs.Space.{is_enabled, page_of, is_mapped_at}
use Rattle.gpa_space.specs.inside.OverlaysAt.{low_bits, has_word, AreOverlaysAt}
use Rattle.gpa_space.proofs.Visible.{none-visible, first-visible}

-- the overlays that are left are enabled, and those that are not are not mapped at the page
pub record IsSearched (registers : List ℕ) (page left : ℕ) : Type 0 where
  pub enabled : (i : ℕ) → i < 128 → bit_at left i ≡ 1 → is_enabled (get_or registers i 0) ≡ true
  pub passed : (i : ℕ) → i < 128 → bit_at left i ≡ 0 → is_mapped_at page (get_or registers i 0) ≡ false

-- an enabled overlay has a register
pub has-register : (registers : List ℕ) (i : ℕ) → is_enabled (get_or registers i 0) ≡ true → i < length registers
has-register registers i is = ⊎_elim (λ lt. lt)
    (λ beyond. let no : true ≡ false = sym is ∙ ap is_enabled (get_or_past registers i 0 beyond) in absurd (cc))
    (cases_lt i (length registers))

-- the overlays of the page's word are left at first
pub begins : (registers words : List ℕ) (page : ℕ) → length words ≡ 256 → AreOverlaysAt low_bits 128 registers words
    → IsSearched registers page (get_or words (page % 256) 0)
begins registers words page many are = record {
  enabled = λ i low set.
      let is : has_word low_bits (page % 256) (get_or registers i 0) ≡ true =
      sym (are (page % 256) i (omega (arith, many)) low) ∙ ap (λ b. b == 1) set in
      grind (arith, nat_tests);
  passed = λ i low clear.
      let no : has_word low_bits (page % 256) (get_or registers i 0) ≡ false =
      sym (are (page % 256) i (omega (arith, many)) low) ∙ ap (λ b. b == 1) clear in
      grind (arith, nat_tests);
}

-- the first that is left is mapped at the page
pub found : (registers : List ℕ) (page left k : ℕ) → IsSearched registers page left → k < 128 → bit_at left k ≡ 1
    → ((i : ℕ) → i < k → bit_at left i ≡ 0) →
    page_of (get_or registers k 0) ≡ page → Some k ≡ position (is_mapped_at page) registers
found registers page left k searched bound set clear here =
    let is = searched.enabled k bound set in
    first-visible registers page k (grind (arith, nat_tests))
    (λ i below. searched.passed i (omega (arith, bound, below)) (clear i below))

-- it is not, and no longer is left
pub passes : (registers : List ℕ) (page left next k : ℕ) → IsSearched registers page left
    → page_of (get_or registers k 0) ≢ page → bit_at next k ≡ 0 →
    ((i : ℕ) → i < 128 → i ≢ k → bit_at next i ≡ bit_at left i) → IsSearched registers page next
passes registers page left next k searched away clear others = record {
  enabled = λ i low set. ⊎_elim (λ same. absurd (omega (arith, set, clear, ap (bit_at next) same)))
      (λ other. searched.enabled i low (sym (others i low other) ∙ set)) (cases_eq i k);
  passed = λ i low none. ⊎_elim
      (λ same. subst (λ j. is_mapped_at page (get_or registers j 0) ≡ false) (sym same) (grind (arith, nat_tests)))
      (λ other. searched.passed i low (sym (others i low other) ∙ none)) (cases_eq i k);
}

-- then fewer are left
pub fewer : (left mask k : ℕ) → bit_at left k ≡ 1 → bit_at (bit_and left mask) k ≡ 0 → bit_and left mask < left
fewer left mask k set clear = ⊎_elim (λ lt. lt)
    (λ le.
    let same : bit_and left mask ≡ left = omega (arith, and_le_l left mask, le) in
    absurd (omega (arith, set, clear, ap (λ n. bit_at n k) same)))
    (cases_lt (bit_and left mask) left)

-- none is left
pub nothing : (registers : List ℕ) (page : ℕ) → length registers ≤ 128 → IsSearched registers page 0
    → None ≡ position (is_mapped_at page) registers
nothing registers page bound searched =
    none-visible registers page (λ k lt. searched.passed k (omega arith) (bit_at-zero k))
