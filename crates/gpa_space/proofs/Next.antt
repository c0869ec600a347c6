-- The first page from a number on where an overlay is visible.
use Rattle.std.proofs.Common.{◌≡◌, ℕ, ◌+◌, ◌<◌, ◌≤◌, Bool, true, false, ◌&&◌, List, length, get_or, Option, None, Some, ⊎_elim, refl, sym, ◌∙◌, subst, arith, cond}
use Rattle.std.specs.Prelude.{nat_lt}
use Rattle.std.specs.Option.{option_map}
use Rattle.std.proofs.lemmas.Bool.{cases_lt}
use Rattle.std.proofs.lemmas.Bool.Decides.{nat_tests}
use Rattle.std.proofs.lemmas.List.Quantifiers.{position-Some}
use Rattle.std.proofs.lemmas.List.Sums.{fails_before_first}
use Rattle.std.specs.List.{position_or_len}
use Rattle.gpa_space.specs.Space.{Space, page_of, is_mapped_at, visible, page_count, is_covered, owner_of, IsNextOverlay}
use Rattle.gpa_space.specs.inside.OverlaysAt.{is_mapped_in, lesser_page, IsLeastPage}

-- what holds below n and at n holds below n + 1
each : (P : ℕ → Type 0) (n : ℕ) → ((i : ℕ) → i < n → P i) → P n → (i : ℕ) → i < n + 1 → P i
each P n before last i lt =
    ⊎_elim (λ low. before i low) (λ high. let same : n ≡ i = omega (arith, lt, high) in subst P same last)
    (cases_lt i n)

after-none : (rs : List ℕ) (from count n : ℕ) (m : Bool) → is_mapped_in from count (get_or rs n 0) ≡ m
    → IsLeastPage rs from count n None →
    IsLeastPage rs from count (n + 1) (cond (m && true) (Some (page_of (get_or rs n 0))) None)
after-none rs from count n true here h = (
  (n, omega arith, here, refl),
  each (λ i. is_mapped_in from count (get_or rs i 0) ≡ true → page_of (get_or rs n 0) ≤ page_of (get_or rs i 0)) n
      (λ i low mapped. let no : true ≡ false = sym mapped ∙ h i low in absurd (cc)) (λ _. omega arith),
)
after-none rs from count n false here h = each (λ i. is_mapped_in from count (get_or rs i 0) ≡ false) n h here

after-some : (rs : List ℕ) (from count n p : ℕ) (m less : Bool) → is_mapped_in from count (get_or rs n 0) ≡ m
    → nat_lt (page_of (get_or rs n 0)) p ≡ less → IsLeastPage rs from count n (Some p) →
    IsLeastPage rs from count (n + 1) (cond (m && less) (Some (page_of (get_or rs n 0))) (Some p))
after-some rs from count n p true true here less h =
    let below : page_of (get_or rs n 0) < p = grind (arith, nat_tests) in (
      (n, omega arith, here, refl),
      each (λ i. is_mapped_in from count (get_or rs i 0) ≡ true → page_of (get_or rs n 0) ≤ page_of (get_or rs i 0)) n
          (λ i low mapped. omega (arith, h.1 i low mapped, below)) (λ _. omega arith),
    )
after-some rs from count n p true false here less h =
    let above : p ≤ page_of (get_or rs n 0) = grind (arith, nat_tests) in (
      (h.0.0, omega (arith, h.0.1), h.0.2, h.0.3),
      each (λ i. is_mapped_in from count (get_or rs i 0) ≡ true → p ≤ page_of (get_or rs i 0)) n h.1 (λ _. above),
    )
after-some rs from count n p false less here _ h = (
  (h.0.0, omega (arith, h.0.1), h.0.2, h.0.3),
  each (λ i. is_mapped_in from count (get_or rs i 0) ≡ true → p ≤ page_of (get_or rs i 0)) n h.1
      (λ mapped. let no : true ≡ false = sym mapped ∙ here in absurd (cc)),
)

pub one-more : (rs : List ℕ) (from count n : ℕ) (o : Option ℕ) → IsLeastPage rs from count n o
    → IsLeastPage rs from count (n + 1) (lesser_page from count (get_or rs n 0) o)
one-more rs from count n None h = after-none rs from count n (is_mapped_in from count (get_or rs n 0)) refl h
one-more rs from count n (Some p) h =
    after-some rs from count n p (is_mapped_in from count (get_or rs n 0))
    (nat_lt (page_of (get_or rs n 0)) p) refl refl h

-- no overlay is visible at a page below those at which the registers map one
uncovered : (s : Space) (from page : ℕ) → from ≤ page →
    ((i : ℕ) → i < length s.registers → is_mapped_in from (page_count s) (get_or s.registers i 0) ≡ true
    → page < page_of (get_or s.registers i 0)) → is_covered s page ≡ false
uncovered s from page on above =
    elim (visible s page) as (λ o. visible s page ≡ o → is_covered s page ≡ false) [
      | None ↦ λ e. rw e (grind (arith, nat_tests))
      | Some k ↦ λ e. beyond k (position-Some (is_mapped_at page) s.registers k 0 e) (nat_lt page (page_count s)) refl
    ] refl
  where
    beyond : (k : ℕ) → (k < length s.registers) × (is_mapped_at page (get_or s.registers k 0) ≡ true)
        × ((i : ℕ) → i < k → is_mapped_at page (get_or s.registers i 0) ≡ false) →
        (b : Bool) → nat_lt page (page_count s) ≡ b → is_covered s page ≡ false
    beyond k at true within =
        let mapped : is_mapped_in from (page_count s) (get_or s.registers k 0) ≡ true =
        grind (arith, nat_tests, at.1) in
        let here : page_of (get_or s.registers k 0) ≡ page = grind (arith, nat_tests, at.1) in
        absurd (omega (arith, above k at.0 mapped, here))
    beyond k at false outside = rw outside refl

covered : (s : Space) (from p k : ℕ) → k < length s.registers
    → is_mapped_in from (page_count s) (get_or s.registers k 0) ≡ true → p ≡ page_of (get_or s.registers k 0)
    → is_covered s p ≡ true
covered s from p k below mapped here =
    let at : is_mapped_at p (get_or s.registers k 0) ≡ true = grind (arith, nat_tests) in
    let within : nat_lt p (page_count s) ≡ true = grind (arith, nat_tests) in
    elim (visible s p) as (λ o. visible s p ≡ o → is_covered s p ≡ true) [
      | None ↦ λ e.
          let none : length s.registers ≤ position_or_len (is_mapped_at p) s.registers = grind (arith, nat_tests) in
          let no : true ≡ false =
          sym at ∙ fails_before_first (is_mapped_at p) s.registers k 0 (omega arith) in absurd (cc)
      | Some o ↦ λ e. rw (e, within) refl
    ] refl

pub next-overlay : (s : Space) (registers : List ℕ) (from count : ℕ) (o : Option ℕ) → registers ≡ s.registers
    → count ≡ page_count s →
    IsLeastPage registers from count (length registers) o
    → IsNextOverlay s from (option_map (λ (p : ℕ). (p, owner_of s p)) o)
next-overlay s registers from count o are counted least = answer o
    (subst (λ (xs : List ℕ). IsLeastPage xs from (page_count s) (length xs) o) are
    (subst (λ (n : ℕ). IsLeastPage registers from n (length registers) o) counted least))
  where
    answer : (r : Option ℕ) → IsLeastPage s.registers from (page_count s) (length s.registers) r
        → IsNextOverlay s from (option_map (λ (p : ℕ). (p, owner_of s p)) r)
    answer None h =
        λ page on. uncovered s from page on (λ i lt mapped. let no : true ≡ false = sym mapped ∙ h i lt in absurd (cc))
    answer (Some p) h = (
      grind (arith, nat_tests, h.0.2, h.0.3),
      covered s from p h.0.0 h.0.1 h.0.2 h.0.3,
      refl,
      λ page on below. uncovered s from page on (λ i lt mapped. omega (arith, h.1 i lt mapped, below)),
    )
