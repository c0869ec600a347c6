-- Sets that are stored as four words: set a bit, clear a bit, the greatest member.
use Rattle.std.proofs.Common.{◌≡◌, ◌≢◌, ℕ, ◌+◌, ◌-◌, ◌*◌, ◌/◌, ◌%◌, ◌^◌, ◌<◌, ◌≤◌, Bool, true, false, ◌&&◌, ◌||◌, not, nat_lt, List, [], ◌∷◌, length, set as list_set, slice_index_or, refl, sym, ap, subst, ◌∙◌, arith, bit_and, bit_or, w64, zero, suc}
use Rattle.std.specs.Prelude.{Option, None, Some, IsSome, IfSome, ◌==◌}
use Rattle.std.specs.Int.{bit_at}
use Rattle.std.specs.Int.Count.{count_leading_zeros}
use Rattle.std.specs.Ordering.{nat_cmp, eq_by_cmp}
use Rattle.std.specs.Cmp.{nat_cmp_total}
use Rattle.std.specs.FinSet as set
use Rattle.std.specs.FinSet.{nat_cmp-IsAntisymmetric}
use Rattle.std.proofs.Math.Nat.{div-eq_of_lt-le, pow-suc}
use Rattle.std.proofs.lemmas.Bool.Decides.{nat_tests}
use Rattle.std.proofs.lemmas.List.{get_or-set_same, get_or-set_other}
use Rattle.std.proofs.lemmas.Nat.{leading_top, le_or_l, le_or_r}
use Rattle.std.proofs.lemmas.Nat.Bits.{bit_at_set_same, bit_at_set_other, bit_at_clear_same, bit_at_clear_other, shr_and_one, bit_at-zero, bit_at_above}
use Rattle.lapic_core.specs.Vectors.{Vectors, greatest}
use Rattle.lapic_core.specs.inside.Words.{word_members, holds, NoneBelow16}
use Rattle.lapic_core.proofs.Members.{Tells, greatest_is, greatest_none, greatest_tells, contains-numbers_where}

-- a word with the bit of a place set, and with it cleared
abbrev bits_set : ℕ → ℕ → ℕ
bits_set word j = bit_or word (1 * 2 ^ j % 18446744073709551616)

abbrev bits_cleared : ℕ → ℕ → ℕ
bits_cleared word j = bit_and word (18446744073709551615 - 1 * 2 ^ j % 18446744073709551616)

-- words whose word of v is changed at its bit
abbrev with_bit : (ℕ → ℕ → ℕ) → List ℕ → ℕ → List ℕ
with_bit change words v = list_set words (v / 64) (change (slice_index_or words (v / 64) 0) (v % 64))

abbrev stands : ℕ → ℕ → Bool
stands word j = bit_at word j == 1

set_bit : (word i j : ℕ) → i < 64 → j < 64 → stands (bits_set word j) i ≡ ((i == j) || stands word i)
set_bit word i j h k =
    elim (i == j) as (λ b. (i == j) ≡ b → stands (bits_set word j) i ≡ (b || stands word i)) [
      | true ↦ λ e. let same : i ≡ j =
          grind (arith, nat_tests) in
          ap (stands (bits_set word j)) same ∙ ap (λ n. n == 1) (bit_at_set_same w64 word j k)
      | false ↦ λ e. let other : i ≢ j =
          grind (arith, nat_tests) in ap (λ n. n == 1) (bit_at_set_other w64 word j k i other)
    ] refl

cleared_bit : (word i j : ℕ) → i < 64 → j < 64 → stands (bits_cleared word j) i ≡ (not (i == j) && stands word i)
cleared_bit word i j h k =
    elim (i == j) as (λ b. (i == j) ≡ b → stands (bits_cleared word j) i ≡ (not b && stands word i)) [
      | true ↦ λ e. let same : i ≡ j =
          grind (arith, nat_tests) in
          ap (stands (bits_cleared word j)) same ∙ ap (λ n. n == 1) (bit_at_clear_same w64 word j k)
      | false ↦ λ e. let other : i ≢ j =
          grind (arith, nat_tests) in ap (λ n. n == 1) (bit_at_clear_other w64 word j k i h other)
    ] refl

same_place : (q v : ℕ) → q / 64 ≡ v / 64 → q % 64 ≡ v % 64 → q ≡ v
same_place q v a b = omega arith

-- within one word, vectors differ iff their bits do; in two words, they differ
same_word : (q v : ℕ) → q / 64 ≡ v / 64 → (q % 64 == v % 64) ≡ eq_by_cmp nat_cmp q v
same_word q v e =
    elim (q % 64 == v % 64) as (λ b. (q % 64 == v % 64) ≡ b → b ≡ eq_by_cmp nat_cmp q v) [
      | true ↦ λ h. let k : q % 64 ≡ v % 64 =
          grind (arith, nat_tests) in let same = same_place q v e k in grind (arith, nat_tests)
      | false ↦ λ h. let k : q % 64 ≢ v % 64 =
          grind (arith, nat_tests) in let other : q ≢ v = λ s. k (ap (λ n. n % 64) s) in grind (arith, nat_tests)
    ] refl

other_word : (q v : ℕ) → q / 64 ≢ v / 64 → false ≡ eq_by_cmp nat_cmp q v
other_word q v e = let other : q ≢ v = λ s. e (ap (λ n. n / 64) s) in grind (arith, nat_tests)

-- membership after a change of one bit, for a change that acts on that bit by `act`
changed : (change : ℕ → ℕ → ℕ) (act : Bool → Bool → Bool)
    → ((word i j : ℕ) → i < 64 → j < 64 → stands (change word j) i ≡ act (i == j) (stands word i))
    → ((b : Bool) → act false b ≡ b)
    → (words : List ℕ) (v q : ℕ) → v < 256 → length words ≡ 4
    → holds (with_bit change words v) q ≡ act (eq_by_cmp nat_cmp q v) (holds words q)
changed change act acts keeps words v q h l =
    let word : ℕ = slice_index_or words (v / 64) 0 in
    elim (q / 64 == v / 64) as
    (λ b. (q / 64 == v / 64) ≡ b
    → holds (with_bit change words v) q ≡ act (eq_by_cmp nat_cmp q v) (holds words q)) [
      | true ↦ λ e.
          let k : q / 64 ≡ v / 64 = grind (arith, nat_tests) in
          ap (λ (w : ℕ). stands w (q % 64))
          (ap (λ at. slice_index_or (with_bit change words v) at 0) k
          ∙ get_or-set_same words (v / 64) (change word (v % 64)) 0 (omega arith))
          ∙ acts word (q % 64) (v % 64) (omega arith) (omega arith)
          ∙ (λ i. act (same_word q v k i) (stands (slice_index_or words (sym k i) 0) (q % 64)))
      | false ↦ λ e.
          let k : q / 64 ≢ v / 64 = grind (arith, nat_tests) in
          ap (λ (w : ℕ). stands w (q % 64)) (get_or-set_other words (v / 64) (q / 64) (change word (v % 64)) 0 k)
          ∙ sym (keeps (holds words q)) ∙ ap (λ b. act b (holds words q)) (other_word q v k)
    ] refl

holds-set : (words : List ℕ) (v q : ℕ) → v < 256 → length words ≡ 4
    → holds (with_bit bits_set words v) q ≡ (eq_by_cmp nat_cmp q v || holds words q)
holds-set = changed bits_set (λ a b. a || b) set_bit (λ b. refl)

holds-cleared : (words : List ℕ) (v q : ℕ) → v < 256 → length words ≡ 4
    → holds (with_bit bits_cleared words v) q ≡ (not (eq_by_cmp nat_cmp q v) && holds words q)
holds-cleared = changed bits_cleared (λ a b. not a && b) cleared_bit (λ b. refl)

pub contains-word_members : (words : List ℕ) (q : ℕ)
    → set.contains (word_members words) q ≡ (nat_lt q 256 && holds words q)
unfolding word_members
contains-word_members words q = contains-numbers_where (holds words) 256 q

pub word_insert : (words : List ℕ) (value : Vectors) (n v : ℕ) → word_members words ≡ value → n ≡ v → n < 256
    → length words ≡ 4 → word_members (with_bit bits_set words n) ≡ set.insert value v
word_insert words value n v is same h l =
    set.same_set nat_cmp_total nat_cmp-IsAntisymmetric _ _ (λ q.
    contains-word_members (with_bit bits_set words n) q ∙ ap (λ b. nat_lt q 256 && b) (holds-set words n q h l)
    ∙ within q (eq_by_cmp nat_cmp q n) (holds words q) n refl h
    ∙ sym (set.contains-insert nat_cmp_total (word_members words) n q
    ∙ ap (λ b. eq_by_cmp nat_cmp q n || b) (contains-word_members words q)))
    ∙ (λ i. set.insert (is i) (same i))
  where
    within : (q : ℕ) (t b : Bool) (n : ℕ) → t ≡ eq_by_cmp nat_cmp q n → n < 256
        → (nat_lt q 256 && (t || b)) ≡ (t || (nat_lt q 256 && b))
    within q t b n e h = grind (arith, nat_tests)

pub word_remove : (words : List ℕ) (value : Vectors) (n v : ℕ) → word_members words ≡ value → n ≡ v → n < 256
    → length words ≡ 4 → word_members (with_bit bits_cleared words n) ≡ set.remove value v
word_remove words value n v is same h l =
    set.same_set nat_cmp_total nat_cmp-IsAntisymmetric _ _ (λ q.
    contains-word_members (with_bit bits_cleared words n) q
    ∙ ap (λ b. nat_lt q 256 && b) (holds-cleared words n q h l)
    ∙ swapped (nat_lt q 256) (not (eq_by_cmp nat_cmp q n)) (holds words q)
    ∙ sym (set.contains-remove nat_cmp_total (word_members words) n q
    ∙ ap (λ b. not (eq_by_cmp nat_cmp q n) && b) (contains-word_members words q)))
    ∙ (λ i. set.remove (is i) (same i))
  where
    swapped : (a b c : Bool) → (a && (b && c)) ≡ (b && (a && c))
    swapped true b c = refl
    swapped false true c = refl
    swapped false false c = refl

-- no member below 16 stays so
pub low_insert : (words : List ℕ) (n : ℕ) → NoneBelow16 words → 16 ≤ n → n < 256 → length words ≡ 4
    → NoneBelow16 (with_bit bits_set words n)
low_insert words n none from h l =
    λ q low. holds-set words n q h l
    ∙ (let f = none q low in let g : eq_by_cmp nat_cmp q n ≡ false = grind (arith, nat_tests) in
    grind (arith, nat_tests))

pub low_remove : (words : List ℕ) (n : ℕ) → NoneBelow16 words → n < 256 → length words ≡ 4
    → NoneBelow16 (with_bit bits_cleared words n)
low_remove words n none h l =
    λ q low. holds-cleared words n q h l ∙ both (not (eq_by_cmp nat_cmp q n)) (holds words q) (none q low)
  where
    both : (a b : Bool) → b ≡ false → (a && b) ≡ false
    both true b e = e
    both false b e = refl

pub word_contains : (words : List ℕ) (value : Vectors) (n v : ℕ) → word_members words ≡ value → n ≡ v → n < 256
    → (bit_and (slice_index_or words (n / 64) 0 / 2 ^ (n % 64)) 1 == 1) ≡ set.contains value v
word_contains words value n v is same h =
    let b : nat_lt n 256 ≡ true = grind (arith, nat_tests) in
    ap (λ k. k == 1) (shr_and_one (slice_index_or words (n / 64) 0) (n % 64))
    ∙ sym (contains-word_members words n ∙ ap (λ t. t && holds words n) b) ∙ (λ i. set.contains (is i) (same i))

-- every word from a place on is 0
abbrev pub ZeroFrom : List ℕ → ℕ → Type 0
ZeroFrom words at = (k : ℕ) → at ≤ k → k < 4 → slice_index_or words k 0 ≡ 0

zero_words : ZeroFrom (0 ∷ 0 ∷ 0 ∷ 0 ∷ []) 0
zero_words zero _ _ = refl
zero_words (suc zero) _ _ = refl
zero_words (suc (suc zero)) _ _ = refl
zero_words (suc (suc (suc zero))) _ _ = refl
zero_words (suc (suc (suc (suc k)))) _ _ = refl

no_bits : (words : List ℕ) (q : ℕ) → ZeroFrom words 0 → q < 256 → holds words q ≡ false
no_bits words q zeros h =
    ap (λ (w : ℕ). stands w (q % 64)) (zeros (q / 64) (omega arith) (omega arith))
    ∙ ap (λ n. n == 1) (bit_at-zero (q % 64))

no_members : (words : List ℕ) → ZeroFrom words 0 → (q : ℕ) → set.contains (word_members words) q ≡ false
no_members words zeros q = contains-word_members words q ∙
    (elim (nat_lt q 256) as (λ b. nat_lt q 256 ≡ b → (b && holds words q) ≡ false) [
      | true ↦ λ e. no_bits words q zeros (grind (arith, nat_tests))
      | false ↦ λ e. refl
    ] refl)

pub word_members-zero : word_members (0 ∷ 0 ∷ 0 ∷ 0 ∷ []) ≡ set.empty
word_members-zero =
    set.same_set nat_cmp_total nat_cmp-IsAntisymmetric _ _
    (λ q. no_members (0 ∷ 0 ∷ 0 ∷ 0 ∷ []) zero_words q ∙ sym (set.contains-empty nat_cmp q))

pub low_zero : NoneBelow16 (0 ∷ 0 ∷ 0 ∷ 0 ∷ [])
low_zero q low = no_bits (0 ∷ 0 ∷ 0 ∷ 0 ∷ []) q zero_words (omega arith)

-- the words are 0 if their bits together are
pub or_zero : (words : List ℕ) → bit_or (slice_index_or words 1 0) (slice_index_or words 3 0) ≡ 0
    → bit_or (slice_index_or words 0 0) (slice_index_or words 2 0) ≡ 0 → ZeroFrom words 0
or_zero words odd even zero _ _ = omega (arith, le_or_l (slice_index_or words 0 0) (slice_index_or words 2 0), even)
or_zero words odd even (suc zero) _ _ =
    omega (arith, le_or_l (slice_index_or words 1 0) (slice_index_or words 3 0), odd)
or_zero words odd even (suc (suc zero)) _ _ =
    omega (arith, le_or_r (slice_index_or words 0 0) (slice_index_or words 2 0), even)
or_zero words odd even (suc (suc (suc zero))) _ _ =
    omega (arith, le_or_r (slice_index_or words 1 0) (slice_index_or words 3 0), odd)
or_zero words odd even (suc (suc (suc (suc k)))) _ h = absurd (omega (arith, h))

-- all words are 0
pub no_greatest : (words : List ℕ) (value : Vectors) → word_members words ≡ value → ZeroFrom words 0
    → None ≡ greatest value
no_greatest words value is zeros = sym (greatest_none (word_members words) (no_members words zeros)) ∙ ap greatest is

top_bit : (w j : ℕ) → 2 ^ j ≤ w → w < 2 ^ suc j → bit_at w j ≡ 1
top_bit w j a b =
    ap (λ n. n % 2) (div-eq_of_lt-le {k = 1} (2 ^ j) {m = w} (omega (arith, pow-suc 2 j)) (omega (arith, pow-suc 2 j)))

member_below : (words : List ℕ) (q : ℕ) → set.contains (word_members words) q ≡ true → (q < 256)
    × (bit_at (slice_index_or words (q / 64) 0) (q % 64) ≡ 1)
member_below words q h =
    let e : (nat_lt q 256 && holds words q) ≡ true = sym (contains-word_members words q) ∙ h in
    (grind (arith, nat_tests), grind (arith, nat_tests))

-- each member is a vector
pub members_in_range : (words : List ℕ) (value : Vectors) → word_members words ≡ value → NoneBelow16 words → (q : ℕ)
    → set.contains value q ≡ true → (16 ≤ q) × (q < 256)
members_in_range words value is low q h =
    let e : (nat_lt q 256 && holds words q) ≡ true =
    sym (contains-word_members words q) ∙ (λ i. set.contains (is i) q) ∙ h in (
      elim (nat_lt q 16) as (λ b. nat_lt q 16 ≡ b → 16 ≤ q) [
        | true ↦ λ t. let below : q < 16 =
            grind (arith, nat_tests) in let f =
            low q below in let g : holds words q ≡ true = grind (arith, nat_tests) in absurd (cc)
        | false ↦ λ t. grind (arith, nat_tests)
      ] refl,
      grind (arith, nat_tests),
    )

-- no member is above the top bit of the last word that is not 0
not_above : (words : List ℕ) (at j q : ℕ) → at < 4 → ZeroFrom words (at + 1) → slice_index_or words at 0 < 2 ^ suc j
    → set.contains (word_members words) q ≡ true → q ≤ 64 * at + j
not_above words at j q h zeros below member =
    let m = member_below words q member in
    let inside = m.0 in
    elim (nat_lt (64 * at + j) q) as (λ b. nat_lt (64 * at + j) q ≡ b → q ≤ 64 * at + j) [
      | true ↦ λ e.
          let up : 64 * at + j < q = grind (arith, nat_tests) in
          elim (q / 64 == at) as (λ b. (q / 64 == at) ≡ b → q ≤ 64 * at + j) [
            | true ↦ λ g.
                let same : q / 64 ≡ at = grind (arith, nat_tests) in
                let z = bit_at_above (slice_index_or words at 0) (suc j) (q % 64) below (omega arith) in
                let y : bit_at (slice_index_or words at 0) (q % 64) ≡ 1 =
                (λ i. bit_at (slice_index_or words (sym same i) 0) (q % 64)) ∙ m.1 in
                omega arith
            | false ↦ λ g.
                let other : q / 64 ≢ at = grind (arith, nat_tests) in
                let z = zeros (q / 64) (omega arith) (omega arith) in
                let y : bit_at 0 (q % 64) ≡ 1 = (λ i. bit_at (sym z i) (q % 64)) ∙ m.1 in
                omega (arith, bit_at-zero (q % 64))
          ] refl
      | false ↦ λ e. grind (arith, nat_tests)
    ] refl

at_top : (words : List ℕ) (at j : ℕ) → j < 64 → 2 ^ j ≤ slice_index_or words at 0
    → slice_index_or words at 0 < 2 ^ suc j → holds words (64 * at + j) ≡ true
at_top words at j h least below =
    let word : (64 * at + j) / 64 ≡ at = omega arith in
    let place : (64 * at + j) % 64 ≡ j = omega arith in
    (λ i. stands (slice_index_or words (word i) 0) (place i))
    ∙ ap (λ n. n == 1) (top_bit (slice_index_or words at 0) j least below)

member_at : (words : List ℕ) (v : ℕ) → v < 256 → holds words v ≡ true → set.contains (word_members words) v ≡ true
member_at words v h marked =
    contains-word_members words v ∙ (let b : nat_lt v 256 ≡ true = grind (arith, nat_tests) in grind (arith, nat_tests))

-- the top bit of the highest word that is not 0
pub word_greatest : (words : List ℕ) (value : Vectors) (at n : ℕ) (o : Option ℕ) → word_members words ≡ value
    → NoneBelow16 words → at < 4 → ZeroFrom words (at + 1)
    → 0 < slice_index_or words at 0 → slice_index_or words at 0 < 18446744073709551616
    → n ≡ 64 * at + 63 - count_leading_zeros 64 (slice_index_or words at 0) →
    (16 ≤ n → IsSome o) → IfSome o (λ v. v ≡ n) → o ≡ greatest value
word_greatest words value at n o is low h zeros some fits e valid exact =
    let top = leading_top 64 (slice_index_or words at 0) some fits in
    let j : ℕ = top.0 in
    let count = top.1 in
    let inside : j < 64 = omega arith in
    let same : 64 * at + j ≡ n = omega arith in
    let marked : holds words n ≡ true = ap (holds words) (sym same) ∙ at_top words at j inside top.2 top.3 in
    given o n (not_low n marked) valid exact ∙ sym (greatest_is (word_members words) n record {
      member = member_at words n (omega arith) marked;
      above = λ q m. subst (λ k. q ≤ k) same (not_above words at j q h zeros top.3 m);
    }) ∙ ap greatest is
  where
    given : (o : Option ℕ) (n : ℕ) → 16 ≤ n → (16 ≤ n → IsSome o) → IfSome o (λ v. v ≡ n) → o ≡ Some n
    given None n h valid exact = let e = valid h in absurd (cc)
    given (Some v) n h valid exact = ap Some exact

    not_low : (v : ℕ) → holds words v ≡ true → 16 ≤ v
    not_low v marked = elim (nat_lt v 16) as (λ b. nat_lt v 16 ≡ b → 16 ≤ v) [
      | true ↦ λ e. let f = low v (grind (arith, nat_tests)) in absurd (cc)
      | false ↦ λ e. grind (arith, nat_tests)
    ] refl

-- where there is no greatest member, each word is 0
zero_word : (words : List ℕ) (value : Vectors) (at : ℕ) → word_members words ≡ value → at < 4
    → slice_index_or words at 0 < 18446744073709551616 →
    None ≡ greatest value → slice_index_or words at 0 ≡ 0
zero_word words value at is h fits none =
    elim (nat_lt 0 (slice_index_or words at 0)) as
    (λ b. nat_lt 0 (slice_index_or words at 0) ≡ b → slice_index_or words at 0 ≡ 0) [
      | true ↦ λ e.
          let some : 0 < slice_index_or words at 0 = grind (arith, nat_tests) in
          let top = leading_top 64 (slice_index_or words at 0) some fits in
          let j : ℕ = top.0 in
          let count = top.1 in
          let inside : j < 64 = omega arith in
          let member =
          member_at words (64 * at + j) (omega (arith, h, inside)) (at_top words at j inside top.2 top.3) in
          let nobody =
          subst (Tells (word_members words)) (ap greatest is ∙ sym none) (greatest_tells (word_members words))
          (64 * at + j) in
          absurd (cc)
      | false ↦ λ e. grind (arith, nat_tests)
    ] refl

-- so are two words together
pub both_zero : (words : List ℕ) (value : Vectors) (at next : ℕ) → word_members words ≡ value → at < 4 → next < 4
    → slice_index_or words at 0 < 18446744073709551616 →
    slice_index_or words next 0 < 18446744073709551616 → None ≡ greatest value
    → bit_or (slice_index_or words at 0) (slice_index_or words next 0) ≡ 0
both_zero words value at next is h k fits fit none =
    rw (zero_word words value at is h fits none, zero_word words value next is k fit none) refl
