-- A set that is made of four words.
use Rattle.std.proofs.Common.{◌≡◌, ℕ, ◌+◌, ◌*◌, ◌/◌, ◌%◌, ◌^◌, ◌<◌, ◌≤◌, Bool, true, false, ◌&&◌, nat_lt, List, [], ◌∷◌, Some, None, ◌⊎◌, slice_index_or, refl, sym, ap, ◌∙◌, cond, arith, zero, suc, inl, inr}
use Rattle.std.specs.Prelude.{◌==◌}
use Rattle.std.specs.Int.{bit_at}
use Rattle.std.specs.Cmp.{nat_cmp_total}
use Rattle.std.specs.FinSet as set
use Rattle.std.specs.FinSet.{nat_cmp-IsAntisymmetric}
use Rattle.std.proofs.lemmas.Bool.{cases_lt}
use Rattle.std.proofs.lemmas.Bool.Decides.{nat_tests}
use Rattle.std.proofs.lemmas.Nat.Bits.{bit_at-zero, bit_at-lt, bit_at_cat_low, same_from_bits_below}
use Rattle.lapic_core.specs.Vectors.{Vectors, numbers_where, word_of}
use Rattle.lapic_core.specs.Ranges.{AreVectors}
use Rattle.lapic_core.specs.Words.{from_words}
use Rattle.lapic_core.specs.inside.Words.{word_members, holds, NoneBelow16}
use Rattle.lapic_core.proofs.Members.{contains-numbers_where}
use Rattle.lapic_core.proofs.Bits.{member, outside, within, same_digit, bit_at-bits_where, word-is}

-- the lowest 16 bits of a number that 65536 divides are clear
low_bit_clear : (n v : ℕ) → n % 65536 ≡ 0 → v < 16 → (bit_at n v == 1) ≡ false
low_bit_clear n v h low =
    let whole : n ≡ n / 65536 * 2 ^ 16 + 0 = omega (arith, h) in
    ap (λ m. bit_at m v == 1) whole ∙ ap (λ m. m == 1) (bit_at_cat_low (n / 65536) 16 0 v low)
    ∙ ap (λ m. m == 1) (bit_at-zero v)

-- and the view of the words
members-are : (words : List ℕ) → word_members words ≡ numbers_where (holds words) 256
unfolding word_members
members-are words = refl

pub made : (words : List ℕ) → slice_index_or words 0 0 % 65536 ≡ 0 → Some (word_members words) ≡ from_words words
made words h =
    let test : (slice_index_or words 0 0 % 65536 == 0) ≡ true = ap (λ n. n == 0) h in ap Some (members-are words) ∙
    ap (λ (b : Bool). cond b (Some (numbers_where (holds words) 256)) None) (sym test)

pub none-low : (words : List ℕ) → slice_index_or words 0 0 % 65536 ≡ 0 → NoneBelow16 words
none-low words h v low =
    let quotient : v / 64 ≡ 0 = omega arith in
    let remainder : v % 64 ≡ v = omega arith in
    (λ i. bit_at (slice_index_or words (quotient i) 0) (remainder i) == 1)
    ∙ low_bit_clear (slice_index_or words 0 0) v h low

-- a number whose lowest 16 bits are clear
divides-low : (n : ℕ) → ((i : ℕ) → i < 16 → (bit_at n i == 1) ≡ false) → n % 65536 ≡ 0
divides-low n clear =
    same_from_bits_below 16 (n % 65536) 0 (omega arith) (omega arith) (λ i low.
    sym (ap (λ m. bit_at m i) (split) ∙ bit_at_cat_low (n / 65536) 16 (n % 65536) i low) ∙
    same_digit (bit_at n i) (bit_at 0 i) (bit_at-lt n i) (bit_at-lt 0 i)
    (clear i low ∙ sym (ap (λ m. m == 1) (bit_at-zero i))))
  where
    split : n ≡ n / 65536 * 2 ^ 16 + n % 65536
    split = omega arith

no-member : (s : Vectors) → AreVectors s → (v : ℕ) → (v < 16) ⊎ (256 ≤ v) → set.contains s v ≡ false
no-member s h v out = go (set.contains s v) refl
  where
    go : (b : Bool) → set.contains s v ≡ b → b ≡ false
    go false is = refl
    go true is =
        let r = h v is in elim out [ inl low ↦ absurd (omega (arith, r.0)) | inr up ↦ absurd (omega (arith, r.1)) ]

abbrev words_of : Vectors → List ℕ
words_of s = word_of s 0 ∷ word_of s 1 ∷ word_of s 2 ∷ word_of s 3 ∷ []

word_at : (s : Vectors) (k : ℕ) → k < 4 → slice_index_or (words_of s) k 0 ≡ word_of s k
word_at s zero _ = refl
word_at s (suc zero) _ = refl
word_at s (suc (suc zero)) _ = refl
word_at s (suc (suc (suc zero))) _ = refl
word_at s (suc (suc (suc (suc k)))) h = absurd (omega (arith, h))

holds-words_of : (s : Vectors) (v : ℕ) → v < 256 → holds (words_of s) v ≡ set.contains s v
holds-words_of s v h =
    ap (λ w. bit_at w (v % 64) == 1) (word_at s (v / 64) (omega arith))
    ∙ bit_at-bits_where (member s (v / 64)) 64 (v % 64) ∙ low_place ∙ ap (λ n. set.contains s n) whole
  where
    whole : 64 * (v / 64) + v % 64 ≡ v
    whole = omega arith

    low_place : (nat_lt (v % 64) 64 && member s (v / 64) (v % 64)) ≡ member s (v / 64) (v % 64)
    low_place = let small : v % 64 < 64 = omega arith in grind (arith, nat_tests)

same-members : (s : Vectors) → AreVectors s → (q : ℕ)
    → set.contains (numbers_where (holds (words_of s)) 256) q ≡ set.contains s q
same-members s h q =
    contains-numbers_where (holds (words_of s)) 256 q ∙ (elim (cases_lt q 256) [
      | inl low ↦ within q (holds (words_of s) q) low ∙ holds-words_of s q low
      | inr up ↦ sym (outside 256 q (holds (words_of s) q) up) ∙ sym (no-member s h q (inr up))
    ])

-- the set that is made of a set's words is that set
pub from-words_of : (s : Vectors) → AreVectors s → from_words (words_of s) ≡ Some s
from-words_of s h =
    ap (λ (b : Bool). cond b (Some (numbers_where (holds (words_of s)) 256)) None) clear
    ∙ ap Some (set.same_set nat_cmp_total nat_cmp-IsAntisymmetric _ _ (same-members s h))
  where
    last : (i : ℕ) → set.contains s i ≡ false → (nat_lt i 64 && member s 0 i) ≡ false
    last i e = let at : 64 * 0 + i ≡ i = omega arith in
        let none : member s 0 i ≡ false = ap (set.contains s) at ∙ e in grind (arith, nat_tests)

    clear : (word_of s 0 % 65536 == 0) ≡ true
    clear = ap (λ n. n == 0)
        (divides-low (word_of s 0)
        (λ i small. bit_at-bits_where (member s 0) 64 i ∙ last i (no-member s h i (inl small))))

made-vectors : (words : List ℕ) → slice_index_or words 0 0 % 65536 ≡ 0 → AreVectors (numbers_where (holds words) 256)
made-vectors words clear v is =
    go (nat_lt v 256) refl (nat_lt v 16) refl (sym (contains-numbers_where (holds words) 256 v) ∙ is)
  where
    go : (t : Bool) → nat_lt v 256 ≡ t → (u : Bool) → nat_lt v 16 ≡ u → (nat_lt v 256 && holds words v) ≡ true
        → (16 ≤ v) × (v < 256)
    go true below false up both = (grind (arith, nat_tests), grind (arith, nat_tests))
    go true below true low both =
        let none =
        none-low words clear v (grind (arith, nat_tests)) in let some : holds words v ≡ true =
        grind (arith, nat_tests) in absurd (cc)
    go false above u low both = absurd (grind (arith, nat_tests))

-- a set that is made of four words has these words, and its members are vectors
pub record HasWords (s : Vectors) (a b c d : ℕ) : Type 0 where
  pub vectors : AreVectors s
  pub first : a ≡ word_of s 0
  pub second : b ≡ word_of s 1
  pub third : c ≡ word_of s 2
  pub fourth : d ≡ word_of s 3

pub from_words-only : (s : Vectors) (a b c d : ℕ) → a < 2 ^ 64 → b < 2 ^ 64 → c < 2 ^ 64 → d < 2 ^ 64
    → from_words (a ∷ b ∷ c ∷ d ∷ []) ≡ Some s → HasWords s a b c d
from_words-only s a b c d in_a in_b in_c in_d e = go (a % 65536 == 0) refl e
  where
    go : (t : Bool) → (a % 65536 == 0) ≡ t
        → cond t (Some (numbers_where (holds (a ∷ b ∷ c ∷ d ∷ [])) 256)) None ≡ Some s → HasWords s a b c d
    go false is e = cc
    go true is e =
        let same : numbers_where (holds (a ∷ b ∷ c ∷ d ∷ [])) 256 ≡ s = cc in
        let clear : a % 65536 ≡ 0 = grind (arith, nat_tests) in
        record {
          vectors = λ v member. made-vectors (a ∷ b ∷ c ∷ d ∷ []) clear v
              (ap (λ (t : Vectors). set.contains t v) same ∙ member);
          first = word-is (a ∷ b ∷ c ∷ d ∷ []) s 0 (members-are (a ∷ b ∷ c ∷ d ∷ []) ∙ same) (omega arith) in_a;
          second = word-is (a ∷ b ∷ c ∷ d ∷ []) s 1 (members-are (a ∷ b ∷ c ∷ d ∷ []) ∙ same) (omega arith) in_b;
          third = word-is (a ∷ b ∷ c ∷ d ∷ []) s 2 (members-are (a ∷ b ∷ c ∷ d ∷ []) ∙ same) (omega arith) in_c;
          fourth = word-is (a ∷ b ∷ c ∷ d ∷ []) s 3 (members-are (a ∷ b ∷ c ∷ d ∷ []) ∙ same) (omega arith) in_d;
        }
