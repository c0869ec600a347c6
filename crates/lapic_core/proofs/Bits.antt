-- Numbers that are defined by a predicate on their bits.
use Rattle.std.proofs.Common.{◌≡◌, ℕ, ◌+◌, ◌-◌, ◌*◌, ◌/◌, ◌%◌, ◌^◌, ◌<◌, ◌≤◌, Bool, true, false, ◌&&◌, nat_lt, List, slice_index_or, sym, ap, ◌∙◌, arith, zero, suc, inl, inr}
use Rattle.std.specs.Prelude.{◌==◌, if◌then◌else◌}
use Rattle.std.specs.Int.{bit_at}
use Rattle.std.specs.FinSet as set
use Rattle.std.proofs.Math.Nat.{pow-suc}
use Rattle.std.proofs.lemmas.Bool.{cases_lt}
use Rattle.std.proofs.lemmas.Bool.Decides.{nat_tests}
use Rattle.std.proofs.lemmas.Nat.Bits.{bit_at-zero, bit_at-lt, bit_at_above, bit_at_cat_low, bit_at_cat_high, same_from_bits_below}
use Rattle.lapic_core.specs.Vectors.{Vectors, bits_where, word_of}
use Rattle.lapic_core.specs.inside.Words.{word_members, holds}
use Rattle.lapic_core.proofs.Words.{contains-word_members}

abbrev digit : Bool → ℕ
digit true = 1
digit false = 0

scaled : (b : Bool) (n : ℕ) → (if b then 2 ^ n else 0) ≡ digit b * 2 ^ n
scaled true n = omega arith
scaled false n = omega arith

digit-is : (b : Bool) (k : ℕ) → k ≡ 0 → (bit_at (digit b) k == 1) ≡ b
digit-is true k e = ap (λ j. bit_at 1 j == 1) e
digit-is false k e = ap (λ j. bit_at 0 j == 1) e

more-lt : (b : Bool) (n low : ℕ) → low < 2 ^ n → (if b then 2 ^ n else 0) + low < 2 ^ suc n
more-lt true n low h = omega (arith, pow-suc 2 n)
more-lt false n low h = omega (arith, pow-suc 2 n)

pub bits_where-lt : (p : ℕ → Bool) (n : ℕ) → bits_where p n < 2 ^ n
unfolding bits_where
bits_where-lt p zero = omega arith
bits_where-lt p (suc n) = more-lt (p n) n (bits_where p n) (bits_where-lt p n)

-- the bits of a number below 2 ^ n to which 2 ^ n may be added
low_bit : (b : Bool) (n low i : ℕ) → i < n → bit_at ((if b then 2 ^ n else 0) + low) i ≡ bit_at low i
low_bit b n low i h = ap (λ x. bit_at (x + low) i) (scaled b n) ∙ bit_at_cat_low (digit b) n low i h

top_bit : (b : Bool) (n low : ℕ) → low < 2 ^ n → (bit_at ((if b then 2 ^ n else 0) + low) n == 1) ≡ b
top_bit b n low h =
    ap (λ x. bit_at (x + low) n == 1) (scaled b n)
    ∙ ap (λ x. x == 1) (bit_at_cat_high (digit b) n low n h (omega arith)) ∙ digit-is b (n - n) (omega arith)

no_bit : (b : Bool) (n low i : ℕ) → low < 2 ^ n → n < i → (bit_at ((if b then 2 ^ n else 0) + low) i == 1) ≡ false
no_bit b n low i h up =
    ap (λ x. x == 1) (bit_at_above ((if b then 2 ^ n else 0) + low) (suc n) i (more-lt b n low h) (omega arith))

in_front : (n i : ℕ) (b : Bool) → i < n → (nat_lt i n && b) ≡ (nat_lt i (suc n) && b)
in_front n i b h = grind (arith, nat_tests)

at_end : (n i : ℕ) (b : Bool) → i ≡ n → b ≡ (nat_lt i (suc n) && b)
at_end n i b h = grind (arith, nat_tests)

pub outside : (n i : ℕ) (b : Bool) → n ≤ i → false ≡ (nat_lt i n && b)
outside n i b h = grind (arith, nat_tests)

step : (p : ℕ → Bool) (n i low : ℕ) → low < 2 ^ n → (bit_at low i == 1) ≡ (nat_lt i n && p i)
    → (bit_at ((if p n then 2 ^ n else 0) + low) i == 1) ≡ (nat_lt i (suc n) && p i)
step p n i low small before =
    elim (cases_lt i n) [
      | inl below ↦ ap (λ x. x == 1) (low_bit (p n) n low i below) ∙ before ∙ in_front n i (p i) below
      | inr up ↦ elim (cases_lt n i) [
        | inl above ↦ no_bit (p n) n low i small above ∙ outside (suc n) i (p i) (omega arith)
        | inr at ↦
            let same : i ≡ n = omega arith in
            ap (λ k. bit_at ((if p n then 2 ^ n else 0) + low) k == 1) same ∙ top_bit (p n) n low small
            ∙ ap p (sym same) ∙ at_end n i (p i) same
      ]
    ]

-- bit i of such a number is set iff i is below n and the predicate holds of it
pub bit_at-bits_where : (p : ℕ → Bool) (n i : ℕ) → (bit_at (bits_where p n) i == 1) ≡ (nat_lt i n && p i)
unfolding bits_where
bit_at-bits_where p zero i = ap (λ x. x == 1) (bit_at-zero i) ∙ outside 0 i (p i) (omega arith)
bit_at-bits_where p (suc n) i = step p n i (bits_where p n) (bits_where-lt p n) (bit_at-bits_where p n i)

pub same_digit : (a b : ℕ) → a < 2 → b < 2 → (a == 1) ≡ (b == 1) → a ≡ b
same_digit a b h k e = grind (arith, nat_tests)

pub within : (v : ℕ) (b : Bool) → v < 256 → (nat_lt v 256 && b) ≡ b
within v b h = grind (arith, nat_tests)

abbrev pub member : Vectors → ℕ → ℕ → Bool
member s k i = set.contains s (64 * k + i)

-- a word of four is that of the set
pub word-is : (words : List ℕ) (value : Vectors) (k : ℕ) → word_members words ≡ value → k < 4
    → slice_index_or words k 0 < 2 ^ 64 → slice_index_or words k 0 ≡ word_of value k
word-is words value k is h fits =
    same_from_bits_below 64 (slice_index_or words k 0) (word_of value k) fits (bits_where-lt (member value k) 64)
    (λ i low.
    same_digit _ _ (bit_at-lt (slice_index_or words k 0) i) (bit_at-lt (word_of value k) i) (sym (
    bit_at-bits_where (member value k) 64 i ∙ sym (low_place i low)
    ∙ ap (λ (s : Vectors). set.contains s (64 * k + i)) (sym is) ∙ contains-word_members words (64 * k + i)
    ∙ within (64 * k + i) (holds words (64 * k + i)) (omega arith)
    ∙ (λ j. bit_at (slice_index_or words (quotient i low j) 0) (remainder i low j) == 1))))
  where
    low_place : (i : ℕ) → i < 64 → member value k i ≡ (nat_lt i 64 && member value k i)
    low_place i low = grind (arith, nat_tests)

    quotient : (i : ℕ) → i < 64 → (64 * k + i) / 64 ≡ k
    quotient i low = omega arith

    remainder : (i : ℕ) → i < 64 → (64 * k + i) % 64 ≡ i
    remainder i low = omega arith
