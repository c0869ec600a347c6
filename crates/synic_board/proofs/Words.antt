-- Iterating over the bits of a word, the lowest first.
use Rattle.std.proofs.Common.{◌≡◌, ℕ, ◌+◌, ◌/◌, ◌%◌, ◌^◌, ◌<◌, ◌≤◌, ◌⊎◌, inl, inr, ap, sym, ◌∙◌, arith}
use Rattle.std.specs.Int.{Width, bit_at, trailing_zeros}
use Rattle.std.proofs.Math.Nat.{div-div-eq-div-mul}
use Rattle.std.proofs.lemmas.Nat.{pow-add}
use Rattle.std.proofs.lemmas.Nat.Bits.{bit_at-trailing_zeros, bit_at_above}
use Rattle.std.proofs.lemmas.Bool.{cases_lt}
use mir.Val.{bits}

-- a word without its lowest bits has the bits after them
shifted : (n i j : ℕ) → n / 2 ^ i / 2 ^ j ≡ n / 2 ^ (i + j)
shifted n i j = div-div-eq-div-mul n (2 ^ i) (2 ^ j) ∙ ap (λ k. n / k) (sym (pow-add 2 i j))

pub halved : (n i j : ℕ) → n / 2 ^ i / 2 ^ j / 2 ≡ n / 2 ^ (i + j + 1)
halved n i j = ap (λ k. k / 2) (shifted n i j) ∙ shifted n (i + j) 1

pub bit_at-left : (n i j : ℕ) → bit_at (n / 2 ^ i) j ≡ bit_at n (i + j)
bit_at-left n i j = ap (λ k. k % 2) (shifted n i j)

-- the lowest bit of the rest of a word is the next one
pub record IsNext (many bits behind skipped : ℕ) : Type 0 where
  pub inside : behind + skipped < many
  pub set : bit_at bits (behind + skipped) ≡ 1
  pub clear : (j : ℕ) → j < skipped → bit_at bits (behind + j) ≡ 0

pub next-bit : (w : Width) (many word left behind : ℕ) → word < 2 ^ many → left ≡ word / 2 ^ behind → 0 < left
    → left < 2 ^ bits w → IsNext many word behind (trailing_zeros w left)
next-bit w many word left behind fits is some small =
    let h = bit_at-trailing_zeros w left some small in
    let set : bit_at word (behind + trailing_zeros w left) ≡ 1 =
    sym (bit_at-left word behind (trailing_zeros w left)) ∙ ap (λ n. bit_at n (trailing_zeros w left)) (sym is)
    ∙ h.1 in
    record {
      inside = inside set (cases_lt (behind + trailing_zeros w left) many);
      set = set;
      clear = λ j below. sym (bit_at-left word behind j) ∙ ap (λ n. bit_at n j) (sym is) ∙ h.2 j below;
    }
  where
    inside : {k : ℕ} → bit_at word k ≡ 1 → (k < many) ⊎ (many ≤ k) → k < many
    inside e (inl below) = below
    inside {k} e (inr above) = let none = bit_at_above word many k fits above in absurd (omega (arith, e, none))
