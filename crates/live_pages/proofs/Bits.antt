-- Bits of a word.
use Rattle.std.proofs.Common.{◌≡◌, ℕ, ◌^◌, sym, ap, ◌∙◌, arith, max}
use Rattle.std.specs.Prelude.{bit_or}
use Rattle.std.specs.Int.{bit_at}
use Rattle.std.proofs.Math.Nat.{max-eq_left}
use Rattle.std.proofs.lemmas.Nat.Bits.{bit_at_or, bit_at-pow_other, bit_at-pow_same, same_from_bits}
use mathlib.Core.Logic.{dite}
use native.Mathlib.Decide.{ℕ_discrete}

-- an or with a bit that is set changes nothing
pub or-set : (n k : ℕ) → bit_at n k ≡ 1 → bit_or n (2 ^ k) ≡ n
or-set n k is = same_from_bits (bit_or n (2 ^ k)) n (λ i. bit_at_or n (2 ^ k) i ∙ bits i)
  where
    bits : (i : ℕ) → max (bit_at n i) (bit_at (2 ^ k) i) ≡ bit_at n i
    bits i = dite (ℕ_discrete i k)
        (λ here. ap (λ j. max (bit_at n j) (bit_at (2 ^ k) j)) here ∙ ap (λ b. max b (bit_at (2 ^ k) k)) is
        ∙ ap (max 1) (bit_at-pow_same k) ∙ sym is ∙ ap (bit_at n) (sym here))
        (λ other. ap (max (bit_at n i)) (bit_at-pow_other k i other) ∙ max-eq_left (omega arith))
