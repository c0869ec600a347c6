-- A bit of a byte.
use Rattle.std.proofs.Common.{◌≡◌, ℕ, ◌*◌, ◌%◌, ◌^◌, ◌<◌, not, ap, ◌∙◌, arith, rules}
use Rattle.std.specs.Prelude.{◌==◌, bit_and}
use Rattle.std.specs.Int.{bit_at}
use Rattle.std.proofs.lemmas.Bool.Decides.{nat_tests}
use Rattle.std.proofs.lemmas.Nat.Bits.{and_pow, bit_at-lt}

mask_of : (k : ℕ) → k < 8 → 1 * 2 ^ k % 256 ≡ 2 ^ k
mask_of k h = search rules

-- a test with a mask
pub bit_is_clear : (byte k : ℕ) → k < 8 → (bit_and byte (1 * 2 ^ k % 256) == 0) ≡ not (bit_at byte k == 1)
bit_is_clear byte k h =
    let masked = ap (λ m. bit_and byte m == 0) (mask_of k h) in
    let e : bit_and byte (2 ^ k) ≡ bit_at byte k * 2 ^ k = and_pow byte k in
    let bound : bit_at byte k < 2 = bit_at-lt byte k in
    masked ∙ grind (arith, nat_tests)
