-- What the test of two numbers for equality says.
use Rattle.std.proofs.Common.{◌≡◌, ◌≢◌, ℕ, true, false, arith}
use Rattle.std.specs.Prelude.{◌==◌}
use Rattle.std.proofs.lemmas.Bool.Decides.{nat_tests}

pub test-same : (n : ℕ) → (n == n) ≡ true
test-same n = grind (arith, nat_tests)

pub same : (a b : ℕ) → (a == b) ≡ true → a ≡ b
same a b e = grind (arith, nat_tests)

pub other : (a b : ℕ) → (a == b) ≡ false → a ≢ b
other a b e is = grind (arith, nat_tests)
