-- The bits of a configuration: one that is tested with a mask, and those that are stored.
use Rattle.std.proofs.Common.{◌≡◌, ℕ, zero, suc, ◌*◌, ◌/◌, ◌%◌, ◌^◌, ◌<◌, ◌+◌, ◌-◌, ap, subst, sym, ◌∙◌, arith}
use Rattle.std.specs.Prelude.{◌==◌, bit_and}
use Rattle.std.proofs.lemmas.Nat.Bits.{and_pow}
use Rattle.std.proofs.lemmas.Bool.Decides.{nat_tests}
use Rattle.std.proofs.lemmas.Nat.{and_assoc}
use lib.Bits.{and_step}
use Prim.Native.Nat.{min}
use Rattle.stimer_bank.specs.Timer.{has_bit, IsStored, disabled, enabled}

times : (b m : ℕ) → b < 2 → 0 < m → (b * m == m) ≡ (b == 1)
times zero m bound some = grind (arith, nat_tests)
times (suc zero) m bound some = grind (arith, nat_tests)
times (suc (suc b)) m bound some = absurd (omega arith)

pub has-bit : (word n : ℕ) → 0 < 2 ^ n → (bit_and word (2 ^ n) == 2 ^ n) ≡ has_bit n word
has-bit word n some = ap (λ x. x == 2 ^ n) (and_pow word n) ∙ times (word / 2 ^ n % 2) (2 ^ n) (omega arith) some

low : (n : ℕ) → min (n % 2) 1 ≡ n % 2
low n = grind (arith, nat_tests)

half-stored : (config : ℕ) → IsStored config → bit_and (config / 2) 0x78fff ≡ config / 2
half-stored config stored = omega (arith, and_step config 0xf1fff, low config, stored)

-- the first bit is stored
stored-by-half : (config : ℕ) → bit_and (config / 2) 0x78fff ≡ config / 2 → IsStored config
stored-by-half config halves = omega (arith, and_step config 0xf1fff, low config, halves)

pub stored-disabled : (config : ℕ) → IsStored config → IsStored (disabled config)
stored-disabled config stored =
    let same : (config - config % 2) / 2 ≡ config / 2 = omega arith in
    stored-by-half (config - config % 2) (subst (λ h. bit_and h 0x78fff ≡ h) (sym same) (half-stored config stored))

pub stored-enabled : (config : ℕ) → IsStored config → IsStored (enabled config)
stored-enabled config stored =
    let same : (config - config % 2 + 1) / 2 ≡ config / 2 = omega arith in
    stored-by-half (config - config % 2 + 1) (subst (λ h. bit_and h 0x78fff ≡ h) (sym same) (half-stored config stored))

pub stored-written : (value : ℕ) → IsStored (bit_and value 0xf1fff)
stored-written value = and_assoc 0xf1fff value 0xf1fff
