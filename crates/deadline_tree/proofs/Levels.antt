-- How often a leaf is halved until the root is reached.
use Rattle.std.proofs.Common.{◌≡◌, ℕ, zero, suc, ◌+◌, ◌*◌, ◌/◌, ◌^◌, ◌<◌, ◌≤◌, true, nat_lt, inl, inr, arith}
use Rattle.std.specs.Prelude.{if◌then◌else◌}
use Rattle.std.proofs.lemmas.Bool.{cases_eq}
use Rattle.std.proofs.lemmas.Bool.Decides.{nat_tests}
use Rattle.std.proofs.Math.Nat.{pow-suc, pow-le-pow_right, mul-le-mul_left, mul_assoc}
use Rattle.deadline_tree.specs.Deadlines.{powers_below, levels}

-- the first k powers are less than n
counted : (n k m : ℕ) → k ≤ m → ((i : ℕ) → i < k → 2 ^ i < n) → k ≤ powers_below m n
unfolding powers_below
counted n k zero h below = h
counted n k (suc m) h below =
    elim (cases_eq k (suc m)) as (λ _. k ≤ powers_below m n + (if nat_lt (2 ^ m) n then 1 else 0)) [
      | inl e ↦
          let less : 2 ^ m < n = below m (omega arith) in
          let before : m ≤ powers_below m n = counted n m m (omega arith) (λ i l. below i (omega arith)) in
          let one : nat_lt (2 ^ m) n ≡ true = grind (arith, nat_tests) in
          rw one (omega arith)
      | inr e ↦
          let before : k ≤ powers_below m n = counted n k m (omega arith) below in omega arith
    ]

below_power : (k : ℕ) → k < 2 ^ k
below_power zero = omega arith
below_power (suc k) = let h = below_power k in omega (arith, pow-suc 2 k)

-- a leaf that is still one after d halvings
pub halvings : (n leaf d : ℕ) → leaf < 2 * n → 2 ^ d ≤ leaf → d ≤ levels n
unfolding levels
halvings n leaf zero above h = omega arith
halvings n leaf (suc d) above h =
    let power : 2 ^ suc d ≡ 2 ^ d * 2 = pow-suc 2 d in
    let less : 2 ^ d < n = omega arith in
    counted n (suc d) n (omega (arith, below_power d))
    (λ i l. let le : 2 ^ i ≤ 2 ^ d = pow-le-pow_right (omega arith) (omega arith) in omega arith)

-- a node that was reached from a leaf by a comparison for each halving
pub record IsHalved (leaf node before now : ℕ) : Type 0 where
  pub times : ℕ
  pub counted : now ≡ before + times
  pub above : 2 ^ times * node ≤ leaf

pub not-halved : (leaf before : ℕ) → IsHalved leaf leaf before before
not-halved leaf before = record { times = 0; counted = omega arith; above = omega arith }

pub halved-again : (leaf node before now next : ℕ) → IsHalved leaf node before now → next ≡ now + 1
    → IsHalved leaf (node / 2) before next
halved-again leaf node before now next h e = record {
  times = suc h.times;
  counted = omega (arith, h.counted, e);
  above =
      let power : 2 ^ suc h.times ≡ 2 ^ h.times * 2 = pow-suc 2 h.times in
      let less : 2 ^ h.times * (2 * (node / 2)) ≤ 2 ^ h.times * node = mul-le-mul_left (2 ^ h.times) (omega arith) in
      rw (power, mul_assoc) (omega (arith, less, h.above));
}

pub within-levels : (n leaf node before now : ℕ) → leaf < 2 * n → 0 < node → IsHalved leaf node before now
    → now ≤ before + levels n
within-levels n leaf node before now low pos h =
    let power : 2 ^ h.times * 1 ≤ 2 ^ h.times * node = mul-le-mul_left (2 ^ h.times) (omega arith) in
    let most : h.times ≤ levels n = halvings n leaf h.times low (omega (arith, power, h.above)) in
    omega (arith, most, h.counted)
