-- Each register has one number, and each number one register.
use Rattle.std.proofs.Common.{◌≡◌, ℕ, ◌+◌, ◌-◌, ◌/◌, ◌%◌, ◌<◌, ◌≤◌, Bool, true, false, ◌&&◌, subst, refl, arith}
use Rattle.std.specs.Prelude.{Option, Some, ◌==◌, nat_le, if◌then◌else◌}
use Rattle.std.proofs.lemmas.Bool.Decides.{nat_tests}
use Rattle.synic_regs.specs.declared.register.Register.{Register}
use Rattle.synic_regs.specs.declared.register.Register.TheVariants.{ReferenceCounter, Eoi, Tpr, Control, Version, Sief, Sim, Eom, Source, TimerConfig, TimerCount}
use Rattle.synic_regs.specs.Registers.{Exists, number_of_register, timer_register, register_of, HaveTheirNumbers}

abbrev Denotes : ℕ → Register → Type 0
Denotes n r = Exists r × (number_of_register r ≡ n)

-- the result is the first register, or that of the remaining cases
judged : (b : Bool) (x : Register) (rest : Option Register) (r : Register) (P : Type 0)
    → (if b then Some x else rest) ≡ Some r → (b ≡ true → x ≡ r → P) → (b ≡ false → rest ≡ Some r → P) → P
judged true x rest r P h first later = first refl (cc)
judged false x rest r P h first later = later refl h

fixed : (n number : ℕ) (x : Register) (r : Register) → Exists x → number_of_register x ≡ number → (n == number) ≡ true
    → x ≡ r → Denotes n r
fixed n number x r exists has e same = subst (Denotes n) same (exists, grind (arith, nat_tests))

sources : (n : ℕ) (r : Register) → (nat_le 0x40000090 n && nat_le n 0x4000009f) ≡ true → Source (n - 0x40000090) ≡ r
    → Denotes n r
sources n r e same =
    let low : 0x40000090 ≤ n = grind (arith, nat_tests) in
    let high : n ≤ 0x4000009f = grind (arith, nat_tests) in
    subst (Denotes n) same (omega arith, omega arith)

in_turn : (n k : ℕ) → k < 8 → 0x400000b0 + k ≡ n → Denotes n (timer_register k)
in_turn n k h e =
    elim (k % 2 == 0) as (λ b. (k % 2 == 0) ≡ b → Denotes n (if b then TimerConfig (k / 2) else TimerCount (k / 2))) [
      | true ↦ λ even. (omega arith, let z : k % 2 ≡ 0 = grind (arith, nat_tests) in omega arith)
      | false ↦ λ odd. (omega arith, let z : 0 < k % 2 = grind (arith, nat_tests) in omega arith)
    ] refl

timers : (n : ℕ) (r : Register) → (nat_le 0x400000b0 n && nat_le n 0x400000b7) ≡ true
    → timer_register (n - 0x400000b0) ≡ r → Denotes n r
timers n r e same =
    let low : 0x400000b0 ≤ n = grind (arith, nat_tests) in
    let high : n ≤ 0x400000b7 = grind (arith, nat_tests) in
    subst (Denotes n) same (in_turn n (n - 0x400000b0) (omega arith) (omega arith))

read : (n : ℕ) (r : Register) → register_of n ≡ Some r → Denotes n r
read n r h =
    judged _ ReferenceCounter _ r (Denotes n r) h (fixed n _ ReferenceCounter r tt refl) (λ _ h.
    judged _ Eoi _ r (Denotes n r) h (fixed n _ Eoi r tt refl) (λ _ h.
    judged _ Tpr _ r (Denotes n r) h (fixed n _ Tpr r tt refl) (λ _ h.
    judged _ Control _ r (Denotes n r) h (fixed n _ Control r tt refl) (λ _ h.
    judged _ Version _ r (Denotes n r) h (fixed n _ Version r tt refl) (λ _ h.
    judged _ Sief _ r (Denotes n r) h (fixed n _ Sief r tt refl) (λ _ h.
    judged _ Sim _ r (Denotes n r) h (fixed n _ Sim r tt refl) (λ _ h.
    judged _ Eom _ r (Denotes n r) h (fixed n _ Eom r tt refl) (λ _ h.
    judged _ (Source (n - 0x40000090)) _ r (Denotes n r) h (sources n r) (λ _ h.
    judged _ (timer_register (n - 0x400000b0)) _ r (Denotes n r) h (timers n r) (λ _ h. absurd (cc)))))))))))

written : (r : Register) → Exists r → register_of (number_of_register r) ≡ Some r
written ReferenceCounter h = refl
written Eoi h = refl
written Tpr h = refl
written Control h = refl
written Version h = refl
written Sief h = refl
written Sim h = refl
written Eom h = refl
written (Source n) h = grind (arith, nat_tests)
written (TimerConfig n) h = grind (arith, nat_tests)
written (TimerCount n) h = grind (arith, nat_tests)

pub have_their_numbers : HaveTheirNumbers
have_their_numbers n r = (read n r, λ m. subst (λ k. register_of k ≡ Some r) m.1 (written r m.0))
