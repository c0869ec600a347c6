use Rattle.std.proofs.Common.{◌≡◌, ◌<◌, ◌≤◌, ◌^◌, ℕ, List, [], ◌∷◌, length, get_or, false, arith, sym, ap, ◌∙◌}
use Rattle.std.specs.Fmt.{digits}
use Rattle.text_base.proofs.DigitLemmas.{digits-one}
use Rattle.text_base.proofs.NumberLemmas.{no_text, no_zero-first}
use Rattle.text_base.proofs.numbers.number_of.Goals as goal

none : (text : List ℕ) (base n : ℕ) → 10 ≤ base → base ≤ 16 → length text < 1 → n < 2 ^ 64
    → text ≡ digits base false n → ⊥
none [] base n low high short small e = no_text base n low high small e
none (x ∷ text) base n low high short small e = absurd (omega arith)

zero_alone : (text : List ℕ) (base : ℕ) → 10 ≤ base → base ≤ 16 → length text ≡ 1 → get_or text 0 0 ≡ 48
    → text ≡ digits base false 0
zero_alone [] base low high one is = absurd (omega arith)
zero_alone (x ∷ []) base low high one is = ap (λ (b : ℕ). b ∷ []) is ∙ sym (digits-one base low high 0 (omega arith))
zero_alone (x ∷ y ∷ text) base low high one is = absurd (omega arith)

pub returns-in_default-clause-none : goal.returns-in_default-clause-none
returns-in_default-clause-none c n small e =
    none c.args.text.now c.args.base n c.requires.low c.requires.high c.in_default.len_below small e

pub returns-then-text-eq1-clause-found : goal.returns-then-text-eq1-clause-found
returns-then-text-eq1-clause-found c = (
  omega arith,
  zero_alone c.args.text.now c.args.base c.requires.low c.requires.high
      (omega arith) c.if-first-ne48.false,
)

pub returns-else-text-eq1-clause-none : goal.returns-else-text-eq1-clause-none
returns-else-text-eq1-clause-none c n small e =
    no_zero-first c.args.base c.args.text.now n c.requires.low c.requires.high small c.if-first-ne48.false
    (omega arith) e
