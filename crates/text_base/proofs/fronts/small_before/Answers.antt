use Rattle.std.proofs.Common.{◌≡◌, ◌+◌, ◌/◌, ◌%◌, ◌∷◌, ◌++◌, List, ℕ, drop, sym, ap, ◌∙◌, arith}
use Rattle.text_base.proofs.DigitLemmas.{decimal-last_two, decimal-step_two, decimal-last, decimal-whole}
use Rattle.text_base.proofs.fronts.small_before.Goals as goal

pub returns-then-n-lt100-clause-written : goal.returns-then-n-lt100-clause-written
returns-then-n-lt100-clause-written c =
    let after : List ℕ = drop c.args.at c.args.room.now in
    let whole : c.args.n % 100 ≡ c.args.n = omega (arith, c.if-n-lt100.true) in
    c.text_before-start.ensures.written
    ∙ ap (λ (pair : List ℕ). pair ++ after) c.decimal_pair.ensures
    ∙ ap (λ (n : ℕ). (48 + n / 10) ∷ (48 + n % 10) ∷ after) whole
    ∙ sym (decimal-last_two 64 c.args.n after (omega arith) c.if-n-lt10.false c.if-n-lt100.true)
    ∙ decimal-whole c.args.n after

pub returns-clause-written : goal.returns-clause-written
returns-clause-written c =
    let after : List ℕ = drop c.args.at c.args.room.now in
    let pair : List ℕ = (48 + c.args.n % 100 / 10) ∷ (48 + c.args.n % 100 % 10) ∷ after in
    let written : drop c.text_before-start.result c.text_before-start.new.room ≡ pair =
    c.text_before-start.ensures.written ∙ ap (λ (digits : List ℕ). digits ++ after) c.decimal_pair.ensures in
    c.text_before.ensures.written
    ∙ ap (λ (rest : List ℕ). (48 + c.args.n / 100) ∷ rest) written
    ∙ sym (decimal-last 62 (c.args.n / 100) pair (omega arith) (omega (arith, c.ranges.n.fits)))
    ∙ sym (decimal-step_two 64 c.args.n after (omega arith) c.if-n-lt100.false)
    ∙ decimal-whole c.args.n after
