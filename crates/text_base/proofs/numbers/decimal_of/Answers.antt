use Rattle.std.proofs.Common.{◌≡◌, ◌<◌, ◌≤◌, ◌^◌, ℕ, List, Some, None, decimal, sym, ◌∙◌, arith}
use Rattle.text_base.proofs.NumberLemmas.{decimal_at-answer, decimal-injective}
use Rattle.text_base.proofs.numbers.decimal_of.Goals as goal

too_large : (text : List ℕ) (n most : ℕ) → n < 2 ^ 64 → most < 2 ^ 64 → text ≡ decimal n → most < n → (m : ℕ)
    → m ≤ most → text ≡ decimal m → ⊥
too_large text n most small fits is large m bound e =
    let same = decimal-injective n m small (omega arith) (sym is ∙ e) in omega arith

pub returns-else-n-most-clause-none : goal.returns-else-n-most-clause-none
returns-else-n-most-clause-none c =
    too_large c.args.text.now c.in_ok-n.n c.args.most c.in_ok-n.ensures.found.0
    (omega (arith, c.ranges.most.fits)) c.in_ok-n.ensures.found.1 c.if-n-most.false

pub returns-else-n-most-clause-read : goal.returns-else-n-most-clause-read
returns-else-n-most-clause-read c =
    decimal_at-answer c.args.most c.args.text.now None (omega (arith, c.ranges.most.fits)) tt
    (returns-else-n-most-clause-none c)

pub returns-then-n-most-clause-read : goal.returns-then-n-most-clause-read
returns-then-n-most-clause-read c =
    decimal_at-answer c.args.most c.args.text.now (Some c.in_ok-n.n) (omega (arith, c.ranges.most.fits))
    (c.if-n-most.true, c.in_ok-n.ensures.found.1) tt

pub returns-in_err-n-clause-none : goal.returns-in_err-n-clause-none
returns-in_err-n-clause-none c =
    rw c.from_residual.ensures (λ n bound e. c.in_err-n.ensures.none n (omega (arith, c.ranges.most.fits)) e)

pub returns-in_err-n-clause-read : goal.returns-in_err-n-clause-read
returns-in_err-n-clause-read c = c.from_residual.ensures
    ∙ decimal_at-answer c.args.most c.args.text.now None (omega (arith, c.ranges.most.fits)) tt
    (λ n bound e. c.in_err-n.ensures.none n (omega (arith, c.ranges.most.fits)) e)
