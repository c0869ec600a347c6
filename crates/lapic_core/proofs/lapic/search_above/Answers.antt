use Rattle.std.proofs.Common.{◌∙◌, arith}
use Rattle.lapic_core.proofs.Priority.{above_none, above_some, above_low}
use Rattle.lapic_core.proofs.lapic.search_above.Goals as goal

pub returns-in_err-vector-clause-none : goal.returns-in_err-vector-clause-none
returns-in_err-vector-clause-none c = λ _. c.from_residual.ensures

pub returns-in_err-vector-clause-greatest : goal.returns-in_err-vector-clause-greatest
returns-in_err-vector-clause-greatest c =
    c.from_residual.ensures ∙ above_none _ _ _ c.search.ensures (c.in_err-vector.was {u = tt})

pub returns-then-number-threshold-clause-none : goal.returns-then-number-threshold-clause-none
returns-then-number-threshold-clause-none c =
    λ full. absurd (omega (arith, full, c.number.ensures.value, c.if-number-threshold.true))

pub returns-then-number-threshold-clause-greatest : goal.returns-then-number-threshold-clause-greatest
returns-then-number-threshold-clause-greatest c =
    above_some _ _ _ _ c.search.ensures (c.in_ok-vector.was {u = tt})
    (rw (← c.number.ensures.value) c.if-number-threshold.true)

pub returns-else-number-threshold-clause-greatest : goal.returns-else-number-threshold-clause-greatest
returns-else-number-threshold-clause-greatest c =
    above_low _ _ _ _ c.search.ensures (c.in_ok-vector.was {u = tt})
    (rw (← c.number.ensures.value) c.if-number-threshold.false)
