use Rattle.std.proofs.Common.{◌≡◌, ◌*◌, ◌+◌, arith, sym, ◌∙◌}
use Rattle.std.proofs.lemmas.List.{take_all}
use Rattle.text_base.proofs.NumberLemmas.{so_far-start, so_far-more, no_byte, no_digit, too_large}
use Rattle.text_base.proofs.numbers.positive_of.Goals as goal

pub loop-c-init : goal.loop-c-init
loop-c-init c = so_far-start c.args.base c.args.text.now

pub returns-in_default-clause-none : goal.returns-in_default-clause-none
returns-in_default-clause-none c n small e =
    no_byte c.args.base c.args.text.now c.loop-c.c-index n c.requires.low c.requires.high c.loop-c-test.true
    c.in_default.ensures e

pub returns-then-digit-base-clause-none : goal.returns-then-digit-base-clause-none
returns-then-digit-base-clause-none c n small e =
    no_digit c.args.base c.args.text.now c.loop-c.c-index n c.in-Some.digit c.requires.low c.requires.high
    c.loop-c-test.true c.in-Some.ensures.1
    (omega (arith, c.from-digit.ensures)) e

pub returns-in_default-checked_mul-clause-none : goal.returns-in_default-checked_mul-clause-none
returns-in_default-checked_mul-clause-none c n small e =
    let large = rw c.in_default-checked_mul.is at c.checked_mul.ensures in
    too_large c.args.base c.args.text.now c.loop-c.c-index c.loop-c.n n c.in-Some.digit c.requires.low c.requires.high
    small c.loop-c-test.true c.in-Some.ensures.1
    (omega (arith, c.from-digit.ensures)) (grind arith) c.loop-c.invariant e

pub returns-in_default-checked_add-clause-none : goal.returns-in_default-checked_add-clause-none
returns-in_default-checked_add-clause-none c n small e =
    let large = rw c.in_default-checked_add.is at c.checked_add.ensures in
    let tens = c.in-Some-checked_mul.ensures.1 in
    too_large c.args.base c.args.text.now c.loop-c.c-index c.loop-c.n n c.in-Some.digit c.requires.low c.requires.high
    small c.loop-c-test.true c.in-Some.ensures.1
    (omega (arith, c.from-digit.ensures)) (grind arith) c.loop-c.invariant e

pub loop-c-preserved : goal.loop-c-preserved
loop-c-preserved c =
    let sum : c.in-Some-checked_add.sum ≡ c.loop-c.n * c.args.base + c.in-Some.digit =
    omega (arith, c.in-Some-checked_add.ensures.1, c.in-Some-checked_mul.ensures.1, c.from-digit.ensures) in
    rw sum (so_far-more c.args.base c.args.text.now c.loop-c.c-index c.loop-c.n c.in-Some.digit c.requires.low
    c.requires.high c.loop-c-test.true c.requires.first
    (omega (arith, c.from-digit.ensures))
    (omega (arith, c.in-Some-checked_add.ensures.0, c.in-Some-checked_mul.ensures.1, c.from-digit.ensures))
    c.in-Some.ensures.1 c.loop-c.invariant)

pub returns-clause-found : goal.returns-clause-found
returns-clause-found c = (
  c.loop-c.invariant.small,
  sym (take_all c.loop-c.c-index c.args.text.now (omega arith)) ∙ c.loop-c.invariant.spells (omega arith),
)
