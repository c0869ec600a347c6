use Rattle.std.proofs.Common.{◌≡◌, ◌+◌, ◌-◌, ◌/◌, ◌%◌, ◌<◌, ◌≤◌, ◌^◌, ◌∷◌, ◌++◌, ℕ, List, drop, false, sym, ap, subst, ◌∙◌, arith}
use Rattle.std.specs.Fmt.{digits_onto}
use Rattle.text_base.proofs.DigitLemmas.{decimal-more, decimal-less_two, decimal-step_two, decimal-last_two, decimal-last, decimal-whole}
use Rattle.text_base.proofs.fronts.decimal_before.Goals as goal

pub loop-rest-preserved : goal.loop-rest-preserved
loop-rest-preserved c =
    let l = c.loop-rest in
    let left : ℕ = l.start + 20 - c.args.at in
    let next : ℕ = c.text_before-start.result in
    let begins : next + 2 ≡ l.start = c.text_before-start.ensures.begins in
    let fewer = decimal-less_two left l.rest c.loop-rest-test.true l.invariant.3 in
    let three : 3 ≤ left = fewer.0 in
    let turns : left - 2 ≡ next + 20 - c.args.at = omega (arith, begins, three) in
    let turns' : 44 + left - 2 ≡ 44 + (next + 20 - c.args.at) = omega (arith, begins, three) in
    let rest : ℕ = l.rest / 100 in
    let after : List ℕ = (48 + l.rest % 100 / 10) ∷ (48 + l.rest % 100 % 10) ∷ drop l.start l.room in
    let written : drop next c.text_before-start.new.room ≡ after =
    c.text_before-start.ensures.written ∙ ap (λ (pair : List ℕ). pair ++ drop l.start l.room) c.decimal_pair.ensures in
    let step = decimal-step_two (44 + left) l.rest (drop l.start l.room) (omega arith) c.loop-rest-test.true in (
      omega (arith, l.invariant.0, begins),
      omega (arith, three, begins),
      c.text_before-start.array_long,
      subst (λ (k : ℕ). rest < 10 ^ k) turns fewer.1,
      ap (digits_onto (44 + (next + 20 - c.args.at)) 10 false rest) written
          ∙ ap (λ (k : ℕ). digits_onto k 10 false rest after) (sym turns') ∙ sym step ∙ l.invariant.4,
    )

pub text_before-requires : goal.text_before-requires
text_before-requires c =
    let l = c.loop-rest in
    let two = decimal-more (l.start + 20 - c.args.at) l.rest c.if-rest-ge10.true l.invariant.3 in
    (omega arith, (omega (arith, l.invariant.0, c.requires.place), omega (arith, two, c.requires.fits)))

pub returns-then-rest-ge10-clause-short : goal.returns-then-rest-ge10-clause-short
returns-then-rest-ge10-clause-short c =
    let l = c.loop-rest in
    let begins : c.text_before.result + 2 ≡ l.start = c.text_before.ensures.begins in
    let two = decimal-more (l.start + 20 - c.args.at) l.rest c.if-rest-ge10.true l.invariant.3 in
    omega (arith, two, begins)

pub returns-then-rest-ge10-clause-written : goal.returns-then-rest-ge10-clause-written
returns-then-rest-ge10-clause-written c =
    let l = c.loop-rest in
    let left : ℕ = l.start + 20 - c.args.at in
    c.text_before.ensures.written
    ∙ ap (λ (pair : List ℕ). pair ++ drop l.start l.room) c.decimal_pair-then-rest-ge10.ensures
    ∙ sym (decimal-last_two (44 + left) l.rest (drop l.start l.room)
    (omega arith) c.if-rest-ge10.true c.loop-rest-test.false)
    ∙ l.invariant.4
    ∙ decimal-whole c.args.n (drop c.args.at c.args.room.now)

pub returns-clause-written : goal.returns-clause-written
returns-clause-written c =
    let l = c.loop-rest in
    let left : ℕ = l.start + 20 - c.args.at in
    c.text_before-2.ensures.written
    ∙ sym (decimal-last (44 + left) l.rest (drop l.start l.room) (omega arith) c.if-rest-ge10.false)
    ∙ l.invariant.4
    ∙ decimal-whole c.args.n (drop c.args.at c.args.room.now)
