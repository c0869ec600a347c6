use Rattle.std.proofs.Common.{◌≡◌, ◌+◌, ◌++◌, ℕ, List, drop, sym, ap, ◌∙◌, arith, append_assoc}
use Rattle.text_base.specs.Numbers.{spelled}
use Rattle.text_base.proofs.LaneLemmas.{eight-more}
use Rattle.text_base.proofs.fronts.bytes_before.Goals as goal

pub loop-left-preserved : goal.loop-left-preserved
loop-left-preserved c =
    let l = c.loop-left in
    let bytes = c.args.bytes.now in
    let after : List ℕ = drop c.args.at c.args.room.now in
    let begins : c.text_before-start.result + 16 ≡ l.start = c.text_before-start.ensures.begins in (
      omega (arith, l.invariant.0),
      omega (arith, begins, l.invariant.1, c.loop-left-test.true),
      c.text_before-start.array_long,
      c.text_before-start.ensures.written
          ∙ (λ i. c.eight_pairs.ensures i ++ l.invariant.3 i)
          ∙ sym (append_assoc _ (spelled (drop l.left bytes)) after)
          ∙ ap (λ (x : List ℕ). x ++ after) (eight-more bytes l.left c.loop-left-test.true l.invariant.0),
    )
