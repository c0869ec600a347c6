use Rattle.std.proofs.Common.{◌≡◌, ℕ, nat_eq, false, ne_eqb}
use Rattle.std.proofs.lemmas.List.Elements.{All-more}
use Rattle.text_base.proofs.fields.field_end.Goals as goal

pub loop-i-preserved : goal.loop-i-preserved
loop-i-preserved c =
    All-more (λ (x : ℕ). nat_eq x 32 ≡ false) c.args.text.now c.loop-i.i 0 c.loop-i-test.true c.loop-i.invariant
    (ne_eqb _ 32 c.if-b-eq32.false)
