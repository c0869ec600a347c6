use Rattle.std.proofs.Common.{ap, sym, ◌∙◌}
use Rattle.std.specs.Prelude.{◌==◌}
use Rattle.std.specs.Int.{w64}
use Rattle.std.proofs.lemmas.Nat.Bits.{bit_at_set_same, bit_at_set_other, bit_at_clear_same, bit_at_clear_other}
use Rattle.c_calls.proofs.views.with_bit.Goals as goal

pub returns-then-set-clause-here : goal.returns-then-set-clause-here
returns-then-set-clause-here c =
    ap (λ n. n == 1) (bit_at_set_same w64 c.args.word c.args.bit c.requires) ∙ sym c.if-set.true

pub returns-then-set-clause-others : goal.returns-then-set-clause-others
returns-then-set-clause-others c i low other = bit_at_set_other w64 c.args.word c.args.bit c.requires i other

pub returns-else-set-clause-here : goal.returns-else-set-clause-here
returns-else-set-clause-here c =
    ap (λ n. n == 1) (bit_at_clear_same w64 c.args.word c.args.bit c.requires) ∙ sym c.if-set.false

pub returns-else-set-clause-others : goal.returns-else-set-clause-others
returns-else-set-clause-others c i low other = bit_at_clear_other w64 c.args.word c.args.bit c.requires i low other
