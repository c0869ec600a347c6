use Rattle.std.proofs.Common.{ap, sym, ◌∙◌}
use Rattle.std.specs.Prelude.{◌==◌}
use Rattle.std.specs.Int.{w16}
use Rattle.std.proofs.lemmas.Nat.Bits.{bit_at_set_same, bit_at_set_other, bit_at_clear_same, bit_at_clear_other}
use Rattle.gpa_space.proofs.mapped.with_overlay.Goals as goal

pub returns-then-is_mapped-clause-here : goal.returns-then-is_mapped-clause-here
returns-then-is_mapped-clause-here c =
    ap (λ n. n == 1) (bit_at_set_same w16 c.args.word c.args.overlay c.requires) ∙ sym c.if-is_mapped.true

pub returns-then-is_mapped-clause-others : goal.returns-then-is_mapped-clause-others
returns-then-is_mapped-clause-others c i low other = bit_at_set_other w16 c.args.word c.args.overlay c.requires i other

pub returns-else-is_mapped-clause-here : goal.returns-else-is_mapped-clause-here
returns-else-is_mapped-clause-here c =
    ap (λ n. n == 1) (bit_at_clear_same w16 c.args.word c.args.overlay c.requires) ∙ sym c.if-is_mapped.false

pub returns-else-is_mapped-clause-others : goal.returns-else-is_mapped-clause-others
returns-else-is_mapped-clause-others c i low other =
    bit_at_clear_other w16 c.args.word c.args.overlay c.requires i low other
