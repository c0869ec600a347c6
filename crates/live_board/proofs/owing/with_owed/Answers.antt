use Rattle.std.proofs.Common.{ap, sym, ◌∙◌}
use Rattle.std.specs.Prelude.{◌==◌}
use Rattle.std.specs.Int.{w64}
use Rattle.std.proofs.lemmas.Nat.Bits.{bit_at_set_same, bit_at_set_other}
use Rattle.live_board.specs.Live.{has_processor}
use Rattle.live_board.proofs.owing.with_owed.Goals as goal

pub returns-then-is_owed-clause-here : goal.returns-then-is_owed-clause-here
returns-then-is_owed-clause-here c =
    ap (has_processor _) (sym c.number.ensures.value)
    ∙ ap (λ n. n == 1) (bit_at_set_same w64 c.args.owed c.number.result c.number.ensures.range)
    ∙ sym c.if-is_owed.true

pub returns-then-is_owed-clause-others : goal.returns-then-is_owed-clause-others
returns-then-is_owed-clause-others c p other =
    ap (λ n. n == 1) (bit_at_set_other w64 c.args.owed c.number.result c.number.ensures.range p
    (λ e. other (e ∙ c.number.ensures.value)))
