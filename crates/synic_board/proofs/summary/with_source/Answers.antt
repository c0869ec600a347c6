use Rattle.std.proofs.Common.{◌*◌, ◌%◌, ◌^◌, ap, sym, ◌∙◌, bit_or}
use Rattle.std.specs.Int.{bit_at, w16}
use Rattle.std.proofs.lemmas.Nat.Bits.{bit_at_set_same, bit_at_set_other}
use Rattle.synic_board.proofs.summary.with_source.Goals as goal

pub returns-clause-here : goal.returns-clause-here
returns-clause-here c =
    ap (λ k. bit_at (bit_or c.args.word (1 * 2 ^ c.number.result % 65536)) k) (sym c.number.ensures.value)
    ∙ bit_at_set_same w16 c.args.word c.number.result c.number.ensures.range

pub returns-clause-others : goal.returns-clause-others
returns-clause-others c i low other =
    bit_at_set_other w16 c.args.word c.number.result c.number.ensures.range i
    (λ same. other (same ∙ c.number.ensures.value))
