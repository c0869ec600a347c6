use Rattle.std.proofs.Common.{arith, sym, ◌∙◌}
use Rattle.text_base.specs.Numbers.{hex}
use Rattle.text_base.proofs.NumberLemmas.{hex_at-spelled}
use Rattle.text_base.proofs.fields.Fields.hexadecimal.Goals as goal

pub returns-in-Some-clause-read : goal.returns-in-Some-clause-read
returns-in-Some-clause-read c =
    let taken = c.in-Some.ensures in
    (hex c.in-Some.n, taken.1, hex_at-spelled c.args.most c.in-Some.n (omega (arith, c.ranges.most.fits)) taken.0)

pub returns-in-Some-short-clause-read : goal.returns-in-Some-short-clause-read
returns-in-Some-short-clause-read c =
    let taken = c.in-Some-short.ensures in
    let same = rw c.in_default.is at c.eight.ensures in (
      hex c.in-Some-short.n,
      sym same ∙ taken.1,
      hex_at-spelled c.args.most c.in-Some-short.n (omega (arith, c.ranges.most.fits)) taken.0,
    )
