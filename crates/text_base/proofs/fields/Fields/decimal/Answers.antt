use Rattle.std.proofs.Common.{decimal, arith}
use Rattle.text_base.proofs.NumberLemmas.{decimal_at-spelled}
use Rattle.text_base.proofs.fields.Fields.decimal.Goals as goal

pub returns-in-Some-clause-read : goal.returns-in-Some-clause-read
returns-in-Some-clause-read c =
    let taken = c.in-Some.ensures in (
      decimal c.in-Some.n,
      taken.1,
      decimal_at-spelled c.args.most c.in-Some.n (omega (arith, c.ranges.most.fits)) taken.0,
    )
