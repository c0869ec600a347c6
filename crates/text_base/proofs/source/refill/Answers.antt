use Rattle.std.proofs.Common.{◌≡◌, ◌≤◌, ◌-◌, take, length, arith, sym}
use Rattle.text_base.proofs.SourceLemmas.{refill-bytes}
use Rattle.text_base.proofs.source.refill.Goals as goal

pub returns-in-Ok-clause-bytes : goal.returns-in-Ok-clause-bytes
returns-in-Ok-clause-bytes g c =
    let e = c.in-Ok.ensures in
    let f = c.copy_within.ensures in
    let held = c.args.end - c.args.at in
    let long : length c.read.new.buf ≡ c.args.room = omega (arith, c.read.auto.buf) in
    let bound : c.in-Ok.n ≤ c.args.room = omega (arith, e.bound.0) in (
      take c.in-Ok.n c.read.new.buf,
      e.bytes.0,
      (
        sym e.bound.1,
        bound,
        (λ zero some. e.bytes.1 zero (omega (arith, long))),
        rw f.after (refill-bytes c.args.bytes.now c.read.new.buf c.args.at c.args.end c.args.room c.in-Ok.n
            c.requires.range c.requires.within c.requires.fits long bound),
      ),
    )
