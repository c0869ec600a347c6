use Rattle.std.proofs.Common.{◌++◌, length-append, ap, arith}
use Rattle.std.proofs.KnownBytes.{Consumes-trans}
use Rattle.text_base.proofs.source.Source.next_line.Goals as goal

pub returns-in-ReadFailed-clause-found : goal.returns-in-ReadFailed-clause-found
returns-in-ReadFailed-clause-found g c =
    let h = c.loop-self.invariant in
    let t = c.in-ReadFailed.ensures.filled in (
      h.came ++ t.0,
      Consumes-trans _ _ _ _ _ h.reads t.1,
      omega (arith, length-append h.came t.0, h.grows.1, t.2.1, ap (λ s. s.budget) c.in-Short.ensures.2),
    )
