use Rattle.std.proofs.Common.{◌+◌}
use Rattle.text_base.proofs.SourceLemmas.{SearchedSoFar}
use Rattle.text_base.proofs.source.Source.next_line.Given as goal

abbrev pub invariant-loop-self : goal.invariant-loop-self
invariant-loop-self g l =
    SearchedSoFar (g.R.Read.remaining l.fn.reader) (g.R.Read.remaining l.reader) l.fn.output l.output l.fn.self l.self

abbrev pub decreases-loop-self : goal.decreases-loop-self
decreases-loop-self g l = 1 + l.self.budget
