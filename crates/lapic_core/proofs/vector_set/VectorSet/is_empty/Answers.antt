use Rattle.std.proofs.Common.{arith}
use Rattle.std.proofs.lemmas.Bool.Decides.{Decides-eqb}
use Rattle.lapic_core.proofs.Words.{no_greatest, or_zero, both_zero}
use Rattle.lapic_core.proofs.vector_set.VectorSet.is_empty.Goals as goal

pub returns-then-self-eq0 : goal.returns-then-self-eq0
returns-then-self-eq0 c = (
  λ empty. no_greatest c.self.inside.words _ c.self.view_is
      (or_zero c.self.inside.words c.if-self-eq0.true ((Decides-eqb _ _).0 empty)),
  λ none. (Decides-eqb _ _).1
      (both_zero c.self.inside.words _ 0 2 c.self.view_is (omega arith) (omega arith) (omega arith) (omega arith) none),
)

pub returns-else-self-eq0 : goal.returns-else-self-eq0
returns-else-self-eq0 c = (
  λ empty. absurd (c.if-self-eq0.false ((Decides-eqb _ _).0 empty)),
  λ none. absurd (c.if-self-eq0.false
      (both_zero c.self.inside.words _ 1 3 c.self.view_is (omega arith) (omega arith) (omega arith)
      (omega arith) none)),
)
