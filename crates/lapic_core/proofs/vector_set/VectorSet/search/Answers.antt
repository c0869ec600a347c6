use Rattle.std.proofs.Common.{arith, refl, ◌-◌}
use Rattle.lapic_core.proofs.Words.{word_greatest, no_greatest}
use Rattle.lapic_core.proofs.vector_set.VectorSet.search.Goals as goal

pub returns-then-word-ne0 : goal.returns-then-word-ne0
returns-then-word-ne0 c =
    word_greatest c.self.inside.words _ (c.loop-at.at - 1) _ c.new.result c.self.view_is c.self.invariant
    (omega arith) (λ k a b. c.loop-at.invariant k (omega arith) b)
    (omega arith) (omega arith) refl c.new.ensures.valid.1 c.new.ensures.value

pub returns : goal.returns
returns c = no_greatest c.self.inside.words _ c.self.view_is (λ k a b. c.loop-at.invariant k (omega arith) b)
