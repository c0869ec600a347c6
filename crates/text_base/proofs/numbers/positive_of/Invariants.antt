use Rattle.text_base.proofs.NumberLemmas.{SoFar}
use Rattle.text_base.proofs.numbers.positive_of.Given as goal

abbrev pub invariant-loop-c : goal.invariant-loop-c
invariant-loop-c l = SoFar l.base l.text l.c-index l.n
