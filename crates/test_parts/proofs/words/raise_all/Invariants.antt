use Rattle.posted_words.specs.Words.{IsOf}
use Rattle.test_parts.proofs.words.raise_all.Given as goal

abbrev pub invariant-loop-number : goal.invariant-loop-number
invariant-loop-number l = IsOf l.words.name l.line

abbrev pub invariant-loop-vp : goal.invariant-loop-vp
invariant-loop-vp l = IsOf l.words.name l.line
