use Rattle.posted_words.specs.Words.{IsOf}
use Rattle.test_parts.proofs.words.raise_at_each_place.Given as goal

abbrev pub invariant-loop-place : goal.invariant-loop-place
invariant-loop-place l = IsOf l.words.name l.line
