use Rattle.posted_words.specs.Words.{IsOf}
use Rattle.test_parts.proofs.words.strays.Given as goal

abbrev pub invariant-loop-number : goal.invariant-loop-number
invariant-loop-number l = IsOf l.words.name l.line × IsOf l.words.name l.sweeper
