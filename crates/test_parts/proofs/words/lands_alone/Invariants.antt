use Rattle.posted_words.specs.Words.{IsOf}
use Rattle.test_parts.proofs.words.lands_alone.Given as goal

abbrev pub invariant-loop-part : goal.invariant-loop-part
invariant-loop-part l = IsOf l.words.name l.line × IsOf l.words.name l.sweeper
