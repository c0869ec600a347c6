use Rattle.posted_words.specs.Words.{IsOf}
use Rattle.test_parts.proofs.words.sweep_all.Given as goal

abbrev pub invariant-loop-part : goal.invariant-loop-part
invariant-loop-part l = IsOf l.words.name l.sweeper

abbrev pub invariant-loop-vp : goal.invariant-loop-vp
invariant-loop-vp l = IsOf l.words.name l.sweeper

abbrev pub invariant-loop : goal.invariant-loop
invariant-loop l = IsOf l.words.name l.sweeper
