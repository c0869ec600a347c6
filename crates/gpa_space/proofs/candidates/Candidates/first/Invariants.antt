use Rattle.gpa_space.proofs.Searched.{IsSearched}
use Rattle.gpa_space.proofs.candidates.Candidates.first.Given as goal

abbrev pub invariant-loop-left : goal.invariant-loop-left
invariant-loop-left l = IsSearched l.registers l.page l.left

abbrev pub decreases-loop-left : goal.decreases-loop-left
decreases-loop-left l = l.left
