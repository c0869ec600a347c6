use Rattle.std.proofs.Common.{◌+◌, length}
use Rattle.text_driver.proofs.Progress.{Standing}
use Rattle.text_driver.proofs.driving.take_lines.Given as goal

abbrev pub invariant-loop-judge : goal.invariant-loop-judge
invariant-loop-judge g l =
    Standing g.J.Judge.ready g.J.Judge.good (g.R.Read.remaining l.fn.reader) (g.R.Read.remaining l.reader)
    l.fn.output l.output l.source l.fn.judge l.judge l.line

abbrev pub decreases-loop-judge : goal.decreases-loop-judge
decreases-loop-judge g l = length l.source.waiting + l.source.budget
