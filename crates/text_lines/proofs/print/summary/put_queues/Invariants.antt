use Rattle.std.proofs.Common.{◌≡◌, ◌++◌, drop}
use Rattle.text_lines.specs.Printing.{numbered, queue_lines, text_of}
use Rattle.text_lines.proofs.print.summary.put_queues.Given as goal

abbrev pub invariant-loop-place : goal.invariant-loop-place
invariant-loop-place g l =
    g.S.Sink.text l.out ++ text_of (numbered queue_lines l.place (drop l.place l.summary.values.queued))
    ≡ g.S.Sink.text l.fn.out ++ text_of (numbered queue_lines 0 l.summary.values.queued)
