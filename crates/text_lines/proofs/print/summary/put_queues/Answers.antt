use Rattle.std.proofs.Common.{arith}
use Rattle.text_lines.specs.Printing.{queue_lines}
use Rattle.text_lines.proofs.PrintLemmas.{numbered-end}
use Rattle.text_lines.proofs.print.summary.put_queues.Goals as goal

pub returns : goal.returns
returns g c =
    numbered-end queue_lines c.loop-place.place c.args.summary.now.values.queued (g.S.Sink.text c.loop-place.out) _
    (omega arith) c.loop-place.invariant
