use Rattle.std.proofs.Common.{arith}
use Rattle.text_lines.specs.Printing.{next_lines}
use Rattle.text_lines.proofs.PrintLemmas.{numbered-end}
use Rattle.text_lines.proofs.print.summary.put_nexts.Goals as goal

pub returns : goal.returns
returns g c =
    numbered-end next_lines c.loop-number.number c.args.summary.now.values.nexts (g.S.Sink.text c.loop-number.out) _
    (omega arith) c.loop-number.invariant
