use Rattle.std.proofs.Common.{arith}
use Rattle.std.specs.FinSet as set
use Rattle.text_lines.specs.Printing.{auto_lines}
use Rattle.text_lines.proofs.PrintLemmas.{numbered-step, numbered-end}
use Rattle.text_lines.proofs.print.summary.put_autos.Goals as goal

pub returns : goal.returns
returns g c =
    numbered-end auto_lines c.loop-number.number c.args.summary.now.values.autos (g.S.Sink.text c.loop-number.out) _
    (omega arith) c.loop-number.invariant

pub loop-number-preserved : goal.loop-number-preserved
loop-number-preserved g c =
    numbered-step auto_lines c.loop-number.number c.args.summary.now.values.autos set.empty
    (g.S.Sink.text c.loop-number.out) (g.S.Sink.text c.put_auto.new.out) _ (omega arith) c.in_ok-put_auto.ensures
    c.loop-number.invariant
