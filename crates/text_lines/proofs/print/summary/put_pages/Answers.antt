use Rattle.std.proofs.Common.{arith}
use Rattle.text_lines.specs.Printing.{page_lines}
use Rattle.text_lines.proofs.PrintLemmas.{numbered-end}
use Rattle.text_lines.proofs.print.summary.put_pages.Goals as goal

pub returns : goal.returns
returns g c =
    numbered-end page_lines c.loop-page.page c.args.summary.now.values.owners (g.S.Sink.text c.loop-page.out) _
    (omega arith) c.loop-page.invariant
