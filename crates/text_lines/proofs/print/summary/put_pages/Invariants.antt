use Rattle.std.proofs.Common.{◌≡◌, ◌++◌, drop}
use Rattle.text_lines.specs.Printing.{numbered, page_lines, text_of}
use Rattle.text_lines.proofs.print.summary.put_pages.Given as goal

abbrev pub invariant-loop-page : goal.invariant-loop-page
invariant-loop-page g l =
    g.S.Sink.text l.out ++ text_of (numbered page_lines l.page (drop l.page l.summary.values.owners))
    ≡ g.S.Sink.text l.fn.out ++ text_of (numbered page_lines 0 l.summary.values.owners)
