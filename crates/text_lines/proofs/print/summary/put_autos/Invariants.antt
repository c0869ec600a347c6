use Rattle.std.proofs.Common.{◌≡◌, ◌++◌, drop}
use Rattle.text_lines.specs.Printing.{numbered, auto_lines, text_of}
use Rattle.text_lines.proofs.print.summary.put_autos.Given as goal

abbrev pub invariant-loop-number : goal.invariant-loop-number
invariant-loop-number g l =
    g.S.Sink.text l.out ++ text_of (numbered auto_lines l.number (drop l.number l.summary.values.autos))
    ≡ g.S.Sink.text l.fn.out ++ text_of (numbered auto_lines 0 l.summary.values.autos)
