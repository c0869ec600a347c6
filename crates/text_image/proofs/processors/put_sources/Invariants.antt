use Rattle.std.proofs.Common.{◌≡◌, ◌++◌}
use Rattle.text_lines.specs.Printing.{text_of}
use Rattle.text_image.specs.Image.{each_below, source_lines}
use Rattle.text_image.proofs.processors.put_sources.Given as goal

abbrev pub invariant-loop-number : goal.invariant-loop-number
invariant-loop-number g l =
    g.S.Sink.text l.out ≡ g.S.Sink.text l.fn.out ++ text_of (each_below l.number (source_lines l.board.state l.vp))
