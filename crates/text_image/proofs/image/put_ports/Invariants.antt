use Rattle.std.proofs.Common.{◌≡◌, ◌++◌}
use Rattle.text_lines.specs.Printing.{text_of}
use Rattle.text_image.specs.Image.{each_below, port_lines}
use Rattle.text_image.proofs.image.put_ports.Given as goal

abbrev pub invariant-loop-number : goal.invariant-loop-number
invariant-loop-number g l =
    g.S.Sink.text l.out ≡ g.S.Sink.text l.fn.out ++ text_of (each_below l.number (port_lines l.board.state))
