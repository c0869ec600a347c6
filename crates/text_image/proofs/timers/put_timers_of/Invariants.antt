use Rattle.std.proofs.Common.{◌≡◌, ◌++◌}
use Rattle.text_lines.specs.Printing.{text_of}
use Rattle.text_image.specs.Image.{each_below, timer_lines}
use Rattle.text_image.proofs.timers.put_timers_of.Given as goal

abbrev pub invariant-loop-index : goal.invariant-loop-index
invariant-loop-index g l =
    g.S.Sink.text l.out ≡ g.S.Sink.text l.fn.out ++ text_of (each_below l.index (timer_lines l.board.state l.vp))
