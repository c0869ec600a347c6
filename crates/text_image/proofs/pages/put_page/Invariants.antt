use Rattle.std.proofs.Common.{◌≡◌, ◌++◌}
use Rattle.text_lines.specs.Printing.{text_of}
use Rattle.text_image.specs.Image.{each_below, block_lines}
use Rattle.text_image.proofs.pages.put_page.Given as goal

abbrev pub invariant-loop-block : goal.invariant-loop-block
invariant-loop-block g l =
    g.S.Sink.text l.out ≡ g.S.Sink.text l.fn.out ++ text_of (each_below l.block (block_lines l.name l.page))
