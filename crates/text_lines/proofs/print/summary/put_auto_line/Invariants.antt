use Rattle.std.proofs.Common.{◌≡◌, ◌++◌, slice_index_or}
use Rattle.std.specs.FinSet as set
use Rattle.text_lines.specs.Printing.{below}
use Rattle.text_lines.specs.inside.Autos.{auto_text, is_some_vector}
use Rattle.text_lines.proofs.print.summary.put_auto_line.Given as goal

abbrev pub invariant-loop-above : goal.invariant-loop-above
invariant-loop-above g l =
    let found =
    below l.above (slice_index_or l.summary.values.autos l.vp set.empty) in
    (g.S.Sink.text l.out ≡ g.S.Sink.text l.fn.out ++ auto_text l.vp found) × (l.any ≡ is_some_vector found)
