use Rattle.std.proofs.Common.{◌≡◌, ◌++◌, take, drop}
use Rattle.std.specs.List.{All}
use Rattle.text_lines.specs.Printing.{text_of}
use Rattle.text_history.specs.declared.format.Format.TheVariants.{Three}
use Rattle.text_history.specs.Trace.{IsEntry, history_lines}
use Rattle.text_history.proofs.print.put_history.Given as goal

abbrev pub invariant-loop-entry : goal.invariant-loop-entry
invariant-loop-entry l =
    (l.out.items ++ text_of (history_lines (drop l.entry-index l.history))
    ≡ l.fn.out.items ++ text_of (history_lines l.history))
    × All (IsEntry Three) (take l.entry-index l.history)
