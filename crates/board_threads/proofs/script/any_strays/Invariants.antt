use Rattle.std.proofs.Common.{◌≡◌, false, take}
use Rattle.std.specs.List.{list_any}
use Rattle.board_threads.specs.Judging.{is_bad_line}
use Rattle.board_threads.proofs.script.any_strays.Given as goal

abbrev pub invariant-loop-script : goal.invariant-loop-script
invariant-loop-script l = list_any (is_bad_line l.processors) (take l.script-index l.scripts) ≡ false
