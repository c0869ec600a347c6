use Rattle.std.proofs.Common.{◌≡◌, false, take}
use Rattle.std.specs.List.{list_any}
use Rattle.board_threads.specs.Judging.{is_bad_script}
use Rattle.board_threads.proofs.script.any_is_bad.Given as goal

abbrev pub invariant-loop-script : goal.invariant-loop-script
invariant-loop-script l = list_any is_bad_script (take l.script-index l.scripts) ≡ false
