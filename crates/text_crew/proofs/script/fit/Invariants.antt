use Rattle.std.proofs.Common.{◌≡◌, ◌+◌, take, vec_len}
use Rattle.std.specs.List.{sum_by}
use Rattle.text_crew.proofs.script.fit.Given as goal

abbrev pub invariant-loop-script : goal.invariant-loop-script
invariant-loop-script l = sum_by (λ s. vec_len s) (take l.script-index l.scripts) + l.left ≡ l.room
