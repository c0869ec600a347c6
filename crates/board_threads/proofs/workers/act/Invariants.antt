use Rattle.std.proofs.Common.{◌≡◌, take}
use Rattle.board_threads.proofs.Following.{GoesOn}
use Rattle.board_threads.proofs.workers.act.Given as goal

abbrev pub invariant-loop-step : goal.invariant-loop-step
invariant-loop-step g l = GoesOn (take l.step-index l.script) l.initial.actor l.actor × (l.call ≡ l.step-index)
