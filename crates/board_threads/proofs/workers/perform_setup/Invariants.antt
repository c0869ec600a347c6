use Rattle.std.proofs.Common.{take}
use Rattle.board_threads.specs.Crew.{acts}
use Rattle.board_threads.proofs.Following.{GoesOn}
use Rattle.board_threads.proofs.workers.perform_setup.Given as goal

abbrev pub invariant-loop-event : goal.invariant-loop-event
invariant-loop-event g l = GoesOn (acts (take l.event-index l.events)) l.initial.actor l.actor
