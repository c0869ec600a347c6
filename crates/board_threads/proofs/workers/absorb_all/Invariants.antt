use Rattle.std.proofs.Common.{◌≡◌, ◌++◌, List, map}
use Rattle.std.specs.List.{range_with_len}
use Rattle.actor_calls.specs.Calls.{Call}
use Rattle.board_threads.specs.Crew.{AreSteps, last_step}
use Rattle.board_threads.proofs.workers.absorb_all.Given as goal

abbrev pub invariant-loop-place : goal.invariant-loop-place
invariant-loop-place g l =
    (l.actor.of ≡ l.initial.actor.of) × (l.actor.number ≡ l.initial.actor.number) × (more : List Call)
    × (l.actor.calls ≡ l.initial.actor.calls ++ more)
    × AreSteps (map last_step (range_with_len 0 l.place)) more
