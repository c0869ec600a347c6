use Rattle.std.proofs.Common.{◌≡◌, ◌≤◌, length, take}
use Rattle.actor_calls.specs.Calls.{calls_by}
use Rattle.board_threads.proofs.settling.matches.Given as goal

abbrev pub invariant-loop-entry : goal.invariant-loop-entry
invariant-loop-entry l =
    (l.next ≤ length l.calls) × (calls_by l.actor.number (take l.entry-index l.history) ≡ take l.next l.calls)
