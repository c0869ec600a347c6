use Rattle.std.proofs.Common.{◌≡◌, All, take}
use Rattle.actor_calls.specs.Calls.{calls_by}
use Rattle.board_threads.proofs.settling.all_match.Given as goal

abbrev pub invariant-loop-actor : goal.invariant-loop-actor
invariant-loop-actor l = All (λ a. calls_by a.number l.history ≡ a.calls.items) (take l.actor-index l.actors)
