use Rattle.std.proofs.Common.{◌≡◌, ◌+◌, length, take}
use Rattle.std.specs.List.{sum_by}
use Rattle.board_threads.proofs.settling.add_up.Given as goal

abbrev pub invariant-loop-actor : goal.invariant-loop-actor
invariant-loop-actor l = sum_by (λ a. length a.calls.items) (take l.actor-index l.actors) + l.left ≡ l.count
