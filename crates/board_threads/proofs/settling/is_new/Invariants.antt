use Rattle.std.proofs.Common.{◌≢◌, All, take}
use Rattle.board_threads.proofs.settling.is_new.Given as goal

abbrev pub invariant-loop-actor : goal.invariant-loop-actor
invariant-loop-actor l = All (λ b. b.number ≢ l.number) (take l.actor-index l.actors)
