use Rattle.bench_threads.specs.Own.{IsOwnActor}
use Rattle.bench_threads.proofs.worker.perform_calls.Given as goal

abbrev pub invariant-loop-turn : goal.invariant-loop-turn
invariant-loop-turn g l = IsOwnActor l.board l.actor
