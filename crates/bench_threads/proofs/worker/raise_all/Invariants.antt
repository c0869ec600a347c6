use Rattle.bench_threads.specs.Own.{IsOwnActor, IsOwnLine}
use Rattle.bench_threads.proofs.worker.raise_all.Given as goal

abbrev pub invariant-loop-turn : goal.invariant-loop-turn
invariant-loop-turn g l = IsOwnActor l.board l.actor × IsOwnLine l.board l.line
