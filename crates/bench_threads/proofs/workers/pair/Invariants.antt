use Rattle.std.proofs.Common.{All}
use Rattle.bench_threads.specs.Own.{IsOwn, IsOwnLine}
use Rattle.bench_threads.proofs.workers.pair.Given as goal

abbrev pub invariant-loop-actor : goal.invariant-loop-actor
invariant-loop-actor l = All (IsOwnLine l.board) l.lines.items × All (IsOwn l.board) l.workers.items
