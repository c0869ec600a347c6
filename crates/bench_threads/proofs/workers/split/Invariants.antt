use Rattle.std.proofs.Common.{All}
use Rattle.bench_threads.specs.Own.{IsOwnActor, IsOwnLine}
use Rattle.bench_threads.proofs.workers.split.Given as goal

abbrev pub invariant-loop-actor : goal.invariant-loop-actor
invariant-loop-actor l = All (IsOwnActor l.board) l.actors.items × All (IsOwnLine l.board) l.lines.items
