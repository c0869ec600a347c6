use Rattle.std.proofs.Common.{◌≡◌}
use Rattle.bench_shared.proofs.watched.poll.Given as goal

abbrev pub invariant-loop : goal.invariant-loop
invariant-loop g l = (l.watcher.of ≡ l.words) × (l.watcher.word ≡ 0)
