use Rattle.std.proofs.Common.{◌≡◌}
use Rattle.test_shared.proofs.watching.poll.Given as goal

abbrev pub invariant-loop : goal.invariant-loop
invariant-loop l = (l.watcher.of ≡ l.words) × (l.watcher.word ≡ l.fn.watcher.word)
