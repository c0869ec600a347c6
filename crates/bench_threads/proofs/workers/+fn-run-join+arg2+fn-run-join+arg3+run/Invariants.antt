use Rattle.std.proofs.Common.{vec_len, ◌*◌, ◌+◌}
use Rattle.bench_threads.proofs.workers.+fn-run-join+arg2+fn-run-join+arg3+run.Given as goal

abbrev pub decreases-join+arg2 : goal.decreases-join+arg2
decreases-join+arg2 g l = 2 * vec_len l.workers + 1

abbrev pub decreases-join+arg3 : goal.decreases-join+arg3
decreases-join+arg3 g l = 2 * vec_len l.others + 1

abbrev pub decreases-run : goal.decreases-run
decreases-run g l = 2 * vec_len l.workers
