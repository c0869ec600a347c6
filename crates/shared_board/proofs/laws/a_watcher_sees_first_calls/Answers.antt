use Rattle.shared_board.proofs.Watchers.{sees}
use Rattle.shared_board.proofs.laws.a_watcher_sees_first_calls.Goals as goal

pub returns : goal.returns
returns c = sees
