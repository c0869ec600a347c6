use Rattle.live_board.proofs.Runs.{run-explained}
use Rattle.live_board.proofs.laws.a_run_of_calls_is_one_of_the_model.Goals as goal

pub returns : goal.returns
returns c = run-explained
