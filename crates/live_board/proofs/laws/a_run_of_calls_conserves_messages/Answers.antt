use Rattle.live_board.proofs.Runs.{run-conserves}
use Rattle.live_board.proofs.laws.a_run_of_calls_conserves_messages.Goals as goal

pub returns : goal.returns
returns c = run-conserves
