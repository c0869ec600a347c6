use Rattle.law_board.proofs.Runs.{sound-run}
use Rattle.law_board.proofs.each_state_is_sound.Goals as goal

pub returns : goal.returns
returns c = sound-run
