use Rattle.synic_board.proofs.keeping.Buffers.{buffers-run}
use Rattle.synic_board.proofs.keeping.Few.{bound-step}
use Rattle.synic_board.proofs.keeping.Settled.{settled-run}
use Rattle.law_board.proofs.Runs.{sound-from, conserves-from}
use Rattle.law_board.proofs.a_sound_board_stays_sound.Goals as goal

pub returns-clause-sound : goal.returns-clause-sound
returns-clause-sound c = sound-from

pub returns-clause-buffers : goal.returns-clause-buffers
returns-clause-buffers c = buffers-run

pub returns-clause-settled : goal.returns-clause-settled
returns-clause-settled c = settled-run

pub returns-clause-conserves : goal.returns-clause-conserves
returns-clause-conserves c = conserves-from

pub returns-clause-bound : goal.returns-clause-bound
returns-clause-bound c s events event h = bound-step _ event (buffers-run s events h)
