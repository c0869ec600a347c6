use Rattle.law_board.proofs.Needed.{may-join}
use Rattle.law_board.proofs.a_refused_message_fits_no_sound_board.Goals as goal

pub returns : goal.returns
returns c s p i m below under before sound buffers = may-join s p i m below under before sound buffers
