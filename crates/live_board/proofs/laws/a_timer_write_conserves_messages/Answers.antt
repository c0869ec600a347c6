use Rattle.live_board.proofs.Guests.{timer-conserves}
use Rattle.live_board.proofs.laws.a_timer_write_conserves_messages.Goals as goal

pub returns : goal.returns
returns c = timer-conserves
