use Rattle.live_board.proofs.Guests.{tick-conserves}
use Rattle.live_board.proofs.laws.a_tick_conserves_messages.Goals as goal

pub returns : goal.returns
returns c = tick-conserves
