use Rattle.live_board.proofs.Guests.{look-conserves}
use Rattle.live_board.proofs.laws.a_look_conserves_messages.Goals as goal

pub returns : goal.returns
returns c = look-conserves
