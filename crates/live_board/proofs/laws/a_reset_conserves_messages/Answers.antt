use Rattle.live_board.proofs.Guests.{reset-conserves}
use Rattle.live_board.proofs.laws.a_reset_conserves_messages.Goals as goal

pub returns : goal.returns
returns c = reset-conserves
