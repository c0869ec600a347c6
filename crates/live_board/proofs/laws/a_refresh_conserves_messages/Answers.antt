use Rattle.live_board.proofs.Guests.{refresh-conserves}
use Rattle.live_board.proofs.laws.a_refresh_conserves_messages.Goals as goal

pub returns : goal.returns
returns c = refresh-conserves
