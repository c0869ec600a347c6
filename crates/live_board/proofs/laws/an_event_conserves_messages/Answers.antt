use Rattle.live_board.proofs.Guests.{event-conserves}
use Rattle.live_board.proofs.laws.an_event_conserves_messages.Goals as goal

pub returns : goal.returns
returns c = event-conserves
