use Rattle.live_board.proofs.Shadowed.{quiet-live}
use Rattle.live_board.proofs.laws.an_event_without_accesses_is_live.Goals as goal

pub returns : goal.returns
returns c = quiet-live
