use Rattle.live_board.proofs.Covering.{hides_only}
use Rattle.live_board.proofs.laws.a_write_hides_only_what_was_refreshed.Goals as goal

pub returns : goal.returns
returns c = hides_only
