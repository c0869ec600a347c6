use Rattle.live_board.proofs.Guests.{refresh-changes}
use Rattle.live_board.proofs.laws.a_refresh_changes_only_pages.Goals as goal

pub returns : goal.returns
returns c = refresh-changes
