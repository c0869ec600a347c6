use Rattle.live_board.proofs.Guests.{look-changes}
use Rattle.live_board.proofs.laws.a_look_changes_only_pages.Goals as goal

pub returns : goal.returns
returns c = look-changes
