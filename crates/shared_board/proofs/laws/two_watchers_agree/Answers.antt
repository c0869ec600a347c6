use Rattle.shared_board.proofs.Watchers.{agree}
use Rattle.shared_board.proofs.laws.two_watchers_agree.Goals as goal

pub returns : goal.returns
returns c = agree
