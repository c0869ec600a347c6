use Rattle.shared_board.proofs.Spread.{each-absorbed}
use Rattle.shared_board.proofs.laws.each_fresh_raise_is_absorbed_once.Goals as goal

pub returns : goal.returns
returns c = each-absorbed
