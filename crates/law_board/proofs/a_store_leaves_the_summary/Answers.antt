use Rattle.law_board.proofs.Leaving.{leaves-summary}
use Rattle.law_board.proofs.a_store_leaves_the_summary.Goals as goal

pub returns : goal.returns
returns c = leaves-summary
