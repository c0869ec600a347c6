use Rattle.deadline_tree.proofs.Leasts.{finds-least}
use Rattle.deadline_tree.proofs.laws.the_first_is_the_least.Goals as goal

pub returns : goal.returns
returns c = finds-least
