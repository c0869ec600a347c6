-- The abstract view of the tree's fields, and their invariant.
use Rattle.deadline_tree.specs.Deadlines.{TreeModel}
use Rattle.deadline_tree.specs.inside.Table.{tree_in, dues, IsSound}
use Rattle.deadline_tree.specs.declared.tree.DeadlineTree.TheInside.{Inside}

abbrev pub tree_of : Inside → TreeModel
tree_of a = record { dues = dues (tree_in a.table); compared = a.comparer.total.number }

pub record TreeInvariant (a : Inside) : Type 0 where
  pub table : IsSound (tree_in a.table)
