use Rattle.std.proofs.Common.{◌≡◌, ◌<◌, ◌≤◌, ℕ, List}
use Rattle.deadline_tree.specs.declared.table.Table.{Table}
use Rattle.deadline_tree.specs.inside.Table.{Tree, tree_in, node, dues}
use Rattle.deadline_tree.specs.inside.Climbs.{IsClimbing}
use Rattle.deadline_tree.proofs.Levels.{IsHalved}
use Rattle.deadline_tree.proofs.table.Table.climb.Given as goal

-- the table with these words
abbrev pub with_nodes : Table → List ℕ → Tree
with_nodes t nodes = record { nodes = nodes; lates = t.lates.items }

abbrev pub invariant-loop-node : goal.invariant-loop-node
invariant-loop-node l = record {
  climbing : IsClimbing (with_nodes l.fn.self l.nodes) l.node;
  first : l.first ≡ node (with_nodes l.fn.self l.nodes) l.node;
  low : 0 < l.node;
  high : l.node ≤ l.leaf;
  dues : dues (with_nodes l.fn.self l.nodes) ≡ dues (tree_in l.fn.self);
  halved : IsHalved l.leaf l.node l.fn.comparer.total.number l.comparer.total.number;
}

abbrev pub decreases-loop-node : goal.decreases-loop-node
decreases-loop-node l = l.node
