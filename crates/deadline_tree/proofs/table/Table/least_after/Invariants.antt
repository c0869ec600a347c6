use Rattle.std.specs.Prelude.{◌≡◌}
use Rattle.board_terms.specs.Dues.{least_below, later_than}
use Rattle.deadline_tree.specs.inside.Table.{tree_in, dues}
use Rattle.deadline_tree.proofs.table.Table.least_after.Given as goal

abbrev pub invariant-loop-at : goal.invariant-loop-at
invariant-loop-at l = l.first ≡ least_below (later_than l.moment (dues (tree_in l.self))) l.at
