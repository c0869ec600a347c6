use Rattle.deadline_tree.proofs.Whole.{fresh-dues}
use Rattle.deadline_tree.proofs.table.Table.open.Goals as goal

pub returns-clause-dues : goal.returns-clause-dues
returns-clause-dues c =
    fresh-dues _ c.args.processors c.requires.some c.requires.bound
    (c.in_ok-nodes.ensures.items_if_clones_equal (λ y e. e)) (c.in_ok-lates.ensures.items_if_clones_equal (λ y e. e))
