use Rattle.std.proofs.Common.{set, refl, ap, ◌∙◌}
use Rattle.deadline_tree.specs.inside.Table.{tree_in}
use Rattle.deadline_tree.proofs.Edits.{dues-written, written-climbing}
use Rattle.deadline_tree.proofs.table.Table.write.Goals as goal

pub climb-requires-clause-climbing : goal.climb-requires-clause-climbing
climb-requires-clause-climbing c = rw c.leaf-leaf.ensures
    (written-climbing (tree_in c.args.self.now) _ c.args.number c.args.word c.requires.sound.tree c.requires.number
    refl refl c.requires.sound.ordered c.requires.word)

pub returns-clause-dues : goal.returns-clause-dues
returns-clause-dues c =
    c.climb.ensures.dues ∙ dues-written
    (tree_in c.args.self.now) _ c.args.number c.args.word c.requires.sound.tree c.requires.number
    (ap (λ j. set (tree_in c.args.self.now).nodes j c.args.word) c.leaf-leaf.ensures) refl
