use Rattle.std.proofs.Common.{ℕ, set, refl, ap, ◌∙◌}
use Rattle.std.specs.Prelude.{Some}
use Rattle.deadline_tree.specs.inside.Table.{Tree, tree_in, dues, due_from, late_word}
use Rattle.deadline_tree.proofs.Edits.{late-here, stored-set}
use Rattle.deadline_tree.proofs.table.Table.set_late.Goals as goal

-- the deadline is stored, and the word not yet
abbrev stored : Tree → ℕ → ℕ → Tree
stored t n due = record { nodes = t.nodes; lates = set t.lates n due }

pub returns-clause-set : goal.returns-clause-set
returns-clause-set c =
    let t = (tree_in c.args.self.now) in
    let n = c.args.number in
    let now = stored t n c.args.due in
    c.write.ensures.dues ∙ ap
    (λ far. set (dues (stored (tree_in c.args.self.now) c.args.number c.args.due)) c.args.number
    (due_from late_word far))
    (late-here t now n c.args.due c.requires.sound c.requires.number refl refl)
    ∙ stored-set t now n c.args.due c.requires.sound c.requires.number refl refl (Some c.args.due)
