use Rattle.std.proofs.Common.{◌≡◌, ◌≤◌, length, sym, ap, ◌∙◌, arith}
use Rattle.std.specs.Prelude.{Some}
use Rattle.std.proofs.lemmas.List.{set_past}
use Rattle.board_terms.specs.Dues.{number_of}
use Rattle.deadline_tree.specs.Deadlines.{TreeModel, levels}
use Rattle.deadline_tree.specs.inside.Table.{tree_in, count}
use Rattle.deadline_tree.proofs.Edits.{length-dues}
use Rattle.deadline_tree.proofs.tree.DeadlineTree.set.Goals as goal

pub returns-then-number-count-clause-compared : goal.returns-then-number-count-clause-compared
returns-then-number-count-clause-compared c =
    let many : count (tree_in c.self.inside.table) ≡ length c.args.self.now.dues =
    sym (length-dues (tree_in c.self.inside.table)) ∙ ap (λ (m : TreeModel). length m.dues) c.self.view_is in
    let before = ap (λ (m : TreeModel). m.compared) c.self.view_is in
    omega (arith, c.set.ensures.compared, ap levels many, before)

pub returns-else-number-count-clause-set : goal.returns-else-number-count-clause-set
returns-else-number-count-clause-set c =
    let seen = ap (λ (d : TreeModel). d.dues) c.self.view_is in
    let many = length-dues (tree_in c.self.inside.table) in
    let past : length c.args.self.now.dues ≤ number_of c.args.timer =
    omega (arith, ap length seen, many, c.count.ensures, c.if-number-count.false, c.number-number.ensures.value) in
    sym (set_past c.args.self.now.dues (number_of c.args.timer) (Some c.args.due) past)
