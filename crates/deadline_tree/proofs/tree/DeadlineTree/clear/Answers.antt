use Rattle.std.proofs.Common.{◌≡◌, ◌≤◌, length, sym, ap, ◌∙◌, set, arith}
use Rattle.std.specs.Prelude.{None}
use Rattle.std.proofs.lemmas.List.{set_past}
use Rattle.board_terms.specs.Dues.{number_of}
use Rattle.deadline_tree.specs.Deadlines.{TreeModel, levels}
use Rattle.deadline_tree.specs.inside.Table.{tree_in, count}
use Rattle.deadline_tree.proofs.Edits.{length-dues}
use Rattle.deadline_tree.proofs.Whole.{cleared-same}
use Rattle.deadline_tree.proofs.tree.DeadlineTree.clear.Goals as goal
use Rattle.deadline_tree.proofs.tree.DeadlineTree.clear.Goals.{else-number-count-via-then-number-count+else-is_set, else-number-count-via-else-number-count}

pub returns-then-is_set-clause-compared : goal.returns-then-is_set-clause-compared
returns-then-is_set-clause-compared c =
    let many : count (tree_in c.self.inside.table) ≡ length c.args.self.now.dues =
    sym (length-dues (tree_in c.self.inside.table)) ∙ ap (λ (m : TreeModel). length m.dues) c.self.view_is in
    let before = ap (λ (m : TreeModel). m.compared) c.self.view_is in
    omega (arith, c.clear.ensures.compared, ap levels many, before)

pub returns-else-number-count-clause-set : goal.returns-else-number-count-clause-set
returns-else-number-count-clause-set c =
    let number = c.number-number.ensures in
    let seen = ap (λ (d : TreeModel). d.dues) c.self.view_is in
    elim c.else-number-count.branch as
    (λ _. c.args.self.now.dues ≡ set c.args.self.now.dues (number_of c.args.timer) None) [
      | else-number-count-via-then-number-count+else-is_set w ↦
          sym seen ∙ sym (cleared-same (tree_in c.self.inside.table) c.number-number.result
          (omega (arith, w.if-number-count.true, c.count.ensures)) (sym w.is_set.ensures ∙ w.if-is_set.false))
          ∙ (λ i. set (seen i) (number.value i) None)
      | else-number-count-via-else-number-count w ↦
          let many = length-dues (tree_in c.self.inside.table) in
          let past : length c.args.self.now.dues ≤ number_of c.args.timer =
          omega (arith, ap length seen, many, c.count.ensures, w.if-number-count.false, number.value) in
          sym (set_past c.args.self.now.dues (number_of c.args.timer) None past)
    ]
