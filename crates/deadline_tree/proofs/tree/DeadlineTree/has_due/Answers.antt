use Rattle.std.proofs.Common.{◌≡◌, ◌*◌, false, nat_lt, sym, ap, ◌∙◌, arith}
use Rattle.std.proofs.lemmas.Bool.Decides.{nat_tests}
use Rattle.deadline_tree.specs.Deadlines.{TreeModel, has_due}
use Rattle.deadline_tree.specs.inside.Table.{tree_in}
use Rattle.deadline_tree.proofs.Processors.{past-processors}
use Rattle.deadline_tree.proofs.tree.DeadlineTree.has_due.Goals as goal

pub returns-else-processor-count : goal.returns-else-processor-count
returns-else-processor-count c =
    let t = tree_in c.self.inside.table in
    let seen = ap (λ (d : TreeModel). d.dues) c.self.view_is in
    let past = c.if-processor-count.false in
    let fails : nat_lt (4 * c.number-processor.result) c.count.result ≡ false = grind (arith, nat_tests) in
    fails ∙ sym (past-processors t c.args.moment c.args.vp
    (omega (arith, past, c.count.ensures, c.number-processor.ensures.value)))
    ∙ ap (λ m. has_due m c.args.moment c.args.vp) seen
