use Rattle.std.proofs.Common.{◌≡◌, sym, ap, ◌∙◌, arith}
use Rattle.std.proofs.lemmas.Grind.{get_or_default_zero}
use Rattle.board_terms.specs.Dues.{least}
use Rattle.deadline_tree.specs.inside.Table.{tree_in, node, dues}
use Rattle.deadline_tree.proofs.Whole.{root-none, all-later, by-number}
use Rattle.deadline_tree.proofs.table.Table.first_late.Goals as goal

pub returns-then-index : goal.returns-then-index
returns-then-index c =
    let t = (tree_in c.args.self.now) in
    let is : c.index.result.now ≡ node t 1 =
    c.index.ensures ∙ get_or_default_zero t.nodes 1 c.index.result.now
    (omega (arith, c.requires.sound.tree.nodes, c.requires.sound.tree.some)) in
    root-none t c.requires.sound (omega (arith, is, c.if-index.true))

pub returns-in-Some : goal.returns-in-Some
returns-in-Some c =
    let t = (tree_in c.args.self.now) in
    by-number (dues t) c.in-Some.first.0 c.number.result c.in-Some.first.1 c.number.ensures.value
    (ap least (sym (all-later t c.requires.sound c.requires.late)) ∙ sym c.least_after.ensures ∙ c.in-Some.is)

pub returns-in-None : goal.returns-in-None
returns-in-None c =
    let t = (tree_in c.args.self.now) in
    ap least (sym (all-later t c.requires.sound c.requires.late)) ∙ sym c.least_after.ensures ∙ c.in-None.is
