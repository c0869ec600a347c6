use Rattle.std.proofs.Common.{◌≡◌, ◌/◌, ◌%◌, ◌<◌, sym, ap, ◌∙◌, arith}
use Rattle.std.specs.Prelude.{Some}
use Rattle.std.proofs.lemmas.Grind.{get_or_default_zero}
use Rattle.board_terms.specs.Dues.{timer_of}
use Rattle.deadline_tree.specs.inside.Table.{tree_in, node, late_word}
use Rattle.deadline_tree.proofs.Whole.{root-least}
use Rattle.deadline_tree.proofs.table.Table.least.Goals as goal

pub unwrap-timer-requires : goal.unwrap-timer-requires
unwrap-timer-requires c = c.from_number.ensures.valid.1 (omega arith)

pub returns-then-word-lt-LATE_WORD : goal.returns-then-word-lt-LATE_WORD
returns-then-word-lt-LATE_WORD c =
    let t = (tree_in c.args.self.now) in
    let is : c.index-word.result.now ≡ node t 1 =
    c.index-word.ensures ∙ get_or_default_zero t.nodes 1 c.index-word.result.now
    (omega (arith, c.requires.tree.nodes, c.requires.tree.some)) in
    let less : node t 1 < late_word = omega (arith, is, c.if-word-lt-LATE_WORD.true) in
    let timer : c.unwrap-timer.result ≡ timer_of (c.index-word.result.now % 256) =
    rw c.unwrap-timer.ensures at c.from_number.ensures.value in
    (λ i. Some (c.index-word.result.now / 256, timer i)) ∙ ap (λ w. Some (w / 256, timer_of (w % 256))) is
    ∙ sym (root-least t c.requires less)
