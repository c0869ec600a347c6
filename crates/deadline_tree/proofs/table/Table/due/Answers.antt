use Rattle.std.proofs.Common.{◌≡◌, ◌<◌, sym, ap, ◌∙◌, arith}
use Rattle.std.specs.Prelude.{Some}
use Rattle.std.proofs.lemmas.Grind.{get_or_default_zero}
use Rattle.deadline_tree.specs.inside.Table.{tree_in, count, word_of, late_due, late_word, due_from}
use Rattle.deadline_tree.proofs.Edits.{dues_at, dues_past}
use Rattle.deadline_tree.proofs.Whole.{due-early, due-never}
use Rattle.deadline_tree.proofs.table.Table.due.Goals as goal

pub returns-then-number-count : goal.returns-then-number-count
returns-then-number-count c = sym (dues_past (tree_in c.args.self.now) c.args.number (omega arith))

pub returns-then-word-lt-LATE_WORD : goal.returns-then-word-lt-LATE_WORD
returns-then-word-lt-LATE_WORD c =
    let t = (tree_in c.args.self.now) in
    let low : c.args.number < count t = omega arith in
    sym (dues_at t c.args.number low ∙ ap (λ w. due_from w (late_due t c.args.number)) (sym c.word-word.ensures)
    ∙ due-early c.word-word.result (late_due t c.args.number) c.if-word-lt-LATE_WORD.true)

pub returns-then-word : goal.returns-then-word
returns-then-word c =
    let t = (tree_in c.args.self.now) in
    let low : c.args.number < count t = omega arith in
    let is : word_of t c.args.number ≡ late_word = sym c.word-word.ensures ∙ c.if-word.true in
    sym (dues_at t c.args.number low ∙ ap (λ w. due_from w (late_due t c.args.number)) is
    ∙ ap Some (sym (c.index.ensures ∙ get_or_default_zero t.lates c.args.number c.index.result.now low)))

pub returns-else-word : goal.returns-else-word
returns-else-word c =
    let t = (tree_in c.args.self.now) in
    let low : c.args.number < count t = omega arith in
    sym (dues_at t c.args.number low ∙ ap (λ w. due_from w (late_due t c.args.number)) (sym c.word-word.ensures)
    ∙ due-never c.word-word.result (late_due t c.args.number) (omega arith))
