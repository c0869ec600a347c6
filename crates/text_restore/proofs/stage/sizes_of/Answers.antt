use Rattle.std.proofs.Common.{ℕ, Option, Some, sym, ap, ◌∙◌}
use Rattle.text_lines.specs.Items.{Opening}
use Rattle.text_restore.proofs.Openings.{item, no-word, other-word, no-sizes, no-pages}
use Rattle.text_restore.proofs.stage.sizes_of.Goals as goal

pub returns-in_default-clause-none : goal.returns-in_default-clause-none
returns-in_default-clause-none c = λ e. no-word c.args.line.now (sym c.new-fields.ensures ∙ c.in_default.ensures.0)

pub returns-then-not-is_word-clause-none : goal.returns-then-not-is_word-clause-none
returns-then-not-is_word-clause-none c =
    λ e. other-word c.args.line.now c.in-Some.word.now c.next.new.self (sym c.new-fields.ensures ∙ c.in-Some.ensures)
    (sym c.is_word.ensures ∙ c.if-not-is_word.true)

pub returns-in_default-opening_of-clause-none : goal.returns-in_default-opening_of-clause-none
returns-in_default-opening_of-clause-none c =
    λ e. no-sizes c.args.line.now c.in-Some.word.now c.next.new.self (sym c.new-fields.ensures ∙ c.in-Some.ensures)
    (sym c.in_default-opening_of.ensures)

pub returns-in_default-pages-clause-none : goal.returns-in_default-pages-clause-none
returns-in_default-pages-clause-none c = λ e.
    let line = c.args.line.now in
    let sizes = c.in-Some-opening_of in
    let is = item line c.in-Some.word.now c.next.new.self sizes.processors sizes.pages sizes.ticket
    (sym c.new-fields.ensures ∙ c.in-Some.ensures) (sym c.is_word.ensures ∙ c.if-not-is_word.false)
    (sym sizes.ensures) in
    no-pages line sizes.processors sizes.ticket
    (is ∙ ap (λ (p : Option ℕ). Some (Opening sizes.processors p sizes.ticket)) c.in_default-pages.is)

pub returns-clause-some : goal.returns-clause-some
returns-clause-some c =
    let sizes = c.in-Some-opening_of in
    let is = item c.args.line.now c.in-Some.word.now c.next.new.self sizes.processors sizes.pages sizes.ticket
    (sym c.new-fields.ensures ∙ c.in-Some.ensures)
    (sym c.is_word.ensures ∙ c.if-not-is_word.false) (sym sizes.ensures) in
    is ∙ ap (λ (p : Option ℕ). Some (Opening sizes.processors p sizes.ticket)) c.in-Some-pages.is
