use Rattle.std.proofs.Common.{Bool, None, Option, ap, cond, refl, subst, sym, ◌∙◌, rules}
use Rattle.synic_board.specs.declared.event.Event.{Event}
use Rattle.text_lines.specs.Performing.{PerformsLine}
use Rattle.text_lines.proofs.PerformLemmas.{as-it-is}
use Rattle.text_lines.specs.Reading.{first_read, u8_at, parse_event}
use Rattle.text_trace.proofs.Written.{entry-after}
use Rattle.text_trace.proofs.stage.perform_entry.Goals as goal

pub returns-then-not-has_fields : goal.returns-then-not-has_fields
returns-then-not-has_fields c =
    let more = c.u8_of.new.fields in
    let read = ap (first_read u8_at) (sym c.new-fields.ensures) ∙ c.in_ok-u8_of.ensures in
    let is = entry-after c.args.format c.args.line.now c.in_ok-u8_of.field-0 more read in
    (is ∙ ap (λ (t : Bool). cond t (parse_event more) None) (sym c.has_fields.ensures ∙ c.if-not-has_fields.true), refl)

pub returns : goal.returns
returns c =
    let more = c.u8_of.new.fields in
    let read = ap (first_read u8_at) (sym c.new-fields.ensures) ∙ c.in_ok-u8_of.ensures in
    let is = entry-after c.args.format c.args.line.now c.in_ok-u8_of.field-0 more read in
    let has = is ∙ ap (λ (t : Bool). cond t (parse_event more) None)
    (sym c.has_fields.ensures ∙ c.if-not-has_fields.false) in
    let performs =
    as-it-is _ (λ reply made post. search rules) c.perform_event.result _ _ _ _ c.perform_event.ensures in
    subst (λ (o : Option Event). PerformsLine c.perform_event.result o c.args.board.now c.perform_event.new.board
    c.perform_event.new.notices) (sym has) performs
