use Rattle.std.proofs.Common.{Some, Option, ap, sym, refl, subst, ◌∙◌}
use Rattle.synic_board.specs.Effects.{Outcome}
use Rattle.text_base.specs.Fields.{fields_of}
use Rattle.text_lines.specs.Items.{Item}
use Rattle.text_lines.specs.Reading.{parse_event}
use Rattle.text_lines.proofs.ReadLemmas.{event-item}
use Rattle.text_driver.specs.declared.judge.Taken.TheVariants.{Good}
use Rattle.text_script.specs.inside.Judging.{PassesItem}
use Rattle.text_script.proofs.respond.pass_line.Goals as goal

pub returns-in-Some : goal.returns-in-Some
returns-in-Some c =
    let performs = (rw c.in-Some.is at c.perform_event.ensures).1 in
    let item = event-item (fields_of c.args.line.now) performs.0 (ap parse_event (sym c.new.ensures) ∙ performs.1) in
    subst (λ (r : Option Item). PassesItem Good r (Some c.args.board.now.state)
    (Some c.perform_event.new.board.state)) (sym item)
    (refl, ap (λ (o : Outcome). Some o.0) performs.2.step)
