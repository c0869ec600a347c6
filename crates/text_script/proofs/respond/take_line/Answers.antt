use Rattle.std.proofs.Common.{◌++◌, Some, Option, List, ℕ, ap, sym, refl, subst, ◌∙◌, rules}
use Rattle.board_terms.specs.declared.notices.Notice.{Notice}
use Rattle.synic_board.specs.Effects.{Outcome}
use Rattle.text_lines.specs.Items.{Item}
use Rattle.text_base.specs.Fields.{fields_of}
use Rattle.text_lines.specs.Reading.{parse_event}
use Rattle.text_lines.proofs.ReadLemmas.{event-item}
use Rattle.text_lines.proofs.PerformLemmas.{as-it-is}
use Rattle.text_script.specs.Output.{outcome_text}
use Rattle.text_script.specs.inside.Judging.{PutsAnswer}
use Rattle.text_driver.specs.declared.judge.Taken.TheVariants.{Good}
use Rattle.text_script.proofs.respond.take_line.Goals as goal

pub returns : goal.returns
returns g c =
    let as-is = as-it-is _ (λ reply made post. search rules) c.perform_event-performed.result _ _ _ _
    c.perform_event-performed.ensures in
    let performs = rw c.in-Some.is at as-is in
    let event = performs.0 in
    let is = performs.2.step in
    let s = c.perform_event-performed.new.board.state in
    let item = event-item (fields_of c.args.line.now) event (ap parse_event (sym c.new.ensures) ∙ performs.1) in
    let told = ap (λ (ns : List Notice). outcome_text (s, c.in-Some.reply, ns)) c.as_slice.ensures.value
    ∙ ap (λ (o : Outcome). outcome_text o) is in
    let before = g.S.Sink.text c.args.out.now in
    let written = c.in_ok-put_outcome.ensures ∙ ap (λ (text : List ℕ). before ++ text) told in
    subst (λ (r : Option Item). PutsAnswer Good r (Some c.args.board.now.state) (Some s) before
    (g.S.Sink.text c.put_outcome.new.out)) (sym item)
    ((refl, ap (λ (o : Outcome). Some o.0) is), written)
