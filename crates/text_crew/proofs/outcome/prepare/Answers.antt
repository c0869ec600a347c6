use Rattle.std.proofs.Common.{ℕ, List, [], Err, ap, ◌∙◌, subst}
use Rattle.std.proofs.lemmas.Bool.{both_ways}
use Rattle.board_threads.specs.Crew.{lists}
use Rattle.board_threads.specs.Judging.{has_bad_step}
use Rattle.text_crew.specs.inside.View.{crew_of, image_in, state_in}
use Rattle.text_crew.specs.inside.Tracing.{IsTraced, begun_pages, begun_text}
use Rattle.text_crew.specs.Running.{IsScriptHistory}
use Rattle.text_crew.proofs.Judged.{script-sized, none-bad, begun-count}
use Rattle.text_crew.proofs.Traced.{begun}
use Rattle.text_crew.proofs.outcome.prepare.Goals as goal

pub outcome_of-requires-clause-size : goal.outcome_of-requires-clause-size
outcome_of-requires-clause-size g c =
    let s = c.args.script.now in
    let board = state_in c.args.board in
    let sizes = script-sized board s c.requires.good in
    let count = begun-count board (image_in c.in-Some.begun.image) s c.in-Some.begun.board.state c.requires.good
    c.in-Some.ensures in
    λ bad. c.run_crew_on.ensures.size.0 (c.in-Err.is ∙ ap Err bad) (record { board = count; sizes = sizes })

pub outcome_of-requires-clause-step : goal.outcome_of-requires-clause-step
outcome_of-requires-clause-step g c =
    let s = c.args.script.now in
    let none = none-bad (state_in c.args.board) s c.requires.good in
    λ bad. both_ways (has_bad_step s.setup s.scripts) none (c.run_crew_on.ensures.step.0 (c.in-Err.is ∙ ap Err bad)).1

pub returns-in-Ok : goal.returns-in-Ok
returns-in-Ok g c =
    let s = c.args.script.now in
    let e = c.in-Ok.ensures.ended in
    let ended = c.in-Ok.end.ended in
    let out = c.put_ended.new.out.items in
    let image = image_in c.in-Some.begun.image in
    let b = c.in-Some.begun.board.state in
    let is : IsScriptHistory (crew_of s) b ended.history.items = record {
      legal = e.settled.legal;
      crewed = e.crewed;
      answers = lists c.in-Ok.end.raised.items;
      standing = ended.standing;
      each = e.each;
      raises = e.raises;
      clear = e.clear;
    } in
    let was : IsTraced (begun_pages image s.setup.pages) (begun_text image s.setup) c.put_ended.result ended [] out =
    subst (λ (old : List ℕ). IsTraced (begun_pages image s.setup.pages) (begun_text image s.setup) c.put_ended.result
    ended old out) c.requires.empty c.put_ended.ensures in
    begun (state_in c.args.board) image s b c.put_ended.result ended out c.requires.good c.in-Some.ensures
    is e.settled.leads was
