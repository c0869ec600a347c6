use Rattle.std.proofs.Common.{◌≡◌, [], Option, None, Some, Ok, refl, sym, ap, subst, ◌∙◌}
use Rattle.std.specs.Io.KnownBytes.{Appends}
use Rattle.text_driver.specs.declared.driving.End.TheVariants as ends
use Rattle.text_lines.specs.declared.fault.ScriptFault.TheVariants as faults
use Rattle.text_crew.specs.Crew.{Crew, finished}
use Rattle.text_crew.specs.Running.{parse_on}
use Rattle.text_crew.specs.inside.Good.{IsGoodOn}
use Rattle.text_crew.specs.inside.View.{crew_of, optional_crew, state_in}
use Rattle.text_crew.specs.inside.Reporting.{Refusal}
use Rattle.text_crew.specs.declared.judge.CrewJudge.{CrewJudge}
use Rattle.text_crew.specs.declared.running.CrewRun.TheVariants.{Memory}
use Rattle.text_crew.proofs.Limits.{within, fault-near}
use Rattle.text_crew.proofs.Good.{AllGood, all-good, first-good}
use Rattle.text_crew.proofs.Reading.{nothing-sent, optional_crew-for, no-board, wrong, long, cut}
use Rattle.text_crew.proofs.Tracing.{known, spoken, tells-refusal, none-sent}
use Rattle.text_crew.proofs.running.read_script.Goals as goal

abbrev seen : CrewJudge → Option Crew
seen judge = optional_crew judge.script

pub returns-in-Some-clause-whole : goal.returns-in-Some-clause-whole
returns-in-Some-clause-whole g c =
    let d = c.in-Last.ensures.lines in
    let board = state_in c.args.board.now in
    let last = crew_of c.in-Some.script in
    let here : seen c.drive.new.judge ≡ Some last = ap optional_crew c.in-Some.is in
    let begins = subst (AllGood board) (sym c.on.ensures.value) (first-good board c.on.ensures.bound) in
    let good : IsGoodOn board (finished last) =
    subst (AllGood board) (ap seen (sym d.read.ends.1) ∙ ap optional_crew c.in-Some.is)
    (all-good board seen _ d.read.state d.read.lines _ begins d.read.follows) in
    let silent = subst (Appends _ _)
    (sym d.sends ∙ nothing-sent seen _ _ _ c.on.ensures.value (ends.Last c.in-Last.line) _ _ d.read) d.writes in
    rw c.in-Some.is (record {
      read = known _ _ (λ input. parse_on board input ≡ Ok (Some last))
          (λ input p. optional_crew-for seen _ _ _ c.on.ensures.value c.in-Last.line d.answers input last here p)
          d.whole;
      good = good;
      silent = silent;
    })

pub returns-in-None-clause-text : goal.returns-in-None-clause-text
returns-in-None-clause-text g c =
    let d = c.in-Last.ensures.lines in
    let here : seen c.drive.new.judge ≡ None = ap optional_crew c.in-None.is in
    let first = subst (Appends _ _)
    (sym d.sends ∙ nothing-sent seen _ _ _ c.on.ensures.value (ends.Last c.in-Last.line) _ _ d.read) d.writes in
    spoken (state_in c.args.board.now) (Refusal c.in-Last.line faults.First) _ _ _ _ _
    (λ input p. tells-refusal (state_in c.args.board.now) c.in-Last.line faults.First input
    (no-board seen _ _ _ c.on.ensures.value c.in-Last.line d.answers input here p)) d.whole first _ c.refuse.ensures

pub returns-in-Wrong-clause-text : goal.returns-in-Wrong-clause-text
returns-in-Wrong-clause-text g c =
    let d = c.in-Wrong.ensures.lines in
    let line = c.in-Wrong.line in
    let fault = c.in-Wrong.fault in
    let first = subst (Appends _ _)
    (sym d.sends ∙ nothing-sent seen _ _ _ c.on.ensures.value (ends.Wrong line fault) _ _ d.read) d.writes in
    spoken (state_in c.args.board.now) (Refusal line fault) _ _ _ _ _
    (λ input p. tells-refusal (state_in c.args.board.now) line fault input
    (wrong seen _ _ _ c.on.ensures.value line fault d.answers input p)) d.whole first _ c.refuse-in-Wrong.ensures

pub returns-in-None-clause-limit : goal.returns-in-None-clause-limit
returns-in-None-clause-limit g c =
    within _ (Refusal c.in-Last.line faults.First) _ _ _ _ (λ _ none. none) c.refuse.ensures c.in-Last.ensures.limit

pub returns-in-None-clause-near : goal.returns-in-None-clause-near
returns-in-None-clause-near g c = fault-near _ _ _ _ _ _ _ c.refuse.ensures c.in-Last.ensures.near

pub returns-in-Wrong-clause-limit : goal.returns-in-Wrong-clause-limit
returns-in-Wrong-clause-limit g c =
    within _ (Refusal c.in-Wrong.line c.in-Wrong.fault) _ _ _ _
    (λ _ none. none) c.refuse-in-Wrong.ensures c.in-Wrong.ensures.limit

pub returns-in-Wrong-clause-near : goal.returns-in-Wrong-clause-near
returns-in-Wrong-clause-near g c = fault-near _ _ _ _ _ _ _ c.refuse-in-Wrong.ensures c.in-Wrong.ensures.near

pub returns-in-Long-clause-limit : goal.returns-in-Long-clause-limit
returns-in-Long-clause-limit g c =
    within _ (Refusal c.in-Long.line faults.Long) _ _ _ _
    (λ _ none. none) c.refuse-in-Long.ensures c.in-Long.ensures.limit

pub returns-in-Long-clause-near : goal.returns-in-Long-clause-near
returns-in-Long-clause-near g c = fault-near _ _ _ _ _ _ _ c.refuse-in-Long.ensures c.in-Long.ensures.near

pub returns-in-Cut-clause-limit : goal.returns-in-Cut-clause-limit
returns-in-Cut-clause-limit g c =
    within _ (Refusal c.in-Cut.line faults.Cut) _ _ _ _ (λ _ none. none) c.refuse-in-Cut.ensures c.in-Cut.ensures.limit

pub returns-in-Cut-clause-near : goal.returns-in-Cut-clause-near
returns-in-Cut-clause-near g c = fault-near _ _ _ _ _ _ _ c.refuse-in-Cut.ensures c.in-Cut.ensures.near

pub returns-in-Long-clause-text : goal.returns-in-Long-clause-text
returns-in-Long-clause-text g c =
    let d = c.in-Long.ensures.lines in
    let line = c.in-Long.line in
    let first = subst (Appends _ _)
    (sym d.sends ∙ nothing-sent seen _ _ _ c.on.ensures.value (ends.Long line) _ _ d.read) d.writes in
    spoken (state_in c.args.board.now) (Refusal line faults.Long) _ _ _ _ _
    (λ input p. tells-refusal (state_in c.args.board.now) line faults.Long input
    (long seen _ _ _ c.on.ensures.value line d.answers input p)) d.whole first _ c.refuse-in-Long.ensures

pub returns-in-Cut-clause-text : goal.returns-in-Cut-clause-text
returns-in-Cut-clause-text g c =
    let d = c.in-Cut.ensures.lines in
    let line = c.in-Cut.line in
    let first = subst (Appends _ _)
    (sym d.sends ∙ nothing-sent seen _ _ _ c.on.ensures.value (ends.Cut line) _ _ d.read) d.writes in
    spoken (state_in c.args.board.now) (Refusal line faults.Cut) _ _ _ _ _
    (λ input p. tells-refusal (state_in c.args.board.now) line faults.Cut input
    (cut seen _ _ _ c.on.ensures.value line d.answers input p)) d.whole first _ c.refuse-in-Cut.ensures

pub returns-in-Memory-clause-text : goal.returns-in-Memory-clause-text
returns-in-Memory-clause-text g c =
    let d = c.in-Memory.ensures.lines in
    let none = sym d.sends ∙ nothing-sent seen _ _ _ c.on.ensures.value ends.Memory _ _ d.read in
    record { sent = d.sent; is = known _ _ (λ _. d.sent ≡ []) (λ _ _. none) d.whole; appended = d.writes }

pub returns-in-Reading-clause-text : goal.returns-in-Reading-clause-text
returns-in-Reading-clause-text g c =
    let d = c.in-Reading.ensures.lines in
    let none = sym d.sends ∙ nothing-sent seen _ _ _ c.on.ensures.value ends.Reading _ _ d.read in
    record { sent = d.sent; is = known _ _ (λ _. d.sent ≡ []) (λ _ _. none) d.whole; appended = d.writes }

pub returns-in-Writing-clause-text : goal.returns-in-Writing-clause-text
returns-in-Writing-clause-text g c =
    let d = c.in-Writing.ensures.lines in
    let none = none-sent d.sent d.sends.0
    (sym d.sends.1 ∙ nothing-sent seen _ _ _ c.on.ensures.value ends.Writing _ _ d.read) in
    record {
      sent = [];
      is = record {
        end = Memory;
        unsent = [];
        text = known _ _ (λ _. [] ≡ []) (λ _ _. refl) d.whole;
      };
      appended = subst (Appends _ _) none d.writes;
    }
