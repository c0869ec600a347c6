use Rattle.std.proofs.Common.{◌≡◌, ℕ, List, Ok, Some}
use Rattle.text_crew.specs.Crew.{finished}
use Rattle.text_crew.specs.Running.{parse_on}
use Rattle.text_crew.specs.inside.View.{crew_of, state_in}
use Rattle.text_crew.specs.inside.Reporting.{Report}
use Rattle.text_crew.proofs.Limits.{within, run-near}
use Rattle.text_crew.proofs.Tracing.{spoken, tells-report}
use Rattle.text_crew.proofs.running.run_script.Goals as goal

pub run-requires-clause-good : goal.run-requires-clause-good
run-requires-clause-good g c = λ κs lives. c.in-Ok.ensures.whole.good

pub returns-in-Ok : goal.returns-in-Ok
returns-in-Ok g c =
    let board = state_in c.args.board in
    let last = crew_of c.in-Ok.script in
    let told = Report board (finished last) in
    let whole = c.in-Ok.ensures.whole in
    record {
      text = spoken board told _ _ _ _ (λ (input : List ℕ). parse_on board input ≡ Ok (Some last))
          (λ input p. tells-report board last input p) whole.read whole.silent c.run.result c.run.ensures;
      limit = within c.run.result told _ _ _ _ (λ _ none. none) c.run.ensures c.in-Ok.ensures.limit;
      near = run-near board c.run.result (finished last) _ _ _ _ c.run.ensures;
    }
