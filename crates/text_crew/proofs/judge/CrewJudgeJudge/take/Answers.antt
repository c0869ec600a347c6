use Rattle.std.proofs.Common.{◌≡◌, ℕ, List, [], Option, Ok, Err, refl}
use Rattle.text_driver.specs.Judging.{Judges}
use Rattle.text_driver.specs.declared.judge.Taken.{Taken}
use Rattle.text_driver.specs.declared.judge.Taken.TheVariants as taken
use Rattle.text_driver.proofs.Silent.{silent}
use Rattle.text_lines.specs.declared.fault.ScriptFault.{ScriptFault}
use Rattle.text_crew.specs.Crew.{Crew}
use Rattle.text_crew.specs.Reading.{parse_line}
use Rattle.text_crew.specs.inside.View.{optional_crew, IsLineResult}
use Rattle.text_crew.specs.declared.judge.CrewJudge.{CrewJudge}
use Rattle.text_crew.proofs.judge.CrewJudgeJudge.take.Goals as goal

abbrev seen : CrewJudge → Option Crew
seen judge = optional_crew judge.script

abbrev good : Option Crew → List ℕ → List ℕ → Option Crew → Type 0
good old line answer new = (answer ≡ []) × (parse_line old line ≡ Ok new)

abbrev wrong : Option Crew → List ℕ → ScriptFault → Type 0
wrong old line fault = parse_line old line ≡ Err fault

judged : (result : Taken ScriptFault) (old new : Option Crew) (line : List ℕ)
    → IsLineResult result (parse_line old line) new → Judges good wrong result old new line []
judged taken.Good old new line h = (refl, h)
judged (taken.Wrong fault) old new line h = h
judged taken.Memory old new line h = tt

pub returns-clause-taken : goal.returns-clause-taken
returns-clause-taken g c =
    silent seen good wrong c.read_line.result _ _ c.args.line.now (g.S.Sink.text c.args._out.now)
    (judged c.read_line.result _ _ c.args.line.now c.read_line.ensures)
