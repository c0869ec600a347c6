-- The output of a run: the line of a fault, or the report of a crew.
use Rattle.std.specs.Prelude.{◌≡◌, ℕ, List, [], Option, Some, Result, Ok, Err, IfSome, codes}
use Rattle.std.specs.Io.KnownBytes.{Appends}
use Rattle.synic_board.specs.State.{State}
use Rattle.text_lines.specs.Faults.{fault_text}
use Rattle.text_lines.specs.declared.fault.ScriptFault.{ScriptFault}
use Rattle.text_crew.specs.Crew.{Crew, finished}
use Rattle.text_crew.specs.Running.{IsTraceOn, most_read, parse_on}
use Rattle.text_crew.specs.inside.Good.{IsGoodOn}
use Rattle.text_crew.specs.declared.held.CrewScript.{CrewScript}
use Rattle.text_crew.specs.declared.outcome.Outcome.{Outcome}
use Rattle.text_crew.specs.declared.outcome.Outcome.TheVariants as outcomes
use Rattle.text_crew.specs.declared.running.CrewRun.{CrewRun}
use Rattle.text_crew.specs.declared.running.CrewRun.TheVariants.{Done, Script, Unsettled, Memory, NoThread}

-- the text if a line has a fault
abbrev pub Refusal : ℕ → ScriptFault → CrewRun → List ℕ → Type 0
Refusal line fault (Script l f) text = (l ≡ line) × (f ≡ fault) × (text ≡ fault_text (Some (line, fault)))
Refusal line fault Memory text = text ≡ []
Refusal line fault end text = ⊥

-- the text for a crew
abbrev pub Report : Option State → Crew → CrewRun → List ℕ → Type 0
Report board crew Done text = IsTraceOn board crew text
Report board crew Unsettled text = text ≡ codes "! settle\n"
Report board crew NoThread text = text ≡ []
Report board crew Memory text = text ≡ []
Report board crew end text = ⊥

-- the crew was run, and its trace is ready
abbrev pub Prepares : Option State → Outcome → Crew → List ℕ → Type 0
Prepares board outcomes.Done crew text = Report board crew Done text
Prepares board outcome crew text = Unit {0}

-- The whole of a script without a fault was read, and nothing was written: its crew may run.
pub record IsWhole (board : Option State) (crew : Crew) (script old new : Option (List ℕ)) : Type 0 where
  pub read : IfSome script (λ bytes. parse_on board bytes ≡ Ok (Some crew))
  pub good : IsGoodOn board (finished crew)
  pub silent : Appends old new []

-- the greatest number of bytes that are read of a script
abbrev pub most_taken : Result CrewScript CrewRun → ℕ
most_taken (Ok script) = 1073741824
most_taken (Err end) = most_read end
