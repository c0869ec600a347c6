-- The abstract view of the fields.
use Rattle.std.specs.Prelude.{◌≡◌, ℕ, List, [], ◌∷◌, ◌++◌, Option, Ok, Err, Vec}
use Rattle.std.specs.Global.{Global}
use Rattle.std.specs.Option.{option_map}
use Rattle.synic_board.specs.State.{State, BoardModel}
use Rattle.text_driver.specs.declared.judge.Taken.{Taken}
use Rattle.text_driver.specs.declared.judge.Taken.TheVariants as taken
use Rattle.text_lines.specs.declared.fault.ScriptFault.{ScriptFault}
use Rattle.board_threads.specs.Crew.{lists}
use Rattle.text_crew.specs.Crew.{Section, InSetup, InActor, InLine, Crew}
use Rattle.text_crew.specs.Reading.{Read}
use Rattle.text_crew.specs.declared.held.Section.{Section as HeldSection}
use Rattle.text_crew.specs.declared.held.Section.TheVariants as held
use Rattle.text_crew.specs.declared.held.CrewScript.{CrewScript}

abbrev pub section_of : HeldSection → Section
section_of held.Setup = InSetup
section_of (held.Actor steps) = InActor steps.items
section_of (held.Line raises) = InLine raises.items

abbrev pub crew_of : CrewScript → Crew
crew_of s = record {
  processors = s.setup.processors;
  pages = s.setup.pages;
  first_ticket = s.setup.first_ticket;
  setup = s.setup.events.items;
  actors = lists s.scripts.actors.items;
  lines = lists s.scripts.lines.items;
  section = section_of s.section;
}

-- the state of a board that is given
abbrev pub state_in : Option BoardModel → Option State
state_in board = option_map (λ (b : BoardModel). b.state) board

abbrev pub optional_crew : Option CrewScript → Option Crew
optional_crew script = option_map crew_of script

-- the bytes of an image
abbrev pub image_in : Option (Vec ℕ Global) → Option (List ℕ)
image_in image = option_map (λ (bytes : Vec ℕ Global). bytes.items) image

-- a line was good and added this, or it has a fault
abbrev pub IsLineResult : Taken ScriptFault → Read → Option Crew → Type 0
IsLineResult taken.Good read new = read ≡ Ok new
IsLineResult (taken.Wrong fault) read new = read ≡ Err fault
IsLineResult taken.Memory read new = Unit {0}

-- an item was appended
abbrev pub Appends : {A : Type 0} → Taken ScriptFault → List A → List A → A → Type 0
Appends taken.Good old new item = new ≡ old ++ item ∷ []
Appends (taken.Wrong fault) old new item = ⊥
Appends taken.Memory old new item = Unit {0}
