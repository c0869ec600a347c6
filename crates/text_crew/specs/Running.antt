-- The output for a crew script.
use Rattle.std.specs.Prelude.{◌≡◌, ℕ, zero, suc, ◌*◌, List, [], ◌++◌, length, Option, None, Some, Result, Ok, Err, IfSome, codes}
use Rattle.std.specs.List.{All, AllZip}
use Rattle.std.specs.Option.{option_map}
use Rattle.std.specs.Io.KnownBytes.{Appends}
use Rattle.synic_board.specs.State.{State, opened, processors}
use Rattle.synic_board.specs.History.{IsLegal}
use Rattle.synic_board.specs.declared.history.Entry.{Entry}
use Rattle.posted_words.specs.declared.line.Raised.{Raised}
use Rattle.board_threads.specs.Crew.{IsCrewHistory, HasEach, logs_of}
use Rattle.actor_calls.specs.Absorbed.{AreAbsorbed}
use Rattle.text_lines.specs.Faults.{fault_text}
use Rattle.text_lines.specs.declared.fault.ScriptFault.{ScriptFault}
use Rattle.text_driver.specs.Driving.{ReadsNear}
use Rattle.text_image.specs.Image.{image}
use Rattle.text_history.specs.Trace.{board_text, format_for, trace, IsTrace}
use Rattle.text_crew.specs.Crew.{Crew, new_crew, finished, entries_of}
use Rattle.text_crew.specs.Reading.{parse_from}
use Rattle.text_crew.specs.declared.running.CrewRun.{CrewRun}
use Rattle.text_crew.specs.declared.running.CrewRun.TheVariants.{Done, Script, Unsettled, NoThread, Reading, Writing}

-- A history of a crew on a board in this state, under any schedule: a run of one thread that has the setup, the
-- actors' scripts and the last absorbs
-- in their places and no other entry, in which each Fresh raise of a line was absorbed once, and after which no bit
-- is set.
pub record IsScriptHistory (crew : Crew) (start : State) (history : List Entry) : Type 0 where
  pub legal : IsLegal start history
  pub crewed : IsCrewHistory crew.processors crew.setup crew.actors history
  pub answers : List (List Raised)
  pub standing : List ℕ
  pub each : AllZip HasEach crew.lines answers
  pub raises : AreAbsorbed (4 * crew.processors) (logs_of crew.lines answers) history standing
  pub clear : All (λ (word : ℕ). word ≡ 0) standing

-- The trace of a history of a crew, in the format for these pages: those in its board line, which a sparse board and an
-- image do not have. It is the trace of a legal history with as many entries as the script has.
pub record IsCrewTrace (pages : Option ℕ) (beginning : List ℕ) (start : State) (crew : Crew)
    (text : List ℕ) : Type 0 where
  pub history : List Entry
  pub is : IsScriptHistory crew start history
  pub written : text ≡ trace (format_for pages history) beginning start history
  pub legal : IsTrace text (entries_of crew)

-- the pages in the board line of a board that holds so many; a sparse board holds none
abbrev pub line_pages : ℕ → Option ℕ
line_pages zero = None
line_pages (suc n) = Some (suc n)

-- of a crew whose script opens its board
abbrev pub IsOpenedTrace : Crew → List ℕ → Type 0
IsOpenedTrace crew =
    IsCrewTrace (line_pages crew.pages) (board_text crew.processors (line_pages crew.pages) crew.first_ticket)
    (opened crew.processors crew.pages crew.first_ticket) crew

-- of a crew on a board in this state: it begins with the image of the state
abbrev pub IsGivenTrace : State → Crew → List ℕ → Type 0
IsGivenTrace s = IsCrewTrace None (image s) s

-- the board of a crew: one in this state, or one that its script opens
abbrev pub IsTraceOn : Option State → Crew → List ℕ → Type 0
IsTraceOn None = IsOpenedTrace
IsTraceOn (Some s) = IsGivenTrace s

-- the crew of that board before its script
abbrev pub crew_on : State → Crew
crew_on s = new_crew (processors s) (length s.pages) s.next_ticket

abbrev pub parse_on : Option State → List ℕ → Result (Option Crew) (ℕ × ScriptFault)
parse_on board = parse_from (option_map crew_on board)

-- The script has no fault, and its crew has this property.
pub record HasCrew (board : Option State) (script : List ℕ) (Property : Crew → Type 0) : Type 0 where
  pub last : Crew
  pub parsed : parse_on board script ≡ Ok (Some last)
  pub has : Property (finished last)

-- the text for a script, by the end of its run
abbrev pub IsOutput : Option State → List ℕ → CrewRun → List ℕ → Type 0
IsOutput board script Done text = HasCrew board script (λ (crew : Crew). IsTraceOn board crew text)
IsOutput board script (Script line fault) text =
    (parse_on board script ≡ Err (line, fault)) × (text ≡ fault_text (Some (line, fault)))
IsOutput board script Unsettled text = HasCrew board script (λ (crew : Crew). text ≡ codes "! settle\n")
IsOutput board script NoThread text = HasCrew board script (λ (crew : Crew). text ≡ [])
IsOutput board script end text = text ≡ []

-- the same, if the contract can see the bytes of the script
abbrev pub IsKnownOutput : Option State → Option (List ℕ) → CrewRun → List ℕ → Type 0
IsKnownOutput board script end text = IfSome script (λ bytes. IsOutput board bytes end text)

-- a part of the text for some end, from its beginning
pub record IsCut (IsText : CrewRun → List ℕ → Type 0) (sent : List ℕ) : Type 0 where
  pub end : CrewRun
  pub unsent : List ℕ
  pub text : IsText end (sent ++ unsent)

-- the text for the end; if a write failed, a part of a text
abbrev pub IsSent : (CrewRun → List ℕ → Type 0) → CrewRun → List ℕ → Type 0
IsSent IsText Writing sent = IsCut IsText sent
IsSent IsText end sent = IsText end sent

-- A run with this end appended what it sent to the contents of its writer.
pub record Writes (IsText : CrewRun → List ℕ → Type 0) (end : CrewRun) (old new : Option (List ℕ)) : Type 0 where
  pub sent : List ℕ
  pub is : IsSent IsText end sent
  pub appended : Appends old new sent

-- the greatest number of bytes read: the byte beyond the limit only if reading ends there
abbrev pub most_read : CrewRun → ℕ
most_read Reading = 1073741825
most_read end = 1073741824

-- after the line of a fault at most one block was read
abbrev pub StopsNear : CrewRun → Option (List ℕ) → Option (List ℕ) → Type 0
StopsNear (Script line fault) r0 r1 = ReadsNear line r0 r1
StopsNear end r0 r1 = Unit {0}
