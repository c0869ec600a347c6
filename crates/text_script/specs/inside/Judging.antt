-- The steps of a replay from line to line, and its output at the end.
use Rattle.std.specs.Prelude.{◌≡◌, ℕ, List, [], ◌++◌, Bool, false, if◌then◌else◌, Option, None, Some, is_some, Result, Ok, Err}
use Rattle.std.specs.Option.{option_map}
use Rattle.std.specs.Io.KnownBytes.{Appends}
use Rattle.synic_board.specs.State.{State, BoardModel}
use Rattle.text_image.specs.Image.{image}
use Rattle.text_lines.specs.Items.{Item}
use Rattle.text_driver.specs.declared.driving.End.{End}
use Rattle.text_driver.specs.Judging.{Puts}
use Rattle.text_driver.specs.declared.driving.End.TheVariants as ends
use Rattle.text_driver.specs.declared.judge.Taken.{Taken}
use Rattle.text_driver.specs.declared.judge.Taken.TheVariants as taken
use Rattle.text_script.specs.Script.{item_in, item_fault, line_fault}
use Rattle.text_script.specs.Output.{Machine, machine_after, answer, fault_text}
use Rattle.text_lines.specs.declared.fault.ScriptFault.{ScriptFault}
use Rattle.text_lines.specs.declared.fault.ScriptFault.TheVariants as faults
use Rattle.text_script.specs.declared.stream.ReplayEnd.{ReplayEnd}
use Rattle.text_script.specs.declared.stream.ReplayEnd.TheVariants.{Done, Script, Memory, Reading, Writing}

-- the fault to write when reading ends so, given whether the board is open; or the end with nothing written
abbrev pub conclusion : End ScriptFault → Bool → Result (Option (ℕ × ScriptFault)) ReplayEnd
conclusion (ends.Last line) opened = Ok (if opened then None else Some (line, faults.First))
conclusion (ends.Wrong line fault) opened = Ok (Some (line, fault))
conclusion (ends.Long line) opened = Ok (Some (line, faults.Long))
conclusion (ends.Cut line) opened = Ok (Some (line, faults.Cut))
conclusion ends.Memory opened = Err Memory
conclusion ends.Reading opened = Err Reading
conclusion ends.Writing opened = Err Writing

-- the fault's line was written, if there is a fault, or a part of it
abbrev pub Finishes : ReplayEnd → Option (ℕ × ScriptFault) → Option (List ℕ) → Option (List ℕ) → Type 0
Finishes Done fault w0 w1 = (fault ≡ None) × Appends w0 w1 []
Finishes (Script l f) fault w0 w1 = (fault ≡ Some (l, f)) × Appends w0 w1 (fault_text fault)
Finishes Memory fault w0 w1 = w1 ≡ w0
Finishes Reading fault w0 w1 = ⊥
Finishes Writing fault w0 w1 = (sent rest : List ℕ) × Appends w0 w1 sent × (fault_text fault ≡ sent ++ rest)

-- the fault was reported, or nothing more was written
abbrev pub Concludes : Result (Option (ℕ × ScriptFault)) ReplayEnd → ReplayEnd → Option (List ℕ) → Option (List ℕ)
    → Type 0
Concludes (Ok fault) result w0 w1 = Finishes result fault w0 w1
Concludes (Err end) result w0 w1 = (result ≡ end) × (w1 ≡ w0)

-- the image of a state was written, or a prefix of it
abbrev pub SavesImage : ReplayEnd → State → Option (List ℕ) → Option (List ℕ) → Type 0
SavesImage Done s w0 w1 = Appends w0 w1 (image s)
SavesImage (Script l f) s w0 w1 = ⊥
SavesImage Memory s w0 w1 = ⊥
SavesImage Reading s w0 w1 = ⊥
SavesImage Writing s w0 w1 = (sent rest : List ℕ) × Appends w0 w1 sent × (image s ≡ sent ++ rest)

-- a save after a drive: the image if each line was good, otherwise the fault
abbrev pub SavesEnd : End ScriptFault → Machine → ReplayEnd → Option (List ℕ) → Option (List ℕ) → Type 0
SavesEnd (ends.Last line) (Some s) result w0 w1 = SavesImage result s w0 w1
SavesEnd end machine result w0 w1 = Concludes (conclusion end false) result w0 w1

-- the state of an open board
abbrev pub machine_of : Option BoardModel → Machine
machine_of board = option_map (λ h. h.state) board

abbrev pub after_maybe : Machine → Option Item → Machine
after_maybe machine None = machine
after_maybe machine (Some item) = machine_after machine item

abbrev pub answer_maybe : Machine → Option Item → List ℕ
answer_maybe machine None = []
answer_maybe machine (Some item) = answer machine item

-- an item was valid at its place, or it has a fault
abbrev pub PassesItem : Taken ScriptFault → Option Item → Machine → Machine → Type 0
PassesItem taken.Good item old new = (item_fault (is_some old) item ≡ None) × (new ≡ after_maybe old item)
PassesItem (taken.Wrong fault) item old new = item_fault (is_some old) item ≡ Some fault
PassesItem taken.Memory item old new = Unit {0}

-- the same, and the answer to a valid item is ready
abbrev pub AnswersItem : Taken ScriptFault → Option Item → Machine → Machine → List ℕ → Type 0
AnswersItem taken.Good item old new out = PassesItem taken.Good item old new × (out ≡ answer_maybe old item)
AnswersItem result item old new out = PassesItem result item old new

-- the same, and the answer was put
abbrev pub PutsAnswer : Taken ScriptFault → Option Item → Machine → Machine → List ℕ → List ℕ → Type 0
PutsAnswer result item old new before after =
    PassesItem result item old new × Puts result (answer_maybe old item) before after

-- a line without a fault leads to another state
abbrev pub Advances : Machine → List ℕ → Machine → Type 0
Advances old line new = (line_fault (is_some old) line ≡ None) × (new ≡ after_maybe old (item_in line))

-- the same, with this answer
abbrev pub IsAnswered : Machine → List ℕ → List ℕ → Machine → Type 0
IsAnswered old line out new = Advances old line new × (out ≡ answer_maybe old (item_in line))

-- a line with this fault
abbrev pub IsFaulty : Machine → List ℕ → ScriptFault → Type 0
IsFaulty machine line fault = line_fault (is_some machine) line ≡ Some fault
