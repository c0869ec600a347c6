-- Parsing the lines of a crew script, and their faults.
use Rattle.std.specs.Prelude.{ℕ, ◌+◌, List, [], ◌∷◌, ◌++◌, Bool, true, false, if◌then◌else◌, nat_lt, length, Option, None, Some, Result, Ok, Err, codes}
use Rattle.std.specs.Option.{option_and_then}
use Rattle.std.specs.Str.{bytes_eq}
use Rattle.text_base.specs.Fields.{fields_of}
use Rattle.text_base.specs.Lines.{lines_of, rest_of}
use Rattle.synic_board.specs.declared.event.Event.{Event}
use Rattle.text_lines.specs.Reading.{Fields, take_then, none_left, u8_at, vector_at, parse_event, parse_opening}
use Rattle.text_lines.specs.Sizes.{are_sizes, pages_held}
use Rattle.text_lines.specs.Faults.{is_skipped, rest_fault}
use Rattle.text_lines.specs.declared.fault.ScriptFault.{ScriptFault}
use Rattle.text_lines.specs.declared.fault.ScriptFault.TheVariants as faults
use Rattle.actor_calls.specs.Sweeps.{is_absorb}
use Rattle.board_threads.specs.declared.script.Step.{Step}
use Rattle.board_threads.specs.declared.script.Step.TheVariants.{Act, Sweep}
use Rattle.text_crew.specs.Crew.{Section, InSetup, InActor, InLine, Crew, new_crew, finished, entries}

-- the crew of a script, once its board is open, or a fault
abbrev pub Read : Type 0
Read = Result (Option Crew) ScriptFault

-- An event line of a crew is any event but an absorb, whose bits are what a sweep takes.
abbrev pub no_absorb : Event → Option Event
no_absorb e = if is_absorb e then None else Some e

abbrev pub parse_act : Fields → Option Event
parse_act fields = option_and_then no_absorb (parse_event fields)

-- `absorb <vp> <part>` sweeps a word
abbrev pub parse_sweep : Fields → Option Step
parse_sweep = take_then u8_at (λ vp. take_then u8_at (λ part. none_left (Sweep vp part)))

-- `raise <vp> <vector>`, at a processor of the board
abbrev pub on_board : ℕ → ℕ × ℕ → Option (ℕ × ℕ)
on_board processors raise = if nat_lt raise.0 processors then Some raise else None

abbrev pub parse_raise : ℕ → Fields → Option (ℕ × ℕ)
parse_raise processors fields =
    option_and_then (on_board processors)
    (take_then u8_at (λ vp. take_then vector_at (λ vector. none_left (vp, vector))) fields)

abbrev pub step_of : Event → Option Step
step_of e = Some (Act e)

abbrev pub parse_step : List ℕ → Fields → Option Step
parse_step word fields =
    if bytes_eq word (codes "absorb") then parse_sweep fields else option_and_then step_of (parse_act (word ∷ fields))

abbrev pub parse_line_step : ℕ → List ℕ → Fields → Option (ℕ × ℕ)
parse_line_step processors word fields = if bytes_eq word (codes "raise") then parse_raise processors fields else None

-- one more entry, if it fits into a history
abbrev pub with_entry : Crew → Crew → Read
with_entry crew more = if nat_lt (entries crew) 65536 then Ok (Some more) else Err faults.Many

abbrev pub with_event : Crew → Option Event → Read
with_event crew None = Err faults.Form
with_event crew (Some e) = with_entry crew (record crew { setup = crew.setup ++ e ∷ [] })

abbrev pub with_step : Crew → List Step → Option Step → Read
with_step crew steps None = Err faults.Form
with_step crew steps (Some s) = with_entry crew (record crew { section = InActor (steps ++ s ∷ []) })

abbrev pub with_raise : Crew → List (ℕ × ℕ) → Option (ℕ × ℕ) → Read
with_raise crew raises None = Err faults.Form
with_raise crew raises (Some r) = Ok (Some (record crew { section = InLine (raises ++ r ∷ []) }))

-- a line of the current section
abbrev pub section_line : Section → Crew → List ℕ → Fields → Read
section_line InSetup crew word fields = with_event crew (parse_act (word ∷ fields))
section_line (InActor steps) crew word fields = with_step crew steps (parse_step word fields)
section_line (InLine raises) crew word fields = with_raise crew raises (parse_line_step crew.processors word fields)

-- `actor` begins the script of the next actor, at most 15, and `line` that of the next line, at most 16
abbrev pub with_actor : Crew → Fields → Read
with_actor crew [] =
    if nat_lt (length (finished crew).actors) 15 then Ok (Some (record (finished crew) { section = InActor [] }))
    else Err faults.Many
with_actor crew (field ∷ fields) = Err faults.Form

abbrev pub with_line : Crew → Fields → Read
with_line crew [] =
    if nat_lt (length (finished crew).lines) 16 then Ok (Some (record (finished crew) { section = InLine [] }))
    else Err faults.Many
with_line crew (field ∷ fields) = Err faults.Form

-- the first item opens the board, within the limits
abbrev pub with_board : Option (ℕ × Option ℕ × ℕ) → Read
with_board None = Err faults.First
with_board (Some board) =
    if are_sizes board.0 board.1 then Ok (Some (new_crew board.0 (pages_held board.1) board.2)) else Err faults.Size

abbrev pub parse_first : List ℕ → Fields → Read
parse_first word fields = if bytes_eq word (codes "board") then with_board (parse_opening fields) else Err faults.First

abbrev pub parse_section_line : Crew → List ℕ → Fields → Read
parse_section_line crew word fields =
    if bytes_eq word (codes "actor") then with_actor crew fields
    else if bytes_eq word (codes "line") then with_line crew fields
    else section_line crew.section crew word fields

-- what the fields of a line add
abbrev pub parse_fields : Option Crew → Fields → Read
parse_fields crew [] = Err faults.Form
parse_fields None (word ∷ fields) = parse_first word fields
parse_fields (Some crew) (word ∷ fields) = parse_section_line crew word fields

-- what a whole line adds
abbrev pub parse_line : Option Crew → List ℕ → Read
parse_line crew line =
    if nat_lt 640 (length line) then Err faults.Long
    else if is_skipped line then Ok crew
    else parse_fields crew (fields_of line)

-- the crew of some lines, or the first fault and its line; the lines are counted from k
abbrev pub at_rest : ℕ → Option Crew → Option ScriptFault → Result (Option Crew) (ℕ × ScriptFault)
at_rest k crew None = Ok crew
at_rest k crew (Some fault) = Err (k, fault)

abbrev pub is_open : Option Crew → Bool
is_open None = false
is_open (Some crew) = true

abbrev pub continue_with : ℕ → Read → (Option Crew → Result (Option Crew) (ℕ × ScriptFault))
    → Result (Option Crew) (ℕ × ScriptFault)
continue_with k (Err fault) next = Err (k, fault)
continue_with k (Ok crew) next = next crew

abbrev pub parse_lines : ℕ → Option Crew → List (List ℕ) → List ℕ → Result (Option Crew) (ℕ × ScriptFault)
parse_lines k crew [] rest = at_rest k crew (rest_fault (is_open crew) rest)
parse_lines k crew (line ∷ lines) rest =
    continue_with k (parse_line crew line) (λ (next : Option Crew). parse_lines (k + 1) next lines rest)

-- the crew of a whole script, which begins with this crew, or its first fault
unfoldable pub parse_from : Option Crew → List ℕ → Result (Option Crew) (ℕ × ScriptFault)
parse_from first input = parse_lines 1 first (lines_of input) (rest_of input)
