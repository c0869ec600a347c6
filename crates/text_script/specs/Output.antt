-- The output of a script: the machine's answers to its good lines, and then its first fault. What is saved of it: the
-- machine's image at the end.
use Rattle.std.specs.Prelude.{ℕ, List, [], ◌∷◌, ◌++◌, map, Bool, false, Option, None, Some, is_some}
use Rattle.std.specs.Option.{option_map_or}
use Rattle.text_base.specs.Lines.{lines_of, rest_of}
use Rattle.synic_board.specs.State.{State}
use Rattle.synic_board.specs.Summaries.{summary_of}
use Rattle.synic_board.specs.Effects.{Outcome}
use Rattle.synic_board.specs.Step.{step}
pub use Rattle.text_lines.specs.Faults.{fault_word, fault_line, fault_text}
use Rattle.text_lines.specs.Items.{Item, Opening, Performs, Summary}
use Rattle.text_lines.specs.Printing.{text_of, reply_fields, notice_fields, summary_lines}
use Rattle.text_lines.specs.Sizes.{opened_by}
use Rattle.text_image.specs.Image.{image}
use Rattle.text_script.specs.Script.{first_fault, good_items}
use Rattle.text_lines.specs.declared.fault.ScriptFault.{ScriptFault}

-- the state of the machine, once it is open
abbrev pub Machine : Type 0
Machine = Option State

abbrev pub machine_after : Machine → Item → Machine
machine_after machine (Opening processors pages ticket) = Some (opened_by processors pages ticket)
machine_after None (Performs event) = None
machine_after (Some s) (Performs event) = Some (step s event).0
machine_after machine Summary = machine

-- the reply, and then a line for each notice
abbrev pub outcome_text : Outcome → List ℕ
outcome_text outcome = text_of (reply_fields outcome.1 ∷ map notice_fields outcome.2)

abbrev pub answer : Machine → Item → List ℕ
answer machine (Opening processors pages ticket) = []
answer None (Performs event) = []
answer (Some s) (Performs event) = outcome_text (step s event)
answer None Summary = []
answer (Some s) Summary = text_of (summary_lines (summary_of s))

-- the machine's answers to a list of items
abbrev pub answers : Machine → List Item → List ℕ
answers machine [] = []
answers machine (item ∷ items) = answer machine item ++ answers (machine_after machine item) items

-- the output of whole lines, starting in a state
abbrev pub output_from : Machine → List (List ℕ) → List ℕ
output_from machine lines = answers machine (good_items (is_some machine) lines)

-- the output before the fault's line, starting in a state
unfoldable pub output_on : Machine → List ℕ → List ℕ
output_on machine input = output_from machine (lines_of input)

-- the first fault of an input, given whether the board is open
unfoldable pub fault_on : Bool → List ℕ → Option (ℕ × ScriptFault)
fault_on opened input = first_fault 1 opened (lines_of input) (rest_of input)

-- the whole output, starting in a state
abbrev pub text_on : Machine → List ℕ → List ℕ
text_on machine input = output_on machine input ++ fault_text (fault_on (is_some machine) input)

-- the same of a script that opens its board
abbrev pub fault_of : List ℕ → Option (ℕ × ScriptFault)
fault_of = fault_on false

abbrev pub text : List ℕ → List ℕ
text = text_on None

-- the machine after a list of items
abbrev pub machine_from : Machine → List Item → Machine
machine_from machine [] = machine
machine_from machine (item ∷ items) = machine_from (machine_after machine item) items

-- and after whole lines, starting in a state
abbrev pub machine_after_lines : Machine → List (List ℕ) → Machine
machine_after_lines machine lines = machine_from machine (good_items (is_some machine) lines)

-- the machine after the lines before the fault
unfoldable pub machine_at_end : List ℕ → Machine
machine_at_end input = machine_after_lines None (lines_of input)

abbrev pub saved_of : Option (ℕ × ScriptFault) → Machine → List ℕ
saved_of None machine = option_map_or image machine []
saved_of (Some fault) machine = fault_text (Some fault)

-- what is saved of a script: the image of its board at the end, or the fault's line
abbrev pub saved_text : List ℕ → List ℕ
saved_text input = saved_of (fault_of input) (machine_at_end input)
