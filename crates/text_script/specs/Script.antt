-- The faults of a script, and the first of them.
use Rattle.std.specs.Prelude.{ℕ, ◌+◌, List, [], ◌∷◌, ◌||◌, not, Bool, true, false, if◌then◌else◌, nat_lt, length, Option, None, Some, is_some}
use Rattle.std.specs.List.{filter_map}
use Rattle.text_lines.specs.Items.{Item, Opening, Performs, Summary}
use Rattle.text_lines.specs.Reading.{item_at}
use Rattle.text_lines.specs.Sizes.{are_sizes}
pub use Rattle.text_lines.specs.Faults.{is_skipped, rest_fault}
use Rattle.text_lines.specs.declared.fault.ScriptFault.{ScriptFault}
use Rattle.text_lines.specs.declared.fault.ScriptFault.TheVariants as faults

-- the item of a line, unless it is skipped
abbrev pub item_in : List ℕ → Option Item
item_in line = if is_skipped line then None else item_at line

-- The first item must open the board, with sizes within the limits, and no later item may.
abbrev pub item_fault : Bool → Option Item → Option ScriptFault
item_fault false (Some (Opening processors pages ticket)) =
    if are_sizes processors pages then None else Some faults.Size
item_fault false (Some (Performs event)) = Some faults.First
item_fault false (Some Summary) = Some faults.First
item_fault false None = Some faults.First
item_fault true (Some (Opening processors pages ticket)) = Some faults.Form
item_fault true (Some (Performs event)) = None
item_fault true (Some Summary) = None
item_fault true None = Some faults.Form

-- the fault of a whole line, given whether the board is open
abbrev pub line_fault : Bool → List ℕ → Option ScriptFault
line_fault opened line =
    if nat_lt 640 (length line) then Some faults.Long
    else if is_skipped line then None
    else item_fault opened (item_at line)

-- the board is open after a good line
abbrev pub opens : Bool → List ℕ → Bool
opens opened line = opened || not (is_skipped line)

abbrev pub at_line : ℕ → Option ScriptFault → Option (ℕ × ScriptFault) → Option (ℕ × ScriptFault)
at_line k None later = later
at_line k (Some fault) later = Some (k, fault)

-- the first fault and its line; the lines are counted from k
abbrev pub first_fault : ℕ → Bool → List (List ℕ) → List ℕ → Option (ℕ × ScriptFault)
first_fault k opened [] rest = at_line k (rest_fault opened rest) None
first_fault k opened (line ∷ lines) rest =
    at_line k (line_fault opened line) (first_fault (k + 1) (opens opened line) lines rest)

-- the lines before the first fault
abbrev pub good_lines : Bool → List (List ℕ) → List (List ℕ)
good_lines opened [] = []
good_lines opened (line ∷ lines) =
    if is_some (line_fault opened line) then [] else line ∷ good_lines (opens opened line) lines

-- the items of the good lines
abbrev pub good_items : Bool → List (List ℕ) → List Item
good_items opened lines = filter_map item_in (good_lines opened lines)
