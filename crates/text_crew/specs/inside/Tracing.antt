-- The trace of a crew that has ended.
use Rattle.std.specs.Prelude.{◌≡◌, ℕ, ◌<◌, ◌^◌, List, ◌++◌, Option, None, Some}
use Rattle.std.specs.List.{All}
use Rattle.synic_board.specs.State.{State, opened}
use Rattle.board_threads.specs.declared.script.Setup.{Setup}
use Rattle.board_threads.specs.declared.settling.Ended.{Ended}
use Rattle.text_image.specs.Image.{image as image_of}
use Rattle.text_restore.specs.Images.{IsImage}
use Rattle.text_history.specs.Trace.{IsEntry, board_text, format_for, trace_text}
use Rattle.text_crew.specs.Running.{line_pages}
use Rattle.text_crew.specs.declared.outcome.Outcome.{Outcome}
use Rattle.text_crew.specs.declared.outcome.Outcome.TheVariants as outcomes

-- it was written after a beginning, in the format for these pages, or an allocation failed
abbrev pub IsTraced : Option ℕ → List ℕ → Outcome → Ended → List ℕ → List ℕ → Type 0
IsTraced pages beginning outcomes.Done ended old new =
    All (IsEntry (format_for pages ended.history.items)) ended.history.items
    × (new ≡ old ++ trace_text
    (format_for pages ended.history.items) beginning ended.history.items ended.board.state.next_ticket)
IsTraced pages beginning outcomes.Memory ended old new = Unit {0}
IsTraced pages beginning outcome ended old new = ⊥

-- the board of a crew, and its image if it was given
abbrev pub Begins : Option State → Setup → Option (List ℕ) → State → Type 0
Begins None setup image state =
    (image ≡ None) × (state ≡ opened setup.processors setup.pages setup.first_ticket) × (setup.first_ticket < 2 ^ 64)
Begins (Some s) setup image state = (image ≡ Some (image_of s)) × (state ≡ s) × IsImage (image_of s) s

-- the pages in the board line of the trace, if it has them, and its beginning
abbrev pub begun_pages : Option (List ℕ) → ℕ → Option ℕ
begun_pages None pages = line_pages pages
begun_pages (Some image) pages = None

abbrev pub begun_text : Option (List ℕ) → Setup → List ℕ
begun_text None setup = board_text setup.processors (line_pages setup.pages) setup.first_ticket
begun_text (Some image) setup = image
