-- The stages of a trace: which line comes next.
use Rattle.std.specs.Prelude.{◌≡◌, ℕ, ◌+◌, ◌≤◌, Bool, true, false, not, ◌&&◌, List, [], ◌∷◌, if◌then◌else◌, Option, None, Some, codes}
use Rattle.std.specs.Option.{option_map, option_and_then}
use Rattle.std.specs.Str.{bytes_eq}
use Rattle.text_base.specs.Fields.{fields_of, spaced}
use Rattle.synic_board.specs.State.{State}
use Rattle.synic_board.specs.Step.{step}
use Rattle.synic_board.specs.declared.event.Event.{Event}
use Rattle.synic_board.specs.declared.event.Reply.{Reply}
use Rattle.text_lines.specs.Printing.{reply_fields}
use Rattle.text_lines.specs.Reading.{Fields, take_then, u8_at, parse_event, parse_opening}
use Rattle.text_lines.specs.Sizes.{are_sizes, opened_by}
use Rattle.text_restore.specs.Restoring as images
use Rattle.text_restore.specs.Taking.{has_ended, stage_of as image_stage_of}
use Rattle.text_history.specs.Trace.{has_line, may_open, may_restore, title_fields, end_fields}
use Rattle.text_history.specs.declared.format.Format.{Format}
use Rattle.text_history.specs.declared.format.Format.TheVariants.{One, Two, Three}
use Rattle.text_trace.specs.declared.stage.Stage.{Stage as BoardModel}
use Rattle.text_trace.specs.declared.stage.Stage.TheVariants as held
use Rattle.text_trace.specs.declared.stage.Opened.{Opened}
use Rattle.text_trace.specs.declared.stage.Opened.TheVariants as openings
use Rattle.text_trace.specs.declared.stage.Ran.{Ran}
use Rattle.text_trace.specs.declared.stage.Ran.TheVariants as ran

pub data Stage : Type 0 where
  -- the title
  Title : Stage
  -- the board line, or the first line of an image
  Opening : Format → Stage
  -- a line of the image, of which these were read
  Image : Format → images.Stage → Stage
  -- the reply that is due, or else an event or the end line, after that many entries
  Running : Format → State → ℕ → Option Reply → Stage
  -- nothing, after that many entries
  Over : ℕ → Stage

-- an event whose line has these fields has a line in the format
abbrev pub has_fields : Format → Fields → Bool
has_fields One (word ∷ fields) = not (bytes_eq word (codes "reset")) && not (bytes_eq word (codes "send"))
has_fields Two (word ∷ fields) = not (bytes_eq word (codes "send"))
has_fields f fields = true

-- the event of the fields after an actor's number, which may be any, if it has a line in the format
abbrev pub with_line : Format → Event → Option Event
with_line f event = if has_line f event then Some event else None

abbrev pub parse_entry : Format → Fields → Option Event
parse_entry f fields = option_and_then (with_line f) (take_then u8_at (λ (actor : ℕ). parse_event) fields)

unfoldable pub entry_at : Format → List ℕ → Option Event
entry_at f line = parse_entry f (fields_of line)

-- the processors, the pages and the first ticket of a board line
abbrev pub Board : Type 0
Board = ℕ × Option ℕ × ℕ

-- of this format, and with sizes within the limits
abbrev pub within_limits : Format → Board → Option Board
within_limits f board = if may_open f board.1 then (if are_sizes board.0 board.1 then Some board else None) else None

abbrev pub parse_board : Format → Fields → Option Board
parse_board f [] = None
parse_board f (word ∷ fields) =
    if bytes_eq word (codes "board") then option_and_then (within_limits f) (parse_opening fields) else None

unfoldable pub board_at : Format → List ℕ → Option Board
board_at f line = parse_board f (fields_of line)

-- the history starts on the board that a board line opens
abbrev pub begun : Format → Board → Stage
begun f board = Running f (opened_by board.0 board.1 board.2) 0 None

-- the event of one more entry is performed, and its reply is due
abbrev pub performed : Format → State → ℕ → Event → Stage
performed f s entries event = Running f (step s event).0 (entries + 1) (Some (step s event).1)

-- the first line of an image
abbrev pub image_title : List ℕ
image_title = codes "image 1"

-- the line begins an image
abbrev pub begins_image : Format → List ℕ → Bool
begins_image f line = may_restore f && bytes_eq line image_title

-- after the end of the image its board is there, and the history starts
abbrev pub entered : Format → images.Stage → Stage
entered f (images.Body s last lapics) =
    if has_ended (images.Body s last lapics) then Running f s 0 None else Image f (images.Body s last lapics)
entered f stage = Image f stage

-- the stage after a line that is not of an image, if the line is allowed here
abbrev pub follow : Stage → List ℕ → Option Stage
follow Title line =
    if bytes_eq line (spaced (title_fields One)) then Some (Opening One)
    else if bytes_eq line (spaced (title_fields Two)) then Some (Opening Two)
    else if bytes_eq line (spaced (title_fields Three)) then Some (Opening Three)
    else None
follow (Opening f) line =
    if begins_image f line then Some (Image f images.Titled) else option_map (begun f) (board_at f line)
follow (Image f image) line = None
follow (Running f s entries None) line =
    if bytes_eq line (spaced (end_fields f entries s.next_ticket)) then Some (Over entries)
    else option_map (performed f s entries) (entry_at f line)
follow (Running f s entries (Some due)) line =
    if bytes_eq line (spaced (reply_fields due)) then Some (Running f s entries None) else None
follow (Over entries) line = None

-- a line is allowed here and leads to the next stage
abbrev pub Follows : Stage → List ℕ → Stage → Type 0
Follows (Image f image) line new = (next : images.Stage) × images.Follows image line next × (new ≡ entered f next)
Follows stage line new = follow stage line ≡ Some new

-- the stage of a check, with its board
abbrev pub stage_of : BoardModel → Stage
stage_of held.Title = Title
stage_of (held.Opening format) = Opening format
stage_of (held.Image format image) = Image format (image_stage_of image)
stage_of (held.Running format board entries due) = Running format board.state entries due
stage_of (held.Over entries) = Over entries

-- the number of entries so far
abbrev pub count : Stage → ℕ
count Title = 0
count (Opening f) = 0
count (Image f image) = 0
count (Running f s entries due) = entries
count (Over entries) = entries

-- a line is allowed here and leads to the next stage; nothing is written for it
abbrev pub IsGood : Stage → List ℕ → List ℕ → Stage → Type 0
IsGood old line answer new = Follows old line new × (answer ≡ [])

-- the line is not allowed
abbrev pub IsWrong : Stage → List ℕ → Unit {0} → Type 0
IsWrong (Image f image) line fault = (next : images.Stage) → images.Follows image line next → ⊥
IsWrong stage line fault = follow stage line ≡ None

-- at least that many lines led here
abbrev pub HasLines : ℕ → Stage → Type 0
HasLines lines stage = count stage ≤ lines

-- a board line opened a board, or is not allowed there
abbrev pub Opens : Opened → Format → List ℕ → Type 0
Opens (openings.Board board) f line = option_map (begun f) (board_at f line) ≡ Some (Running f board.state 0 None)
Opens openings.Wrong f line = option_map (begun f) (board_at f line) ≡ None
Opens openings.Memory f line = Unit {0}

-- a line of an image, from one of its stages to another: the image continues, or this is its end
abbrev pub Reads : Ran → images.Stage → images.Stage → List ℕ → Type 0
Reads ran.On old new line = images.Follows old line new × (has_ended new ≡ false)
Reads ran.End old new line = images.Follows old line new × (has_ended new ≡ true)
Reads ran.Wrong old new line = (next : images.Stage) → images.Follows old line next → ⊥
Reads ran.Memory old new line = Unit {0}

-- the whole image was read
abbrev pub HasImage : Stage → Type 0
HasImage (Image f image) = has_ended image ≡ true
HasImage stage = ⊥

-- the stage from which a history starts on the board of an image
abbrev pub started : Stage → Stage
started (Image f image) = entered f image
started stage = stage

-- a line after the board line, or after the image
abbrev pub Runs : Ran → Format → State → ℕ → Option Reply → State → ℕ → Option Reply → List ℕ → Type 0
Runs ran.On f s entries due s' entries' due' line =
    follow (Running f s entries due) line ≡ Some (Running f s' entries' due')
Runs ran.End f s entries due s' entries' due' line =
    (entries' ≡ entries) × (follow (Running f s entries due) line ≡ Some (Over entries))
Runs ran.Wrong f s entries due s' entries' due' line = follow (Running f s entries due) line ≡ None
Runs ran.Memory f s entries due s' entries' due' line = Unit {0}

-- the trace is complete, after that many entries
abbrev pub IsOver : Option ℕ → Stage → Type 0
IsOver None stage = (n : ℕ) → stage ≡ Over n → ⊥
IsOver (Some n) stage = stage ≡ Over n
