-- The text form of a history.
use Rattle.std.specs.Prelude.{◌≡◌, ◌⊎◌, ℕ, ◌<◌, ◌^◌, List, [], ◌∷◌, ◌++◌, length, Bool, true, false, not, ◌&&◌, if◌then◌else◌, Option, is_some, codes, decimal}
use Rattle.std.specs.List.{All, list_any}
use Rattle.synic_board.specs.State.{State}
use Rattle.synic_board.specs.History.{IsLegal, leads_to}
use Rattle.synic_board.specs.declared.event.Event.{Event}
use Rattle.synic_board.specs.declared.event.Event.TheVariants.{Reset, Send}
use Rattle.synic_board.specs.declared.history.Entry.{Entry}
use Rattle.text_base.specs.Fields.{line_of}
use Rattle.text_lines.specs.Events.{event_fields, IsEvent}
use Rattle.text_lines.specs.Items.{Opening, item_fields}
use Rattle.text_lines.specs.Printing.{text_of, reply_fields}
use Rattle.text_lines.specs.Sizes.{AreBoardSizes, opened_by}
use Rattle.text_restore.specs.Images.{IsImage}
use Rattle.text_history.specs.declared.format.Format.{Format}
use Rattle.text_history.specs.declared.format.Format.TheVariants.{One, Two, Three}

abbrev pub is_reset : Event → Bool
is_reset (Reset vp) = true
is_reset event = false

abbrev pub is_send : Event → Bool
is_send (Send vector mask) = true
is_send event = false

-- a reset has no line in format 1, and a send has one in format 3 alone
abbrev pub has_line : Format → Event → Bool
has_line One event = not (is_reset event) && not (is_send event)
has_line Two event = not (is_send event)
has_line Three event = true

-- an entry that has a line, and the ranges of its fields
pub record IsEntry (f : Format) (e : Entry) : Type 0 where
  pub actor : e.actor < 256
  pub event : IsEvent e.event
  pub line : has_line f e.event ≡ true

abbrev pub title_fields : Format → List (List ℕ)
title_fields One = codes "trace" ∷ codes "1" ∷ []
title_fields Two = codes "trace" ∷ codes "2" ∷ []
title_fields Three = codes "trace" ∷ codes "3" ∷ []

abbrev pub entry_fields : ℕ → Event → List (List ℕ)
entry_fields actor event = decimal actor ∷ event_fields event

-- the number of entries, and in all formats but the first the next ticket
abbrev pub end_fields : Format → ℕ → ℕ → List (List ℕ)
end_fields One entries next = codes "end" ∷ decimal entries ∷ []
end_fields Two entries next = codes "end" ∷ decimal entries ∷ decimal next ∷ []
end_fields Three entries next = codes "end" ∷ decimal entries ∷ decimal next ∷ []

-- two lines for each entry
abbrev pub history_lines : List Entry → List (List (List ℕ))
history_lines [] = []
history_lines (e ∷ history) = entry_fields e.actor e.event ∷ reply_fields e.reply ∷ history_lines history

-- the entries, and the end line with this next ticket
abbrev pub rest_lines : Format → List Entry → ℕ → List (List (List ℕ))
rest_lines f history next = history_lines history ++ end_fields f (length history) next ∷ []

-- a trace: its title, the text with which it begins, the entries, and the end line
abbrev pub trace_text : Format → List ℕ → List Entry → ℕ → List ℕ
trace_text f beginning history next = line_of (title_fields f) ++ (beginning ++ text_of (rest_lines f history next))

-- the trace of a history that starts in this state; the next ticket is that of the state to which the history leads
abbrev pub trace : Format → List ℕ → State → List Entry → List ℕ
trace f beginning s history = trace_text f beginning history (leads_to s history).next_ticket

abbrev pub board_text : ℕ → Option ℕ → ℕ → List ℕ
board_text processors pages ticket = line_of (item_fields (Opening processors pages ticket))

-- the board line of formats 1 and 2 opens a board that holds its guest pages, that of format 3 also a sparse board
abbrev pub may_open : Format → Option ℕ → Bool
may_open One pages = is_some pages
may_open Two pages = is_some pages
may_open Three pages = true

-- in format 3 an image may be in place of the board line
abbrev pub may_restore : Format → Bool
may_restore Three = true
may_restore f = false

-- the text is a board line of this format within the limits, and opens a board of this state
pub record IsOpening (f : Format) (text : List ℕ) (s : State) : Type 0 where
  pub processors : ℕ
  pub pages : Option ℕ
  pub ticket : ℕ
  pub form : may_open f pages ≡ true
  pub sizes : AreBoardSizes processors pages
  pub given : ticket < 2 ^ 64
  pub line : text ≡ board_text processors pages ticket
  pub state : s ≡ opened_by processors pages ticket

-- How a trace begins after its title, and the state in which its history starts: with a board line, or with an image.
abbrev pub IsBeginning : Format → List ℕ → State → Type 0
IsBeginning f text s = IsOpening f text s ⊎ ((may_restore f ≡ true) × IsImage text s)

abbrev pub has_send : List Entry → Bool
has_send history = list_any (λ e. is_send e.event) history

-- The format in which a history is written after a board line with these pages: format 2 if that can hold it, and
-- otherwise format 3, as after an image or the board line of a sparse board, which have no pages.
abbrev pub format_for : Option ℕ → List Entry → Format
format_for pages history = if is_some pages && not (has_send history) then Two else Three

-- The text is the trace of a legal history of that many entries.
pub record IsTrace (text : List ℕ) (entries : ℕ) : Type 0 where
  pub format : Format
  pub beginning : List ℕ
  pub state : State
  pub history : List Entry
  pub begins : IsBeginning format beginning state
  pub fits : All (IsEntry format) history
  pub legal : IsLegal state history
  pub counted : length history ≡ entries
  pub written : text ≡ trace format beginning state history

-- The text is a prefix of the trace of a legal history.
pub record Begins (text : List ℕ) : Type 0 where
  pub rest : List ℕ
  pub entries : ℕ
  pub whole : IsTrace (text ++ rest) entries
