-- What begins a trace, and the trace of a legal history.
use Rattle.std.proofs.Common.{◌≡◌, inl, ℕ, ◌<◌, ◌^◌, List, length, refl}
use Rattle.std.specs.Prelude.{Bool, true, false, not, if◌then◌else◌, Option, None, Some}
use Rattle.std.specs.List.{All}
use Rattle.synic_board.specs.State.{State}
use Rattle.synic_board.specs.History.{IsLegal}
use Rattle.synic_board.specs.declared.history.Entry.{Entry}
use Rattle.text_lines.specs.Sizes.{AreBoardSizes, opened_by}
use Rattle.text_history.specs.declared.format.Format.{Format}
use Rattle.text_history.specs.declared.format.Format.TheVariants.{Two, Three}
use Rattle.text_history.specs.Trace.{IsEntry, IsBeginning, IsTrace, board_text, has_send, format_for, may_open, trace}

-- a board line within the limits begins a trace of the format in which a history is written after it
pub line-begins : (processors : ℕ) (pages : Option ℕ) (ticket : ℕ) (history : List Entry)
    → AreBoardSizes processors pages → ticket < 2 ^ 64 →
    IsBeginning (format_for pages history) (board_text processors pages ticket) (opened_by processors pages ticket)
line-begins processors pages ticket history sizes given =
    inl (record {
      processors = processors;
      pages = pages;
      ticket = ticket;
      form = form pages;
      sizes = sizes;
      given = given;
      line = refl;
      state = refl;
    })
  where
    by : (n : ℕ) (sent : Bool) → may_open (if not sent then Two else Three) (Some n) ≡ true
    by n true = refl
    by n false = refl

    form : (g : Option ℕ) → may_open (format_for g history) g ≡ true
    form None = refl
    form (Some n) = by n (has_send history)

pub trace-is : (f : Format) (beginning : List ℕ) (s : State) (history : List Entry) → IsBeginning f beginning s
    → All (IsEntry f) history → IsLegal s history →
    IsTrace (trace f beginning s history) (length history)
trace-is f beginning s history begins fits legal = record {
  format = f;
  beginning = beginning;
  state = s;
  history = history;
  begins = begins;
  fits = fits;
  legal = legal;
  counted = refl;
  written = refl;
}
