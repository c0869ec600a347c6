-- The lines of a trace entry, and the trace of a history.
use Rattle.std.specs.Prelude.{ℕ, [], ◌∷◌, List, Option, Some, None}
use Rattle.text_lines.specs.Printing.{text_of}
use Rattle.text_history.specs.Trace.{history_lines, board_text, format_for, trace}
use Rattle.c_handles.specs.Histories.{HistoryModel, start_of}
use Rattle.synic_board.specs.declared.event.Event.{Event}
use Rattle.synic_board.specs.declared.event.Reply.{Reply}

-- the two lines of an entry, if there is an event and a reply
abbrev pub entry_text : ℕ → Option Event → Option Reply → Option (List ℕ)
entry_text actor (Some event) (Some reply) =
    Some (text_of (history_lines (record { actor = actor; event = event; reply = reply } ∷ [])))
entry_text actor (Some event) None = None
entry_text actor None reply = None

-- the trace of a history, in format 2, or in format 3 if it has a send
abbrev pub trace_of : HistoryModel → List ℕ
trace_of h =
    trace (format_for (Some h.pages) h.entries) (board_text h.processors (Some h.pages) h.first_ticket) (start_of h)
    h.entries
