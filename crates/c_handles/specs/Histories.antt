-- The abstract state of a history.
use Rattle.std.specs.Prelude.{ℕ, List, [], ◌∷◌, ◌++◌}
use Rattle.synic_board.specs.State.{State, opened}
use Rattle.synic_board.specs.History.{leads_to}
use Rattle.synic_board.specs.declared.event.Event.{Event}
use Rattle.synic_board.specs.declared.event.Reply.{Reply}
use Rattle.synic_board.specs.declared.history.Entry.{Entry}
use Rattle.entry_log.specs.Log.{entry}

-- the arguments with which a board was opened, and an entry for each event since
pub record HistoryModel : Type 0 where
  pub processors : ℕ
  pub pages : ℕ
  pub first_ticket : ℕ
  pub entries : List Entry

abbrev pub history_model : ℕ → ℕ → ℕ → List Entry → HistoryModel
history_model processors pages first_ticket entries =
    record { processors = processors; pages = pages; first_ticket = first_ticket; entries = entries }

-- the state in which it starts, and the state to which it leads
abbrev pub start_of : HistoryModel → State
start_of h = opened h.processors h.pages h.first_ticket

abbrev pub end_of : HistoryModel → State
end_of h = leads_to (start_of h) h.entries

-- a history with one more entry: an actor, its event, and the reply
abbrev pub with_entry : HistoryModel → ℕ → Event → Reply → HistoryModel
with_entry h actor event reply =
    history_model h.processors h.pages h.first_ticket (h.entries ++ entry actor event reply ∷ [])
