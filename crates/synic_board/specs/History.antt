-- Histories: the events of actors on a board, in order, with the replies.
use Rattle.std.specs.Prelude.{◌≡◌, List, map}
use Rattle.synic_board.specs.declared.event.Event.{Event}
use Rattle.synic_board.specs.declared.event.Reply.{Reply}
use Rattle.synic_board.specs.declared.history.Entry.{Entry}
use Rattle.synic_board.specs.State.{State}
use Rattle.synic_board.specs.Run.{run_of}

abbrev pub events_of : List Entry → List Event
events_of history = map (λ (e : Entry). e.event) history

abbrev pub replies_of : List Entry → List Reply
replies_of history = map (λ (e : Entry). e.reply) history

-- A history is legal if its replies are those of the run of its events.
abbrev pub IsLegal : State → List Entry → Type 0
IsLegal s history = replies_of history ≡ (run_of s (events_of history)).1

-- the state that a history leads to
abbrev pub leads_to : State → List Entry → State
leads_to s history = (run_of s (events_of history)).0
