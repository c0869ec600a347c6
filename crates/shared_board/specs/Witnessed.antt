-- The abstract state of a board under a lock, and what holds when no thread uses it any more.
use Rattle.std.specs.Prelude.{◌≡◌, ℕ, ◌<◌, ◌++◌, ◌∷◌, [], List, All, length, map}
use Rattle.std.specs.List.{range_with_len}
use Rattle.board_terms.specs.declared.notices.Notice.{Notice}
use Rattle.entry_log.specs.Log.{entry}
use Rattle.synic_board.specs.State.{State, BoardModel}
use Rattle.synic_board.specs.History.{IsLegal, leads_to}
use Rattle.synic_board.specs.Step.{step}
use Rattle.synic_board.specs.declared.event.Event.{Event}
use Rattle.synic_board.specs.declared.event.Reply.{Reply}
use Rattle.synic_board.specs.declared.history.Entry.{Entry}
use Rattle.shared_board.specs.Calling.{Calling, calls_by}

-- the board, the history of all calls since it was shared, and the number of its actors
pub record Witnessed : Type 0 where
  pub board : BoardModel
  pub history : List Entry
  pub actors : ℕ

abbrev pub witnessed : BoardModel → List Entry → ℕ → Witnessed
witnessed board history actors = record { board = board; history = history; actors = actors }

-- the history has one more entry
abbrev pub with_entry : List Entry → ℕ → Event → Reply → List Entry
with_entry history actor event reply = history ++ entry actor event reply ∷ []

-- What one thread could have done: the replies are those of the reference model from the state in which the board was
-- shared, and the history leads to the board.
pub record IsOneThread (start now : State) (history : List Entry) : Type 0 where
  pub legal : IsLegal start history
  pub leads : now ≡ leads_to start history

-- An event among the calls of a run of one thread, in which the actor's calls before it are the actor's: after those
-- before it, the reference model answers it so.
pub record IsAnswered (start : State) (a : Calling) (event : Event) (reply : Reply) (notices : List Notice)
    : Type 0 where
  pub before : List Entry
  pub mid : State
  pub run : IsOneThread start mid before
  pub own : calls_by a.number start before ≡ a.calls
  pub reply_is : (step mid event).1 ≡ reply
  pub notices_are : (step mid event).2 ≡ notices

-- The end of a shared board, with all its actors.
pub record IsEnded (start now : State) (history : List Entry) (actors : List Calling) : Type 0 where
  pub run : IsOneThread start now history
  -- the actors are numbered from 0
  pub numbers : map (λ (a : Calling). a.number) actors ≡ range_with_len 0 (length actors)
  -- the entries of an actor are its calls, in its order, with the replies and the notices that it had
  pub own : All (λ (a : Calling). calls_by a.number start history ≡ a.calls) actors
  -- and there are no others
  pub all : All (λ (e : Entry). e.actor < length actors) history
