-- The abstract state of an actor, and its calls in a history.
use Rattle.std.specs.Prelude.{ℕ, ◌==◌, List, [], ◌∷◌, ◌++◌, map, filter}
use Rattle.board_terms.specs.declared.notices.Notice.{Notice}
use Rattle.ghost_history.specs.Rows.{Answer, answer}
use Rattle.synic_board.specs.declared.event.Event.{Event}
use Rattle.synic_board.specs.declared.event.Reply.{Reply}
use Rattle.synic_board.specs.declared.history.Entry.{Entry}
use Rattle.synic_board.specs.State.{State}
use Rattle.synic_board.specs.Step.{step}
use Rattle.actor_calls.specs.Calls.{Call}

-- its number, and what its calls were answered, in order
pub record Calling : Type 0 where
  pub number : ℕ
  pub calls : List Answer

abbrev pub calling : ℕ → List Answer → Calling
calling number calls = record { number = number; calls = calls }

-- an actor after one more call
abbrev pub with_call : Calling → Event → Reply → List Notice → Calling
with_call a event reply notices = calling a.number (a.calls ++ answer event reply notices ∷ [])

-- a call without its notices
abbrev pub call_in : Answer → Call
call_in x = (x.event, x.reply)

-- what the reference model answers an entry's event in a state, with the entry's actor
abbrev pub Said : Type 0
Said = ℕ × Answer

abbrev pub said : State → Entry → Said
said s e = (e.actor, answer e.event (step s e.event).1 (step s e.event).2)

-- and all events of a history, from a state on
unfoldable pub said_from : State → List Entry → List Said
said_from s [] = []
said_from s (e ∷ es) = said s e ∷ said_from (step s e.event).0 es

-- what was said to one actor
abbrev pub said_to : ℕ → List Said → List Answer
said_to n all = map (λ (x : Said). x.1) (filter (λ (x : Said). n == x.0) all)

-- the calls of one actor in a history from a state, in order
abbrev pub calls_by : ℕ → State → List Entry → List Answer
calls_by n start history = said_to n (said_from start history)
