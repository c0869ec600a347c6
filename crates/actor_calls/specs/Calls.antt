-- The calls of one actor in a history.
use Rattle.std.specs.Prelude.{ℕ, ◌==◌, List, map, filter}
use Rattle.synic_board.specs.declared.event.Event.{Event}
use Rattle.synic_board.specs.declared.event.Reply.{Reply}
use Rattle.synic_board.specs.declared.history.Entry.{Entry}

-- an event and its reply
abbrev pub Call : Type 0
Call = Event × Reply

abbrev pub call_of : Entry → Call
call_of e = (e.event, e.reply)

-- the calls of one actor, in order
abbrev pub calls_by : ℕ → List Entry → List Call
calls_by n history = map call_of (filter (λ e. n == e.actor) history)
