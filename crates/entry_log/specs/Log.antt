-- The abstract state of a log.
use Rattle.std.specs.Prelude.{ℕ, Bool, List}
use Rattle.synic_board.specs.declared.event.Event.{Event}
use Rattle.synic_board.specs.declared.event.Reply.{Reply}
use Rattle.synic_board.specs.declared.history.Entry.{Entry}

-- the entries in order, and whether one more can be pushed
pub record Log : Type 0 where
  pub entries : List Entry
  pub has_room : Bool

-- an actor, its event, and the reply
abbrev pub entry : ℕ → Event → Reply → Entry
entry actor event reply = record { actor = actor; event = event; reply = reply }
