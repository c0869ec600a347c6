-- The abstract state of a watched board under its lock, and what a call reports.
use Rattle.std.specs.Prelude.{◌≡◌, ℕ, List}
use Rattle.synic_board.specs.State.{State}
use Rattle.synic_board.specs.declared.event.Event.{Event}
use Rattle.synic_board.specs.declared.event.Reply.{Reply}
use Rattle.synic_board.specs.declared.history.Entry.{Entry}
use Rattle.published_words.specs.Words.{Words, Logs, Published}
use Rattle.published_words.specs.Storing.{IsCurrent}
use Rattle.shared_board.specs.Witnessed.{Witnessed, with_entry, IsOneThread}

-- the board with its history, and for each word the history of its value
pub record Publishing : Type 0 where
  pub shared : Witnessed
  pub logs : Logs

abbrev pub publishing : Witnessed → Logs → Publishing
publishing shared logs = record { shared = shared; logs = logs }

-- A checkpoint after a call: its words have the values of the state to which a legal history leads that ends with the
-- call.
abbrev pub IsAfter : Words → ℕ → Event → Reply → Published → Type 0
IsAfter words actor event reply checkpoint =
    (checkpoint.of ≡ words)
    × (before : List Entry)
    × (now : State)
    × IsOneThread words.start now (with_entry before actor event reply)
    × IsCurrent words.start now (with_entry before actor event reply) checkpoint.logs
