-- The reply of a call that a part refuses or performs.
use Rattle.std.specs.Prelude.{Option, None, Some}
use Rattle.board_terms.specs.declared.refusal.Refusal.{Refusal}
use Rattle.synic_board.specs.declared.event.Reply.{Reply}
use Rattle.synic_board.specs.declared.event.Reply.TheVariants.{Refused}

abbrev pub unless_refused : Reply → Option Refusal → Reply
unless_refused reply None = reply
unless_refused reply (Some refusal) = Refused refusal
