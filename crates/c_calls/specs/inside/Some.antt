-- An event that a struct encodes or does not.
use Rattle.std.specs.Prelude.{Option, Some, None}
use Rattle.c_handles.specs.declared.any_board.AnyBoard.{AnyBoard}
use Rattle.c_handles.specs.Kinds.{PerformsOn}
use Rattle.synic_board.specs.declared.event.Event.{Event}
use Rattle.synic_board.specs.declared.event.Reply.{Reply}

-- there is an event, and a board performs it
abbrev pub PerformsSome : Option Event → AnyBoard → AnyBoard → Reply → Type 0
PerformsSome None board after answer = ⊥
PerformsSome (Some event) board after answer = PerformsOn board event after answer
