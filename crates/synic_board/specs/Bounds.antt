-- The greatest number of notices of an event.
use Rattle.std.specs.Prelude.{ℕ}
use Rattle.synic_board.specs.declared.event.Event.{Event}
use Rattle.synic_board.specs.declared.event.Event.TheVariants.{Reset}

-- a reset: one for each of 16 slots, 256 buffers of ports and 4 of timers; any other event: at most the 192 of a tick
abbrev pub most_notices : Event → ℕ
most_notices (Reset p) = 276
most_notices event = 192
