-- The shapes of ports.
use Rattle.std.specs.Prelude.{ℕ, Bool, true, false, ◌+◌, nat_le, ◌&&◌}
use Rattle.board_terms.specs.declared.messages.PortShape.{PortShape}
use Rattle.board_terms.specs.declared.messages.PortShape.TheVariants.{Messages, Flags}

-- the port carries messages
abbrev pub takes_messages : PortShape → Bool
takes_messages (Messages buffers) = true
takes_messages (Flags base count) = false

-- 1 to 16 buffers; or at least one event flag, and none from 2048 on
abbrev pub fits : PortShape → Bool
fits (Messages buffers) = nat_le 1 buffers && nat_le buffers 16
fits (Flags base count) = nat_le 1 count && nat_le (base + count) 2048

-- how many messages of a port may be queued
abbrev pub buffers_of : PortShape → ℕ
buffers_of (Messages buffers) = buffers
buffers_of (Flags base count) = 0
