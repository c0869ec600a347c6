-- Ports, sources and registers for C.
use Rattle.std.specs.Prelude.{ℕ, ◌||◌, nat_lt, Bool, Option, Some, None, is_some, if◌then◌else◌}
use Rattle.board_terms.specs.declared.messages.PortShape.{PortShape}
use Rattle.board_terms.specs.declared.messages.PortShape.TheVariants.{Messages, Flags}
use Rattle.event_ports.specs.Ports.{port_at}
use Rattle.event_ports.specs.declared.ports.Port.{Port}
use Rattle.synic_regs.specs.Regs.{is_silent, vector_of, source_of}
use Rattle.synic_regs.specs.Registers.{register_of}
use Rattle.synic_board.specs.declared.event.Event.{Event}
use Rattle.synic_board.specs.declared.event.Event.TheVariants.{Assert, Absorb}
use Rattle.synic_board.specs.State.{State, processors, ports_of, regs_of}
use Rattle.c_handles.specs.declared.any_board.AnyBoard.{AnyBoard}
use Rattle.c_handles.specs.Kinds.{state_in}
use Rattle.c_calls.specs.declared.sources.CPort.{CPort}

-- a port: 1 for messages, 2 for event flags, and 0 if it is not open
abbrev pub shaped : ℕ → ℕ → PortShape → CPort
shaped vp sint (Messages buffers) =
    record { kind = 1; vp = vp; sint = sint; buffers = buffers; base = 0; count = 0 }
shaped vp sint (Flags base count) =
    record { kind = 2; vp = vp; sint = sint; buffers = 0; base = base; count = count }

abbrev pub no_port : CPort
no_port = record { kind = 0; vp = 0; sint = 0; buffers = 0; base = 0; count = 0 }

abbrev pub port_to_c : Option Port → CPort
port_to_c None = no_port
port_to_c (Some p) = shaped p.vp p.sint p.shape

abbrev pub port_of : Option AnyBoard → ℕ → CPort
port_of None port = no_port
port_of (Some board) port = port_to_c (port_at (ports_of (state_in board)) port)

-- what a source requests when the host asserts it: its vector, or nothing if it is masked or polling
abbrev pub asserted : ℕ → ℕ → Event
asserted vp word =
    if is_silent word || nat_lt (vector_of word) 16 then Absorb vp 0 0 else Assert vp (vector_of word)

-- the same of a source of a processor, whose register says it; an absorb of no vectors is an event that requests
-- nothing, and that is refused if the processor is not on the board
abbrev pub source_event_on : State → ℕ → ℕ → Event
source_event_on s vp sint =
    if nat_lt vp (processors s) then asserted vp (source_of (regs_of s vp) sint) else Absorb vp 0 0

abbrev pub source_event : Option AnyBoard → ℕ → ℕ → Option Event
source_event None vp sint = None
source_event (Some board) vp sint = if nat_lt sint 16 then Some (source_event_on (state_in board) vp sint) else None

-- whether a register is the board's
abbrev pub is_register : ℕ → Bool
is_register number = is_some (register_of number)
