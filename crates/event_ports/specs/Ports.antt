-- The ports of a partition (TLFS, "Ports").
use Rattle.std.specs.Prelude.{ℕ, Bool, not, ◌+◌, ◌*◌, ◌==◌, ◌&&◌, nat_lt, nat_le, max, List, length, replicate, slice_index_or, slice_set, sum_by, Option, None, Some, is_some, Result, Ok, Err, if◌then◌else◌}
use Rattle.std.specs.Option.{option_map_or}
use Rattle.board_terms.specs.Quantities.{Processor, Source, PortNumber, Flag}
use Rattle.board_terms.specs.declared.messages.PortShape.{PortShape}
use Rattle.board_terms.specs.declared.messages.PortShape.TheVariants.{Messages, Flags}
use Rattle.board_terms.specs.declared.refusal.Refusal.{Refusal}
use Rattle.board_terms.specs.declared.refusal.Refusal.TheVariants.{UnknownPort, PortOpen, WrongKind, BadTarget, BadType, BadFlag}
use Rattle.event_ports.specs.declared.ports.Port.{Port}
use Rattle.event_ports.specs.Shapes.{fits, buffers_of}

pub record Ports : Type 0 where
  -- the number of processors on the board
  pub processors : ℕ
  -- by number
  pub ports : List (Option Port)

-- how many ports a board of n processors has: 16, or if it is sparse four for each processor, if these are more
unfoldable pub port_count : ℕ → Bool → ℕ
port_count n sparse = if sparse then max 16 (4 * n) else 16

abbrev pub no_ports : ℕ → Bool → Ports
no_ports n sparse = record { processors = n; ports = replicate (port_count n sparse) None }

-- the open port with this number; none from the count of ports on
abbrev pub port_at : Ports → PortNumber → Option Port
port_at s n = slice_index_or s.ports n None

abbrev pub with_port : Ports → PortNumber → Port → Ports
with_port s n p = record s { ports = slice_set s.ports n (Some p) }

abbrev pub without_port : Ports → PortNumber → Ports
without_port s n = record s { ports = slice_set s.ports n None }

-- a source of a processor on the board
abbrev pub is_target : Ports → Processor → Source → Bool
is_target s vp sint = nat_lt vp s.processors && nat_lt sint 16

-- the message buffers of a port, if it is one of processor p
abbrev pub buffers_at : Processor → Option Port → ℕ
buffers_at p port = option_map_or (λ (x : Port). if x.vp == p then buffers_of x.shape else 0) port 0

-- the message buffers of the ports of processor p
abbrev pub buffers_to : Ports → Processor → ℕ
buffers_to s p = sum_by (buffers_at p) s.ports

-- with a port of that shape, those of processor p have at most 256
abbrev pub has_room : Ports → Processor → PortShape → Bool
has_room s p shape = nat_le (buffers_to s p + buffers_of shape) 256

-- why a port cannot be opened; the checks are in this order
abbrev pub open_refusal : Ports → PortNumber → Processor → Source → PortShape → Option Refusal
open_refusal s port vp sint shape =
    if nat_le (length s.ports) port then Some UnknownPort
    else if is_some (port_at s port) then Some PortOpen
    else if not (is_target s vp sint && fits shape && has_room s vp shape) then Some BadTarget
    else None

abbrev pub target_of : Ports → PortNumber → Result Port Refusal
target_of s port = option_map_or (λ p. Ok p) (port_at s port) (Err UnknownPort)

-- a valid message type: not 0, and without bit 31, which is reserved for the hypervisor
abbrev pub is_posted_type : ℕ → Bool
is_posted_type kind = not (kind == 0) && nat_lt kind 0x80000000

abbrev pub message_target_at : ℕ → Port → PortShape → Result Port Refusal
message_target_at kind p (Messages buffers) = if is_posted_type kind then Ok p else Err BadType
message_target_at kind p (Flags base count) = Err WrongKind

abbrev pub message_target_of : Ports → PortNumber → ℕ → Result Port Refusal
message_target_of s port kind = option_map_or (λ p. message_target_at kind p p.shape) (port_at s port) (Err UnknownPort)

abbrev pub flag_place_at : Flag → Port → PortShape → Result (Processor × Source × Flag) Refusal
flag_place_at flag p (Messages buffers) = Err WrongKind
flag_place_at flag p (Flags base count) = if nat_lt flag count then Ok (p.vp, p.sint, base + flag) else Err BadFlag

abbrev pub flag_place_of : Ports → PortNumber → Flag → Result (Processor × Source × Flag) Refusal
flag_place_of s port flag = option_map_or (λ p. flag_place_at flag p p.shape) (port_at s port) (Err UnknownPort)
