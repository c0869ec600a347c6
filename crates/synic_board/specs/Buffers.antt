-- The invariant of the queues and ports: each owner stays within its buffers, and each message is in a queue that its
-- owner may post to, in the order of tickets.
use Rattle.std.specs.Prelude.{◌≡◌, ◌≤◌, ◌<◌, ℕ, true, List, length, slice_index_or, Option, None, Some}
use Rattle.std.specs.List.{All}
use Rattle.board_terms.specs.declared.messages.Message.{Message}
use Rattle.board_terms.specs.declared.messages.Message.TheVariants.{FromPort, FromTimer}
use Rattle.board_terms.specs.declared.messages.PortShape.TheVariants.{Messages}
use Rattle.event_ports.specs.declared.ports.Port.{Port}
use Rattle.event_ports.specs.Ports.{port_at, buffers_to, is_posted_type}
use Rattle.event_ports.specs.Shapes.{fits, buffers_of}
use Rattle.message_queues.specs.Queues.{processors_of, most_ports, port_used, timer_used, queue_of}
use Rattle.synic_board.specs.State.{State, ports_of}
use Rattle.synic_board.specs.Timed.{IsTimed}

-- a port of a board is open for messages to source i of processor p, with some number of buffers
abbrev pub SendsTo : List (Option Port) → ℕ → ℕ → ℕ → Type 0
SendsTo ports port p i =
    (buffers : ℕ) × (slice_index_or ports port None ≡ Some (record { vp = p; sint = i; shape = Messages buffers }))

-- a message that may be queued at source i of processor p: it has the type of a post and is from a port that sends
-- there, or it is from one of the four timers of p
abbrev pub IsHome : List (Option Port) → ℕ → ℕ → Message → Type 0
IsHome ports p i (FromPort ticket port kind payload) = (is_posted_type kind ≡ true) × SendsTo ports port p i
IsHome ports p i (FromTimer ticket t expiration) = (t.0 ≡ p) × (t.1 < 4)

-- no port uses more than 16 buffers or more than it was opened with, and no timer more than one
pub record HasBuffers (s : State) : Type 0 where
  pub room : (port : ℕ) → port_used s.queues port ≤ 16
  pub one_each : (t : ℕ × ℕ) → timer_used s.queues t ≤ 1
  pub within : (k : ℕ) (p : Port) → port_at (ports_of s) k ≡ Some p → port_used s.queues k ≤ buffers_of p.shape
  -- a source has only messages of the ports that send to it and of its processor's timers
  pub home : (p i : ℕ) → i < 16 → All (IsHome s.ports p i) (queue_of s.queues p i)
  -- queues are in the order of tickets, and no timer is further ahead than its period
  pub timed : IsTimed s
  -- each port has buffers
  pub ports : length s.ports ≤ most_ports (processors_of s.queues)
  -- the ports of a processor have at most 256 message buffers
  pub few : (p : ℕ) → buffers_to (ports_of s) p ≤ 256
  -- the source and the shape of each open port are in range
  pub shapes : (k : ℕ) (p : Port) → port_at (ports_of s) k ≡ Some p → fits p.shape ≡ true
  pub sources : (k : ℕ) (p : Port) → port_at (ports_of s) k ≡ Some p → p.sint < 16
