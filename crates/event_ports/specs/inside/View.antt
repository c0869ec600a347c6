-- The abstract view of the fields, and their invariant.
use Rattle.std.specs.Prelude.{◌≡◌, ◌<◌, ◌≤◌, ℕ, true, length, slice_index_or, Some}
use Rattle.event_ports.specs.declared.ports.Port.{Port}
use Rattle.event_ports.specs.declared.ports.Ports.TheInside.{Inside}
use Rattle.event_ports.specs.Shapes.{fits}
use Rattle.event_ports.specs.Ports.{Ports, port_at, buffers_to}

abbrev pub ports_of : Inside → Ports
ports_of a = record { processors = length a.buffers.items; ports = a.ports.items }

-- an open port has a target on the board, and its shape is in range; the buffers of each processor's ports are
-- counted, and at most 256
pub record PortsInvariant (a : Inside) : Type 0 where
  pub processor_bound : length a.buffers.items ≤ 64
  pub on_the_board : (n : ℕ) (p : Port) → port_at (ports_of a) n ≡ Some p → p.vp < length a.buffers.items
  pub fits : (n : ℕ) (p : Port) → port_at (ports_of a) n ≡ Some p → fits p.shape ≡ true
  pub counted : (p : ℕ) → p < length a.buffers.items → slice_index_or a.buffers.items p 0 ≡ buffers_to (ports_of a) p
  pub within : (p : ℕ) → p < length a.buffers.items → buffers_to (ports_of a) p ≤ 256
