-- The abstract view of the machine's fields, and their invariant.
use Rattle.std.specs.Prelude.{◌≡◌, ◌≢◌, ◌≤◌, ◌*◌, ◌==◌, length}
use Rattle.event_ports.specs.Ports.{port_count}
use Rattle.synic_board.specs.State.{State, BoardModel, overlay_registers}
use Rattle.synic_board.specs.Summaries.{summary_of}
use Rattle.synic_board.specs.declared.machine.Machine.TheInside.{Inside}

abbrev pub state_of : Inside → State
state_of b =
    record {
      moment = b.moment;
      next_ticket = b.next_ticket;
      apics = b.lapics.items;
      regs = b.regs.items;
      pages = b.space.pages;
      own = b.space.own;
      ports = b.ports.ports;
      queues = b.queues;
      slots = b.slots.items;
      timers = b.timers.timers;
      suspended = b.timers.suspended;
    }

abbrev pub model_of : Inside → BoardModel
model_of b = record { state = state_of b; writes = b.summary.writes }

pub record MachineInvariant (b : Inside) : Type 0 where
  pub some_processor : 1 ≤ length b.lapics.items
  pub processor_bound : length b.lapics.items ≤ 64
  pub dense_bound : b.page_count ≢ 0 → length b.lapics.items ≤ 8
  pub registers : length b.regs.items ≡ length b.lapics.items
  pub page_count : b.page_count ≡ length b.space.pages
  pub page_bound : b.page_count ≤ 64
  -- the space has the overlay registers of the processors, two each
  pub two_overlays : length b.space.registers ≡ 2 * length b.lapics.items
  pub overlays : b.space.registers ≡ overlay_registers b.regs.items
  pub ports : b.ports.processors ≡ length b.lapics.items
  pub port_count : length b.ports.ports ≡ port_count (length b.lapics.items) (b.page_count == 0)
  pub queues : length b.queues ≡ 16 * length b.lapics.items
  pub slots : length b.slots.items ≡ 16 * length b.lapics.items
  pub timers : length b.timers.timers ≡ 4 * length b.lapics.items
  -- the cached summary equals the one computed from scratch
  pub summary : b.summary.values ≡ summary_of (state_of b)
