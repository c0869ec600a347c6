-- The state of the reference model: one list for each part, indexed by processor.
use Rattle.std.specs.Prelude.{◌≢◌, ℕ, Bool, ◌≤◌, ◌*◌, ◌==◌, List, [], ◌∷◌, Option, None, slice_index_or, slice_set, replicate, length}
use Rattle.board_terms.specs.Quantities.{Processor, Source, Moment, Ticket}
use Rattle.lapic_core.specs.Apic.{Apic, empty_apic}
use Rattle.synic_regs.specs.Regs.{Regs, reset_regs}
use Rattle.event_ports.specs.declared.ports.Port.{Port}
use Rattle.event_ports.specs.Ports.{Ports, no_ports}
use Rattle.board_terms.specs.Sources.{source_number}
use Rattle.message_queues.specs.Queues.{Queues, no_messages}
use Rattle.stimer_bank.specs.declared.timer.Timer.{Timer}
use Rattle.stimer_bank.specs.Bank.{Bank, opened as no_timers}
use Rattle.gpa_space.specs.Page.{zero_page}
use Rattle.gpa_space.specs.Space.{Space}

pub record State : Type 0 where
  -- the present time
  pub moment : Moment
  -- the ticket that the next accepted message gets
  pub next_ticket : Ticket
  -- the local APIC of each processor
  pub apics : List Apic
  -- the SynIC registers of each processor
  pub regs : List Regs
  -- the guest pages that the board holds: all, or none of a sparse board's
  pub pages : List (List ℕ)
  -- the overlays' own pages, in the order of visibility
  pub own : List (List ℕ)
  -- the ports, by number
  pub ports : List (Option Port)
  -- the queue of each source, those of processor 0 first
  pub queues : Queues
  -- the ticket in the message slot of each source, in the same order
  pub slots : List (Option Ticket)
  -- the timers, four of each processor
  pub timers : List Timer
  -- whether the timers of each processor are suspended, as its local APIC is
  pub suspended : List Bool

-- the number of processors on the board
abbrev pub processors : State → ℕ
processors s = length s.apics

abbrev pub apic_of : State → Processor → Apic
apic_of s p = slice_index_or s.apics p empty_apic

abbrev pub regs_of : State → Processor → Regs
regs_of s p = slice_index_or s.regs p reset_regs

-- the state with another local APIC, or other registers, of one processor
abbrev pub with_apic : State → Processor → Apic → State
with_apic s p a = record s { apics = slice_set s.apics p a }

abbrev pub with_regs : State → Processor → Regs → State
with_regs s p r = record s { regs = slice_set s.regs p r }

-- SIMP and SIEFP of each processor, in the order of visibility
abbrev pub overlay_registers : List Regs → List ℕ
overlay_registers [] = []
overlay_registers (r ∷ regs) = r.sim ∷ r.sief ∷ overlay_registers regs

-- the pages as a guest sees them, and the state with others
abbrev pub space_of : State → Space
space_of s = record { pages = s.pages; registers = overlay_registers s.regs; own = s.own }

abbrev pub with_space : State → Space → State
with_space s space = record s { pages = space.pages; own = space.own }

-- the ports, and the number of processors that they can target
abbrev pub ports_of : State → Ports
ports_of s = record { processors = processors s; ports = s.ports }

-- the timers and their suspensions, and the state with others
abbrev pub bank_of : State → Bank
bank_of s = record { timers = s.timers; suspended = s.suspended }

abbrev pub with_bank : State → Bank → State
with_bank s b = record s { timers = b.timers; suspended = b.suspended }

-- the ticket in the slot of a source
abbrev pub slot_of : State → Processor → Source → Option Ticket
slot_of s p i = slice_index_or s.slots (source_number p i) None

abbrev pub with_slot_ticket : State → Processor → Source → Option Ticket → State
with_slot_ticket s p i ticket = record s { slots = slice_set s.slots (source_number p i) ticket }

-- the number of processors that a sparse board may have
pub record IsCount (processors : ℕ) : Type 0 where
  pub some : 1 ≤ processors
  pub bound : processors ≤ 64

-- the valid sizes of a board that holds its guest pages
pub record AreSizes (processors pages : ℕ) : Type 0 where
  pub some_processor : 1 ≤ processors
  pub processor_bound : processors ≤ 8
  pub some_page : 1 ≤ pages
  pub page_bound : pages ≤ 64

-- the sizes of any board: at most 64 processors, and at most eight on one that is not sparse and so holds its guest
-- pages
pub record IsWithinLimits (processors pages : ℕ) : Type 0 where
  pub some_processor : 1 ≤ processors
  pub processor_bound : processors ≤ 64
  pub dense_bound : pages ≢ 0 → processors ≤ 8
  pub page_bound : pages ≤ 64

-- the state of a newly opened board; with no pages it is sparse
abbrev pub opened : ℕ → ℕ → Ticket → State
opened n pages ticket =
    record {
      moment = 0;
      next_ticket = ticket;
      apics = replicate n empty_apic;
      regs = replicate n reset_regs;
      pages = replicate pages zero_page;
      own = replicate (2 * n) zero_page;
      ports = (no_ports n (pages == 0)).ports;
      queues = no_messages n;
      slots = replicate (16 * n) None;
      timers = (no_timers n).timers;
      suspended = (no_timers n).suspended;
    }

-- a board: its state, and how often its summary was written
pub record BoardModel : Type 0 where
  pub state : State
  pub writes : ℕ
