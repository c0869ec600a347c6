-- What an event leaves alone: a processor that it does not touch, and what processors share.
use Rattle.std.specs.Prelude.{◌≡◌, ◌≢◌, ◌<◌, ◌/◌, ◌==◌, ◌&&◌, ℕ, Bool, true, false, nat_lt, List, [], ◌∷◌, Option, None}
use Rattle.std.specs.List.{All}
use Rattle.std.specs.Option.{option_map_or}
use Rattle.std.specs.Int.{bit_at}
use Rattle.board_terms.specs.Quantities.{Processor, Address}
use Rattle.arrayvec.specs.ArrayVec.{ArrayVec}
use Rattle.board_terms.specs.declared.notices.Notice.{Notice}
use Rattle.board_terms.specs.declared.notices.Notice.TheVariants.{Accepted, Placed, Pending, Requested, FlagSet, Consumed, Withdrawn, Expired, Skipped}
use Rattle.board_terms.specs.declared.pages.Kind.{Kind}
use Rattle.board_terms.specs.declared.pages.Owner.{Owner}
use Rattle.board_terms.specs.declared.pages.Owner.TheVariants.{Guest, Sim, Sief, Nothing}
use Rattle.deadline_tree.specs.Deadlines.{has_due}
use Rattle.event_ports.specs.declared.ports.Port.{Port}
use Rattle.event_ports.specs.Ports.{port_at}
use Rattle.gpa_space.specs.Space.{own_page, owner_of, visible}
use Rattle.message_queues.specs.Queues.{queue_of}
use Rattle.stimer_bank.specs.Bank.{timer_in, is_suspended, dues}
use Rattle.synic_regs.specs.declared.register.Register.{Register}
use Rattle.synic_regs.specs.declared.register.Register.TheVariants.{Sim, Sief, TimerConfig, TimerCount}
use Rattle.synic_regs.specs.Registers.{register_of}
use Rattle.synic_board.specs.declared.event.Event.{Event}
use Rattle.synic_board.specs.declared.event.Event.TheVariants.{OpenPort, ClosePort, Write, Read, Post, Signal, Assert, Absorb, Store, Load, Tick, Take, Suspend, Resume, Reset, Send}
use Rattle.synic_board.specs.State.{State, apic_of, regs_of, space_of, bank_of, ports_of, slot_of}
use Rattle.synic_board.specs.Run.{run_of}
use Rattle.synic_board.specs.Step.{step}

-- all that processor q has is as before: its local APIC, its registers, its suspension, both its own pages, the
-- queues and slots of its sources, and its timers
pub record Keeps (q : Processor) (s now : State) : Type 0 where
  pub apic : apic_of now q ≡ apic_of s q
  pub regs : regs_of now q ≡ regs_of s q
  pub suspended : is_suspended (bank_of now) q ≡ is_suspended (bank_of s) q
  pub pages : (kind : Kind) → own_page (space_of now) q kind ≡ own_page (space_of s) q kind
  pub queues : (i : ℕ) → i < 16 → queue_of now.queues q i ≡ queue_of s.queues q i
  pub slots : (i : ℕ) → i < 16 → slot_of now q i ≡ slot_of s q i
  pub timers : (n : ℕ) → n < 4 → timer_in (bank_of now) (q, n) ≡ timer_in (bank_of s) (q, n)

-- the processor that a notice names
abbrev pub processor_of : Notice → Processor
processor_of (Accepted p i ticket) = p
processor_of (Placed p i ticket) = p
processor_of (Pending p i) = p
processor_of (Requested p v) = p
processor_of (FlagSet p i flag) = p
processor_of (Consumed p i ticket) = p
processor_of (Withdrawn p i ticket) = p
processor_of (Expired p n due) = p
processor_of (Skipped p n count) = p

-- a port is open, and its target is a source of processor q
abbrev pub is_at : Processor → Option Port → Bool
is_at q port = option_map_or (λ (p : Port). p.vp == q) port false

-- an overlay of processor q
abbrev pub is_overlay_of : Processor → Owner → Bool
is_overlay_of q Guest = false
is_overlay_of q (Sim p) = p == q
is_overlay_of q (Sief p) = p == q
is_overlay_of q Nothing = false

-- what an event may change of processor q: one of the processor itself; one at a port that targets it; an interrupt
-- that is sent to it; a store where a guest sees one of its overlays; a later moment by which a timer of it is due
abbrev pub touches : State → Event → Processor → Bool
touches s (OpenPort port p i shape) q = false
touches s (ClosePort port) q = is_at q (port_at (ports_of s) port)
touches s (Write p number value) q = p == q
touches s (Read p number) q = false
touches s (Post port kind payload) q = is_at q (port_at (ports_of s) port)
touches s (Signal port flag) q = is_at q (port_at (ports_of s) port)
touches s (Assert p v) q = p == q
touches s (Absorb p part bits) q = p == q
touches s (Store address bytes) q = is_overlay_of q (owner_of (space_of s) (address / 4096))
touches s (Load address count) q = false
touches s (Tick moment) q = nat_lt s.moment moment && has_due (dues (bank_of s)) moment q
touches s (Take p) q = p == q
touches s (Suspend p) q = p == q
touches s (Resume p) q = p == q
touches s (Reset p) q = p == q
touches s (Send v mask) q = bit_at mask q == 1

-- an event keeps what is of processor q, and emits no notice of it
pub record LeavesAlone (s : State) (event : Event) (q : Processor) : Type 0 where
  pub state : Keeps q s (step s event).0
  pub notices : All (λ notice. processor_of notice ≢ q) (step s event).2

-- no event of a run touches it
abbrev pub Untouched : State → List Event → Processor → Type 0
Untouched s [] q = Unit {0}
Untouched s (event ∷ events) q = (touches s event q ≡ false) × Untouched (step s event).0 events q

pub record RunsAlone (s : State) (events : List Event) (q : Processor) : Type 0 where
  pub state : Keeps q s (run_of s events).0
  pub notices : All (λ notice. processor_of notice ≢ q) (run_of s events).2

-- the events that may change what processors share: the clock, the ports, the next ticket, the guest pages, and where
-- the guest sees an overlay
abbrev pub moves_clock : Event → Bool
moves_clock (Tick moment) = true
moves_clock event = false

abbrev pub changes_ports : Event → Bool
changes_ports (OpenPort port p i shape) = true
changes_ports (ClosePort port) = true
changes_ports event = false

abbrev pub is_timers : Register → Bool
is_timers (TimerConfig n) = true
is_timers (TimerCount n) = true
is_timers register = false

abbrev pub may_accept : Event → Bool
may_accept (Post port kind payload) = true
may_accept (Tick moment) = true
may_accept (Write p number value) = option_map_or is_timers (register_of number) false
may_accept event = false

abbrev pub changes_pages : Event → Bool
changes_pages (Store address bytes) = true
changes_pages event = false

abbrev pub is_overlays : Register → Bool
is_overlays Sim = true
is_overlays Sief = true
is_overlays register = false

abbrev pub moves_overlays : Event → Bool
moves_overlays (Write p number value) = option_map_or is_overlays (register_of number) false
moves_overlays (Reset p) = true
moves_overlays event = false

pub record KeepsShared (s : State) (event : Event) : Type 0 where
  pub moment : moves_clock event ≡ false → (step s event).0.moment ≡ s.moment
  pub ports : changes_ports event ≡ false → (step s event).0.ports ≡ s.ports
  pub tickets : may_accept event ≡ false → (step s event).0.next_ticket ≡ s.next_ticket
  pub pages : changes_pages event ≡ false → (step s event).0.pages ≡ s.pages
  pub overlays : moves_overlays event ≡ false → (page : ℕ)
      → visible (space_of (step s event).0) page ≡ visible (space_of s) page

-- a store where a guest sees no overlay changes guest pages alone
pub record StoresAlone (s : State) (address : Address) (bytes : ArrayVec ℕ) : Type 0 where
  pub rest : (step s (Store address bytes)).0 ≡ record s { pages = (step s (Store address bytes)).0.pages }
  pub notices : (step s (Store address bytes)).2 ≡ []

abbrev pub NoneIsVisible : State → Address → Type 0
NoneIsVisible s address = visible (space_of s) (address / 4096) ≡ None
