-- The pieces of a board that is being restored.
use Rattle.std.specs.List.{All}
use Rattle.std.specs.Prelude.{◌≡◌, ◌<◌, ℕ, false, None, Some, List, [], slice_index_or}
use Rattle.board_terms.specs.Quantities.{Processor, Source, PortNumber, Ticket, TimerId, PageNumber}
use Rattle.board_terms.specs.Messages.{ticket_of}
use Rattle.board_terms.specs.declared.messages.Message.{Message}
use Rattle.board_terms.specs.declared.messages.Message.TheVariants.{FromPort, FromTimer}
use Rattle.board_terms.specs.declared.pages.Kind.{Kind}
use Rattle.board_terms.specs.declared.pages.Kind.TheVariants as kind
use Rattle.synic_regs.specs.declared.register.Register.{Register}
use Rattle.synic_regs.specs.declared.register.Register.TheVariants as register
use Rattle.lapic_core.specs.Apic.{Apic}
use Rattle.gpa_space.specs.Page.{overwritten}
use Rattle.gpa_space.specs.Space.{own_page, with_own_page, with_guest_page}
use Rattle.event_ports.specs.declared.ports.Port.{Port}
use Rattle.event_ports.specs.Ports.{port_at}
use Rattle.message_queues.specs.Queues.{HasBuffer, appended, queue_of, port_used}
use Rattle.stimer_bank.specs.declared.timer.Timer.{Timer}
use Rattle.stimer_bank.specs.Timer.{IsSoundTimer}
use Rattle.stimer_bank.specs.Bank.{with_timer, with_suspension as bank_with_suspension}
use Rattle.synic_board.specs.State.{State, with_apic, with_bank, with_space, space_of, bank_of, slot_of, ports_of}
use Rattle.event_ports.specs.Shapes.{buffers_of}
use Rattle.synic_board.specs.Delivery.{is_slot_empty}
use Rattle.synic_board.specs.Locations.{times, locations}
use Rattle.synic_board.specs.Sound.{IsMessage}
use Rattle.synic_board.specs.Timed.{HasExpired, IsNear}
use Rattle.synic_board.specs.Buffers.{IsHome}

-- the register of an overlay
abbrev pub overlay_register : Kind → Register
overlay_register kind.Sim = register.Sim
overlay_register kind.Sief = register.Sief

-- a local APIC, whose suspension is also that of the processor's timers
abbrev pub with_processor : State → Processor → Apic → State
with_processor s p a = with_bank (with_apic s p a) (bank_with_suspension (bank_of s) p a.suspended)

-- the registers and the deadline of a timer
abbrev pub with_saved_timer : State → TimerId → Timer → State
with_saved_timer s t x = with_bank s (with_timer (bank_of s) t x)

-- bytes of an own page or a guest page, from an offset on
abbrev pub with_own_bytes : State → Processor → Kind → ℕ → List ℕ → State
with_own_bytes s p kind at bytes =
    with_space s (with_own_page (space_of s) p kind (overwritten (own_page (space_of s) p kind) at bytes))

abbrev pub with_guest_bytes : State → PageNumber → ℕ → List ℕ → State
with_guest_bytes s page at bytes =
    with_space s (with_guest_page (space_of s) page (overwritten (slice_index_or s.pages page []) at bytes))

-- a message at the end of its queue
abbrev pub with_message : State → Processor → Source → Message → State
with_message s p i m = record s { queues = appended s.queues p i m }

-- no slot of a processor holds a ticket
abbrev pub HasNoTickets : State → Processor → Type 0
HasNoTickets s p = (i : ℕ) → i < 16 → slot_of s p i ≡ None

-- a ticket was given, and is in no queue or slot
pub record IsUnplaced (s : State) (t : Ticket) : Type 0 where
  pub given : t < s.next_ticket
  pub nowhere : times t (locations s) ≡ 0

-- a port, if it is open, has a free buffer of those that it was opened with
abbrev pub HasFreeBuffer : State → PortNumber → Type 0
HasFreeBuffer s port = (p : Port) → port_at (ports_of s) port ≡ Some p → port_used s.queues port < buffers_of p.shape

abbrev pub IsWithinShare : State → Message → Type 0
IsWithinShare s (FromPort ticket port kind payload) = HasFreeBuffer s port
IsWithinShare s (FromTimer ticket timer expiration) = Unit {0}

-- a timer can be so: its registers and its deadline belong together, and it is no further ahead than its period
pub record MayCount (s : State) (x : Timer) : Type 0 where
  pub sound : IsSoundTimer x
  pub near : IsNear s.moment x

-- a message can be queued at source i of processor p, after those that are there and the one in the slot
pub record MayJoin (s : State) (p : Processor) (i : Source) (m : Message) : Type 0 where
  pub message : IsMessage m
  pub home : IsHome s.ports p i m
  pub buffer : HasBuffer s.queues m
  pub share : IsWithinShare s m
  pub ticket : IsUnplaced s (ticket_of m)
  pub order : All (λ x. ticket_of x < ticket_of m) (queue_of s.queues p i)
  pub behind : (t : ℕ) → slot_of s p i ≡ Some t → t < ticket_of m
  pub time : HasExpired s.moment i m

-- a slot can hold a ticket: it holds a message, no ticket yet, and the tickets of those that wait for it are greater
pub record MayOccupy (s : State) (p : Processor) (i : Source) (t : Ticket) : Type 0 where
  pub occupied : is_slot_empty s p i ≡ false
  pub free : slot_of s p i ≡ None
  pub ahead : All (λ m. t < ticket_of m) (queue_of s.queues p i)
  pub ticket : IsUnplaced s t
