-- What a live board makes of any event.
use Rattle.std.specs.Prelude.{◌≡◌, ◌≢◌, ℕ, zero, suc, ◌*◌, ◌/◌, ◌<◌, nat_lt, Bool, true, false, List, [], ◌++◌, slice_index_or, Option, Some, None}
use Rattle.board_terms.specs.declared.notices.Notice.{Notice}
use Rattle.board_terms.specs.declared.pages.Kind.{Kind}
use Rattle.board_terms.specs.declared.pages.Kind.TheVariants as kind
use Rattle.board_terms.specs.declared.refusal.Refusal.TheVariants.{Elsewhere}
use Rattle.event_ports.specs.Ports.{port_at}
use Rattle.event_ports.specs.declared.ports.Port.{Port}
use Rattle.gpa_space.specs.Space.{is_covered, overlay_of}
use Rattle.synic_regs.specs.declared.register.Register.{Register}
use Rattle.synic_regs.specs.declared.register.Register.TheVariants.{Eom, Sim, Sief, TimerConfig, TimerCount}
use Rattle.synic_regs.specs.Registers.{register_of}
use Rattle.synic_board.specs.declared.event.Event.{Event}
use Rattle.synic_board.specs.declared.event.Event.TheVariants.{Write, Post, Signal, Store, Load, Tick, Reset}
use Rattle.synic_board.specs.declared.event.Reply.{Reply}
use Rattle.synic_board.specs.declared.event.Reply.TheVariants.{Done, Refused}
use Rattle.synic_board.specs.State.{processors, ports_of, space_of}
use Rattle.live_board.specs.Signals.{HasSetAt}
use Rattle.live_board.specs.Hiding.{IsHiding}
use Rattle.live_board.specs.Live.{LiveModel, IsShown, HasLooked, HasPlaced, slot_word, HasProbed, NoneQueued, log_of, IsLive, IsQuietly, IsTimed, has_processor, IsTicked, IsReset}
use Rattle.live_board.specs.Timers.{is_direct_write}

-- before a post to a port that is open, the host looks at the header of the port's slot, if the guest sees the page
abbrev pub HasLookedAt : ℕ → LiveModel → LiveModel → Type 0
HasLookedAt port old now =
    (target : Port) → port_at (ports_of old.board.state) port ≡ Some target → IsShown old.board.state target.vp kind.Sim
    → HasLooked (32 * target.sint) (log_of old target.vp kind.Sim) (log_of now target.vp kind.Sim)

-- a post to a port that is open stores all words of the port's slot, the header last, or nothing
abbrev pub HasPlacedAt : ℕ → LiveModel → LiveModel → Type 0
HasPlacedAt port old now =
    (target : Port) → port_at (ports_of old.board.state) port ≡ Some target
    → HasPlaced target.sint (slot_word now.board.state target.vp target.sint)
    (log_of old target.vp kind.Sim) (log_of now target.vp kind.Sim)

-- the host accesses no page but one of a processor
abbrev pub AccessesOnlyAt : ℕ → Kind → LiveModel → LiveModel → Type 0
AccessesOnlyAt p k old now =
    (j : ℕ) → j ≢ overlay_of p k → slice_index_or now.pages j [] ≡ slice_index_or old.pages j []

-- the host accesses no page but that of a port's source, and none if the port is not open
abbrev pub AccessesOnly : ℕ → Kind → LiveModel → LiveModel → Type 0
AccessesOnly port k old now =
    ((target : Port) → port_at (ports_of old.board.state) port ≡ Some target → AccessesOnlyAt target.vp k old now)
    × (port_at (ports_of old.board.state) port ≡ None → now.pages ≡ old.pages)

-- before an EOM of a processor on the board, the host probes the slots of the sources that wait, if the guest sees
-- the page
abbrev pub HasProbedAt : ℕ → LiveModel → LiveModel → Type 0
HasProbedAt p old now =
    p < processors old.board.state → IsShown old.board.state p kind.Sim
    → HasProbed old.board.state p (log_of old p kind.Sim) (log_of now p kind.Sim)

-- an EOM of a processor with no queued message accesses no live page
abbrev pub IsIdleAt : ℕ → LiveModel → LiveModel → Type 0
IsIdleAt p old now = NoneQueued old.board.state p → now.pages ≡ old.pages

-- an EOM of a processor, which accesses no page but its message page
abbrev pub IsEnded : ℕ → LiveModel → Event → LiveModel → Reply → List Notice → Type 0
IsEnded p old event now reply notices =
    IsLive old event now reply notices × HasProbedAt p old now × IsIdleAt p old now
    × AccessesOnlyAt p kind.Sim old now

-- the EOM that the board performs for a processor
abbrev pub eom_by : ℕ → Event
eom_by p = Write p 0x40000084 0

-- an EOM of a processor that is owed one
abbrev pub IsPaid : Bool → ℕ → LiveModel → LiveModel → List Notice → Type 0
IsPaid true p old now notices = IsEnded p old (eom_by p) now Done notices
IsPaid false p old now notices = (now ≡ old) × (notices ≡ [])

-- an EOM of each processor below n that is owed one, in order
abbrev pub ArePaid : ℕ → ℕ → LiveModel → LiveModel → List Notice → Type 0
ArePaid owed zero old now notices = (now ≡ old) × (notices ≡ [])
ArePaid owed (suc n) old now notices =
    (mid : LiveModel) × (first : List Notice) × (last : List Notice) × ArePaid owed n old mid first
    × IsPaid (has_processor owed n) n mid now last × (notices ≡ first ++ last)

-- a write of a timer that is in message mode then, and the EOM that its processor is owed
pub record IsTimedPaid (p : ℕ) (old : LiveModel) (event : Event) (now : LiveModel) (reply : Reply) (owed : ℕ)
    (notices : List Notice) : Type 0 where
  pub mid : LiveModel
  pub first : List Notice
  pub last : List Notice
  pub timed : IsTimed p old event mid reply (has_processor owed p) first
  pub paid : IsPaid (has_processor owed p) p mid now last
  pub unowed : (q : ℕ) → q ≢ p → has_processor owed q ≡ false
  pub joined : notices ≡ first ++ last

-- a tick, and the EOMs that processors are owed
pub record IsTickedPaid (old : LiveModel) (moment : ℕ) (now : LiveModel) (reply : Reply) (owed : ℕ)
    (notices : List Notice) : Type 0 where
  pub mid : LiveModel
  pub first : List Notice
  pub last : List Notice
  pub ticked : IsTicked old moment mid reply owed first
  pub paid : ArePaid owed (processors old.board.state) mid now last
  pub joined : notices ≡ first ++ last

-- a write of a timer, by whether its processor is on the board, and whether the timer is in direct mode then
abbrev pub IsTimedWrite : Bool → Bool → ℕ → LiveModel → Event → LiveModel → Reply → ℕ → List Notice → Type 0
IsTimedWrite true false p old event now reply owed notices = IsTimedPaid p old event now reply owed notices
IsTimedWrite on direct p old event now reply owed notices = IsQuietly old event now reply notices × (owed ≡ 0)

-- the value that a write writes
abbrev pub written_value : Event → ℕ
written_value (Write p number value) = value
written_value _ = 0

-- a write of a register, by the register
abbrev pub IsRegisterWrite : Option Register → ℕ → LiveModel → Event → LiveModel → Reply → ℕ → List Notice → Type 0
IsRegisterWrite (Some Eom) p old event now reply owed notices = IsEnded p old event now reply notices × (owed ≡ 0)
IsRegisterWrite (Some (TimerConfig n)) p old event now reply owed notices =
    IsTimedWrite (nat_lt p (processors old.board.state)) (is_direct_write old.board.state event) p old event now reply
    owed notices
IsRegisterWrite (Some (TimerCount n)) p old event now reply owed notices =
    IsTimedWrite (nat_lt p (processors old.board.state)) (is_direct_write old.board.state event) p old event now reply
    owed notices
IsRegisterWrite (Some Sim) p old event now reply owed notices =
    IsHiding p (written_value event) old event now reply notices × (owed ≡ 0)
IsRegisterWrite (Some Sief) p old event now reply owed notices =
    IsHiding p (written_value event) old event now reply notices × (owed ≡ 0)
IsRegisterWrite other p old event now reply owed notices = IsQuietly old event now reply notices × (owed ≡ 0)

-- an access of the guest to memory: where the guest sees a live page, the access is the caller's to make
abbrev pub IsAccess : Bool → LiveModel → Event → LiveModel → Reply → List Notice → Type 0
IsAccess true old event now reply notices = (now ≡ old) × (reply ≡ Refused Elsewhere) × (notices ≡ [])
IsAccess false old event now reply notices = IsQuietly old event now reply notices

-- a reset of a processor, if it is on the board
abbrev pub IsResetOf : Bool → ℕ → LiveModel → LiveModel → Reply → List Notice → Type 0
IsResetOf true p old now reply notices = IsReset p old now reply notices
IsResetOf false p old now reply notices = IsQuietly old (Reset p) now reply notices

-- A live board performs an event, and then an EOM of each processor that is owed one after it. Only a write of a
-- timer or a tick may owe one.
abbrev pub Acts : LiveModel → Event → LiveModel → Reply → ℕ → List Notice → Type 0
Acts old (Post port type payload) now reply owed notices =
    IsLive old (Post port type payload) now reply notices × HasLookedAt port old now × HasPlacedAt port old now
    × AccessesOnly port kind.Sim old now × (owed ≡ 0)
Acts old (Signal port flag) now reply owed notices =
    IsLive old (Signal port flag) now reply notices × HasSetAt port flag old now reply
    × AccessesOnly port kind.Sief old now × (owed ≡ 0)
Acts old (Write p number value) now reply owed notices =
    IsRegisterWrite (register_of number) p old (Write p number value) now reply owed notices
Acts old (Store address bytes) now reply owed notices =
    IsAccess (is_covered (space_of old.board.state) (address / 4096)) old (Store address bytes) now reply notices
    × (owed ≡ 0)
Acts old (Load address count) now reply owed notices =
    IsAccess (is_covered (space_of old.board.state) (address / 4096)) old (Load address count) now reply notices
    × (owed ≡ 0)
Acts old (Tick moment) now reply owed notices = IsTickedPaid old moment now reply owed notices
Acts old (Reset p) now reply owed notices =
    IsResetOf (nat_lt p (processors old.board.state)) p old now reply notices × (owed ≡ 0)
Acts old event now reply owed notices = IsQuietly old event now reply notices × (owed ≡ 0)
