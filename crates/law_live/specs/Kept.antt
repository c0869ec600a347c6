-- What the calls of a live board do in a message slot whose message a guest reads: nothing but to set MessagePending.
use Rattle.std.specs.Prelude.{◌≡◌, ◌<◌, ◌++◌, ℕ, Bool, List, [], ◌∷◌, Some}
use Rattle.arrayvec.specs.ArrayVec.{ArrayVec}
use Rattle.board_terms.specs.Quantities.{Processor}
use Rattle.board_terms.specs.declared.notices.Notice.{Notice}
use Rattle.board_terms.specs.declared.pages.Kind.TheVariants.{Sim}
use Rattle.event_ports.specs.declared.ports.Port.{Port}
use Rattle.event_ports.specs.Ports.{port_at}
use Rattle.synic_board.specs.declared.event.Event.{Event}
use Rattle.synic_board.specs.declared.event.Event.TheVariants.{Post}
use Rattle.synic_board.specs.declared.event.Reply.{Reply}
use Rattle.synic_board.specs.State.{ports_of}
use Rattle.live_pages.specs.Words.{header}
use Rattle.live_pages.specs.declared.access.Access.{Access}
use Rattle.live_board.specs.Acting.{HasPlacedAt, IsEnded}
use Rattle.live_board.specs.Live.{LiveModel, IsLive, IsTimed, IsTicked, IsShown, log_of}
use Rattle.law_slots.specs.Reading.{KeepsSlot}
use Rattle.law_live.specs.Alone.{IsReady}

-- some accesses, the last first, of which each is one that a host may make in the slot with header x
abbrev pub AreKept : ℕ → List Access → List Access → Type 0
AreKept x [] log = Unit {0}
AreKept x (a ∷ news) log = KeepsSlot x (news ++ log) a × AreKept x news log

-- the accesses to the message page of processor p are such, in each slot
pub record KeepsSlots (p : Processor) (old now : LiveModel) : Type 0 where
  pub news : List Access
  pub page : log_of now p Sim ≡ news ++ log_of old p Sim
  pub kept : (i : ℕ) → i < 16 → AreKept (header i) news (log_of old p Sim)

abbrev pub PostsKeepSlots : Type 0
PostsKeepSlots =
    (old now : LiveModel) (port type : ℕ) (payload : ArrayVec ℕ) (target : Port) (reply : Reply) (notices : List Notice)
    → IsReady target.vp old → port_at (ports_of old.board.state) port ≡ Some target
    → IsShown old.board.state target.vp Sim → IsLive old (Post port type payload) now reply notices
    → HasPlacedAt port old now → KeepsSlots target.vp old now

abbrev pub EomsKeepSlots : Type 0
EomsKeepSlots =
    (p : Processor) (old now : LiveModel) (event : Event) (reply : Reply) (notices : List Notice) → IsReady p old
    → IsShown old.board.state p Sim → IsEnded p old event now reply notices → KeepsSlots p old now

abbrev pub TimersKeepSlots : Type 0
TimersKeepSlots =
    (p : Processor) (old now : LiveModel) (event : Event) (reply : Reply) (owed : Bool) (notices : List Notice)
    → IsReady p old → IsShown old.board.state p Sim → IsTimed p old event now reply owed notices
    → KeepsSlots p old now

abbrev pub TicksKeepSlots : Type 0
TicksKeepSlots =
    (p : Processor) (old now : LiveModel) (moment : ℕ) (reply : Reply) (owed : ℕ) (notices : List Notice)
    → IsReady p old → IsShown old.board.state p Sim → IsTicked old moment now reply owed notices
    → KeepsSlots p old now
