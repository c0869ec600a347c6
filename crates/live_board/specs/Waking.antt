-- The guest's wake-up for a message that stays queued (TLFS, "Message Delivery"): it finds MessagePending in the slot
-- that it empties.
use Rattle.std.specs.Prelude.{◌≡◌, ◌≢◌, ◌⊎◌, ℕ, ◌++◌, Bool, true, false, List, [], ◌∷◌}
use Rattle.board_terms.specs.declared.pages.Kind.TheVariants.{Sim}
use Rattle.message_queues.specs.Queues.{queue_of}
use Rattle.live_pages.specs.Words.{known, header, type_of, is_pending}
use Rattle.live_pages.specs.declared.access.Turn.{Turn}
use Rattle.live_pages.specs.declared.access.Turn.TheVariants.{ByHost, ByGuest}
use Rattle.live_pages.specs.Traces.{memory, accesses, is_of, is_accessed}
use Rattle.live_pages.specs.Protocol.{idle, cleared}
use Rattle.live_pages.specs.Headers.{Slot}
use Rattle.live_pages.specs.declared.access.Access.{Access}
use Rattle.live_board.specs.Live.{LiveModel, IsShown, log_of, is_waiting}

-- a word that the guest has not stored since the host's last access to it, if there is one
abbrev pub IsUntouched : ℕ → List Turn → Type 0
IsUntouched w [] = Unit {0}
IsUntouched w (ByGuest x value ∷ turns) = (w ≢ x) × IsUntouched w turns
IsUntouched w (ByHost a ∷ turns) = (is_of w a ≡ true) ⊎ IsUntouched w turns

-- the host accesses the header of a slot, and the last time it finds or leaves it occupied and with MessagePending. A
-- guest that empties the slot does it later, and then loads the flags: it finds MessagePending, and writes EOM
pub record IsLeftMarked (i : ℕ) (log now : List Access) : Type 0 where
  pub news : List Access
  pub page : now ≡ news ++ log
  pub accessed : is_accessed (header i) news ≡ true
  pub occupied : type_of (known now (header i)) ≢ 0
  pub pending : is_pending (known now (header i)) ≡ true

-- if a message waits for a source after a call, and the guest sees the message page, its slot is left marked in that
-- call
abbrev pub LeavesMarked : ℕ → ℕ → LiveModel → LiveModel → Type 0
LeavesMarked p i old now =
    IsShown old.board.state p Sim → is_waiting now.board.state p i ≡ true
    → IsLeftMarked i (log_of old p Sim) (log_of now p Sim)

-- the same if other messages wait for the source than before the call
abbrev pub LeavesNewMarked : ℕ → ℕ → LiveModel → LiveModel → Type 0
LeavesNewMarked p i old now =
    queue_of now.board.state.queues p i ≢ queue_of old.board.state.queues p i → LeavesMarked p i old now

-- and unless the processor is owed an EOM
abbrev pub LeavesMarkedUnlessOwed : ℕ → ℕ → LiveModel → LiveModel → Bool → Type 0
LeavesMarkedUnlessOwed p i old now owed = owed ≡ false → LeavesNewMarked p i old now

-- in a history of a page there was a time in a call, whose accesses follow a log, when the host had accessed the header
-- of a slot and memory had it occupied and with MessagePending, and since then the host has not accessed it
pub record WasMarked (i : ℕ) (log : List Access) (turns : List Turn) : Type 0 where
  pub since : List Turn
  pub before : List Turn
  pub split : turns ≡ since ++ before
  pub call : List Access
  pub within : accesses before ≡ call ++ log
  pub accessed : is_accessed (header i) call ≡ true
  pub occupied : type_of (memory before (header i)) ≢ 0
  pub pending : is_pending (memory before (header i)) ≡ true
  pub untouched : is_accessed (header i) (accesses since) ≡ false

-- a header and a guest as they may be when the host has left a slot marked: a guest's store of type 0 is in its buffer
-- only until the guest loads the flags
pub record MayFollow (word : ℕ) (s : Slot) : Type 0 where
  pub header : s.header ≡ word
  pub host : s.host ≡ idle
  pub guest : s.buffered ≡ true → s.guest ≡ cleared
