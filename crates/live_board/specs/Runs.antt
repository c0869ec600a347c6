-- A whole run of a live board and its guest: some calls, and what the reference model makes of them.
use Rattle.std.specs.Prelude.{◌≡◌, ◌⊎◌, ℕ, zero, suc, ◌≤◌, Bool, true, false, List, [], ◌∷◌, ◌++◌}
use Rattle.std.specs.Int.{to_le_bytes, w64}
use Rattle.std.specs.List.{All}
use Rattle.board_terms.specs.declared.notices.Notice.{Notice}
use Rattle.board_terms.specs.declared.refusal.Refusal.TheVariants.{Elsewhere}
use Rattle.synic_board.specs.declared.event.Event.{Event}
use Rattle.synic_board.specs.declared.event.Event.TheVariants.{Store}
use Rattle.synic_board.specs.declared.event.Reply.{Reply}
use Rattle.synic_board.specs.declared.event.Reply.TheVariants.{Refused}
use Rattle.synic_board.specs.State.{State}
use Rattle.synic_board.specs.Run.{run_of}
use Rattle.live_board.specs.Live.{LiveModel, all_done, has_processor}
use Rattle.live_board.specs.Acting.{Acts, eom_by}

-- a call: its event, and what the live board answered
pub record Call : Type 0 where
  pub event : Event
  pub reply : Reply
  pub owed : ℕ
  pub notices : List Notice

-- some calls, one after another, take a live board from one state to another
abbrev pub AreCalls : LiveModel → List Call → LiveModel → Type 0
AreCalls old [] now = now ≡ old
AreCalls old (c ∷ calls) now =
    (mid : LiveModel) × Acts old c.event mid c.reply c.owed c.notices × AreCalls mid calls now

-- a store of a word by the guest
abbrev pub IsGuestStore : Event → Type 0
IsGuestStore event = (address : ℕ) × (value : ℕ) × (event ≡ Store address (record { items = to_le_bytes w64 value }))

-- an EOM of a processor, if it is owed one, after stores of the guest
abbrev pub IsEomIf : Bool → ℕ → List Event → Type 0
IsEomIf true p events = (before : List Event) × All IsGuestStore before × (events ≡ before ++ eom_by p ∷ [])
IsEomIf false p events = events ≡ []

-- an EOM of each processor below n that is owed one, in order, with stores of the guest before and after each
abbrev pub HaveEoms : ℕ → ℕ → List Event → Type 0
HaveEoms owed zero events = All IsGuestStore events
HaveEoms owed (suc n) events =
    (before : List Event) × (after : List Event) × (events ≡ before ++ after) × HaveEoms owed n before
    × IsEomIf (has_processor owed n) n after

-- an EOM of each processor that is owed one
abbrev pub HaveAllEoms : ℕ → List Event → Type 0
HaveAllEoms owed events =
    (n : ℕ) × ((p : ℕ) → n ≤ p → has_processor owed p ≡ false) × HaveEoms owed n events

-- the events of the calls in their order, each once, with stores of the guest before and after each, and after them
-- the EOMs that processors are owed, and the replies to all of them. An access of the guest that the caller makes in a
-- live page itself is not among them
abbrev pub HasBetween : List Call → List Event → List Reply → Type 0
HasBetween [] events replies = (events ≡ []) × (replies ≡ [])
HasBetween (c ∷ calls) events replies =
    ((c.reply ≡ Refused Elsewhere) × HasBetween calls events replies)
    ⊎ ((before : List Event) × (after : List Event) × (later : List Event) × (more : List Reply)
    × All IsGuestStore before × HaveAllEoms c.owed after
    × (events ≡ (before ++ c.event ∷ after) ++ later)
    × (replies ≡ (all_done before ++ c.reply ∷ all_done after) ++ more) × HasBetween calls later more)

-- the notices of all calls
abbrev pub notices_of : List Call → List Notice
notices_of [] = []
notices_of (c ∷ calls) = c.notices ++ notices_of calls

-- the reference model performs the events of some calls, with stores of the guest in between, and gets from one state
-- to another with the replies and notices of the calls
pub record IsRunOf (calls : List Call) (s now : State) : Type 0 where
  pub events : List Event
  pub replies : List Reply
  pub between : HasBetween calls events replies
  pub run : run_of s events ≡ (now, replies, notices_of calls)
