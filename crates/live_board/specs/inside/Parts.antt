-- The parts of a call on a live board.
use Rattle.std.specs.Prelude.{Bool, true, false, slice_index_or, slice_set, ◌*◌, ◌/◌, ◌%◌, ◌^◌, ◌==◌, ◌&&◌, is_none, Some, if◌then◌else◌, ◌≡◌, ◌≢◌, ◌⊎◌, ℕ, ◌≤◌, ◌<◌, List, [], ◌∷◌, ◌++◌, length, slice_index, bit_or, ◌+◌}
use Rattle.board_terms.specs.declared.notices.Notice.{Notice}
use Rattle.board_terms.specs.declared.pages.Kind.{Kind}
use Rattle.gpa_space.specs.Space.{overlay_of}
use Rattle.event_ports.specs.declared.ports.Port.{Port}
use Rattle.event_ports.specs.Ports.{port_at, is_posted_type}
use Rattle.event_ports.specs.Shapes.{takes_messages}
use Rattle.synic_board.specs.State.{State, processors, ports_of}
use Rattle.synic_board.specs.Delivery.{delivers, is_slot_empty}
use Rattle.synic_board.specs.Slots.{slot_byte}
use Rattle.synic_board.specs.Posts.{post_refusal}
use Rattle.synic_board.specs.Run.{run_of}
use Rattle.synic_board.specs.Step.{step}
use Rattle.synic_board.specs.Bounds.{most_notices}
use Rattle.synic_board.specs.declared.event.Event.{Event}
use Rattle.synic_board.specs.declared.event.Event.TheVariants.{Write, Tick}
use Rattle.synic_regs.specs.declared.register.Register.TheVariants.{Eom}
use Rattle.synic_regs.specs.Registers.{register_of}
use Rattle.synic_board.specs.declared.event.Reply.{Reply}
use Rattle.board_terms.specs.declared.pages.Kind.TheVariants.{Sim, Sief}
use Rattle.live_pages.specs.Words.{known, type_of, is_pending}
use Rattle.live_pages.specs.declared.access.Access.{Access}
use Rattle.live_pages.specs.declared.access.Access.TheVariants.{Load, FetchOr}
use Rattle.live_board.specs.Timers.{is_timer_register}
use Rattle.std.specs.Option.{option_map_or}
use Rattle.live_board.specs.Signals.{signalled_flag}
use Rattle.live_board.specs.Words.{word_of}
use Rattle.live_board.specs.Refreshing.{AreLoads, AreAllLoads}
use Rattle.live_pages.specs.Page.{Page, GuestModel, guest_of}
use Rattle.live_board.specs.Live.{guests_of, store_of, explained, all_done, AreCareful, HasLooked, AreReads, ArePlaced, ArePuts, IsStoredAnew, AreLooks, AreStores, AreProbes, IsProbe, is_waiting, IsShown, explained_after, AreMarks, finds_empty, AreTimed, AreDueDirect, looked_from, marked_from, has_processor, AreClears, FindInPage}
use Rattle.live_board.specs.inside.Pages.{logs_of, names_of}

-- a word that the host found is a guest's store if the reference model has another one
abbrev pub found_stores : State → ℕ → Kind → ℕ → ℕ → List Event
found_stores s p k w value = if value == word_of s (overlay_of p k) w then [] else store_of s p k w value ∷ []

-- the reference model performs the store that a word shows, if any
abbrev pub IsPassed : State → ℕ → Kind → ℕ → ℕ → State → List Notice → Type 0
IsPassed s p k w value now notices =
    run_of s (found_stores s p k w value) ≡ (now, all_done (found_stores s p k w value), notices)

-- a state after a word of an own page was passed
pub record HasWord (s : State) (o w value : ℕ) (now : State) : Type 0 where
  pub rest : now ≡ record s { own = now.own; slots = now.slots }
  pub count : length now.own ≡ length s.own
  pub here : word_of now o w ≡ value
  pub others : (j x : ℕ) → (j ≢ o) ⊎ (x ≢ w) → word_of now j x ≡ word_of s j x
  pub same : (j : ℕ) → j ≢ o → slice_index_or now.own j [] ≡ slice_index_or s.own j []

-- each word of one own page is what the host last found or wrote
abbrev pub IsShadow : State → ℕ → List Access → Type 0
IsShadow s o log = (w : ℕ) → w < 512 → known log w ≡ word_of s o w

-- one page more has the words of an own page, and its guest has made no turn
abbrev pub IsCopied : State → ℕ → List Page → List GuestModel → List Page → List GuestModel → Type 0
IsCopied s o pages guests pages-now guests-now =
    (page : Page) × (pages-now ≡ pages ++ page ∷ []) × (guests-now ≡ guests ++ guest_of page.name [] ∷ [])
    × IsShadow s o page.log

-- the pages below k have the words of the own pages, and their guests have made no turn
abbrev pub AreCopied : State → ℕ → List Page → List GuestModel → Type 0
AreCopied s k pages guests =
    (length pages ≡ k) × ((j w : ℕ) → j < k → w < 512 → known (slice_index_or (logs_of pages) j []) w ≡ word_of s j w)
    × (guests ≡ guests_of (names_of pages))

-- the other own pages are the same
abbrev pub LeavesOthers : State → ℕ → State → Type 0
LeavesOthers s o now = (j w : ℕ) → w < 512 → j ≢ o → word_of now j w ≡ word_of s j w

-- a word was passed, and its notices follow those before
pub record IsPassedOn (s : State) (p : ℕ) (k : Kind) (w value : ℕ) (now : State)
    (before after : List Notice) : Type 0 where
  pub emitted : List Notice
  pub notices : after ≡ before ++ emitted
  pub few : length emitted ≤ 1
  pub passed : IsPassed s p k w value now emitted
  pub word : HasWord s (overlay_of p k) w value now

-- some looks at an own page: the state then, with the notices of the stores that they show
pub record IsWatched (s : State) (p : ℕ) (k : Kind) (log : List Access) (now : State) (log_now : List Access)
    (notices : List Notice) : Type 0 where
  pub news : List Access
  pub page : log_now ≡ news ++ log
  pub run : run_of s (explained s p k news log) ≡ (now, all_done (explained s p k news log), notices)
  pub careful : AreCareful k news log
  pub within : FindInPage news
  pub hidden : (IsShown s p k → ⊥) → explained s p k news log ≡ []
  pub rest : now ≡ record s { own = now.own; slots = now.slots }
  pub count : length now.own ≡ length s.own
  pub others : LeavesOthers s (overlay_of p k) now
  pub same : (j : ℕ) → j ≢ overlay_of p k → slice_index_or now.own j [] ≡ slice_index_or s.own j []

-- one look at a word, after which the page is a shadow if it was one
pub record IsLook (s : State) (p : ℕ) (k : Kind) (w : ℕ) (log : List Access) (now : State) (log_now : List Access)
    (found : ℕ) (before after : List Notice) : Type 0 where
  pub emitted : List Notice
  pub notices : after ≡ before ++ emitted
  pub few : length emitted ≤ 1
  pub page : log_now ≡ Load w found ∷ log
  pub watched : IsWatched s p k log now log_now emitted
  pub news : watched.news ≡ Load w found ∷ []
  pub word : HasWord s (overlay_of p k) w found now
  pub here : known log_now w ≡ found
  pub others : (x : ℕ) → x ≢ w → known log_now x ≡ known log x
  pub shadow : IsShadow s (overlay_of p k) log → IsShadow now (overlay_of p k) log_now

-- an atomic or of a word
pub record IsMark (s : State) (p : ℕ) (k : Kind) (w mask : ℕ) (log : List Access) (now : State)
    (log_now : List Access) (found : ℕ) (before after : List Notice) : Type 0 where
  pub emitted : List Notice
  pub notices : after ≡ before ++ emitted
  pub few : length emitted ≤ 1
  pub page : log_now ≡ FetchOr w mask found ∷ log
  pub watched : IsWatched s p k log now log_now emitted
  pub news : watched.news ≡ FetchOr w mask found ∷ []
  pub word : HasWord s (overlay_of p k) w found now
  pub here : known log_now w ≡ bit_or found mask
  pub others : (x : ℕ) → x ≢ w → known log_now x ≡ known log x

-- a post to an open port makes a delivery attempt
abbrev pub is_attempted : State → ℕ → ℕ → Port → Bool
is_attempted s number kind port =
    ((takes_messages port.shape && is_posted_type kind) && is_none (post_refusal s number port.vp port.shape))
    && delivers s port.vp

-- the words of own pages after what attempts at most at one source: those of other slots stay; if nothing is attempted
-- all stay; an occupied slot is marked
pub record Attempts (s : State) (p i : ℕ) (made : Bool) (now : State) : Type 0 where
  pub count : length now.own ≡ length s.own
  pub others : (j x : ℕ) → x < 512 → (j ≢ 2 * p) ⊎ (x / 32 ≢ i) → word_of now j x ≡ word_of s j x
  pub idle : made ≡ false → (j x : ℕ) → word_of now j x ≡ word_of s j x
  pub marks : made ≡ true → is_slot_empty s p i ≡ false → (x : ℕ) → x < 512
      → word_of now (2 * p) x ≡ (if x == 32 * i then bit_or (word_of s (2 * p) x) (2 ^ 40) else word_of s (2 * p) x)
  pub fills : made ≡ true → is_slot_empty s p i ≡ true → is_slot_empty now p i ≡ false

-- the words of a slot
abbrev pub AreSlotWords : State → ℕ → ℕ → List ℕ → Type 0
AreSlotWords s p i words = (k : ℕ) → k < 32 → slice_index words k ≡ word_of s (2 * p) (32 * i + k)

-- a slot has these words, by stores that are careful if its header was known to be empty
pub record IsFilled (i header : ℕ) (after : List ℕ) (log now : List Access) : Type 0 where
  pub news : List Access
  pub page : now ≡ news ++ log
  pub stores : AreStores news
  pub careful : type_of header ≡ 0 → AreCareful Sim news log
  pub words : (k : ℕ) → k < 32 → known now (32 * i + k) ≡ slice_index after k
  pub others : (x : ℕ) → x / 32 ≢ i → known now x ≡ known log x
  -- all its words are stored, the header last and another one, or none
  pub placed : ((slice_index after 0 ≡ header) × (news ≡ [])) ⊎ IsStoredAnew i (slice_index after) log news

-- its words 1 to k - 1 are stored
pub record IsFilling (i header : ℕ) (after : List ℕ) (k : ℕ) (log now : List Access) : Type 0 where
  pub news : List Access
  pub page : now ≡ news ++ log
  pub placed : (n : ℕ) → k ≡ n + 1 → ArePuts i (slice_index after) n news
  pub stores : AreStores news
  pub careful : type_of header ≡ 0 → AreCareful Sim news log
  pub head : known now (32 * i) ≡ header
  pub done : (j : ℕ) → 1 ≤ j → j < k → known now (32 * i + j) ≡ slice_index after j
  pub others : (x : ℕ) → x / 32 ≢ i → known now x ≡ known log x

-- the header of a port's slot was found, and is marked if a post makes an attempt there that finds it occupied
pub record IsFound (s : State) (number kind : ℕ) (port : Port) (log : List Access) (now : State)
    (log_now : List Access) (header left : ℕ) (before after : List Notice) : Type 0 where
  pub emitted : List Notice
  pub notices : after ≡ before ++ emitted
  pub few : length emitted ≤ 2
  pub watched : IsWatched s port.vp Sim log now log_now emitted
  pub here : word_of now (2 * port.vp) (32 * port.sint) ≡ header
  pub known_here : known log_now (32 * port.sint) ≡ left
  pub others : (x : ℕ) → x < 512 → x ≢ 32 * port.sint → known log_now x ≡ word_of now (2 * port.vp) x
  pub looked : HasLooked (32 * port.sint) log log_now
  pub reads : AreReads port.sint watched.news
  pub exact : ((left ≡ header)
      × ((type_of header ≡ 0) ⊎ ((is_pending header ≡ true) ⊎ (is_attempted s number kind port ≡ false))))
      ⊎ ((left ≡ bit_or header (2 ^ 40)) × (is_attempted s number kind port ≡ true))

-- an event, with its notices after those before
pub record IsStep (s : State) (event : Event) (now : State) (reply : Reply) (before after : List Notice) : Type 0 where
  pub emitted : List Notice
  pub notices : after ≡ before ++ emitted
  pub step : (now, reply, emitted) ≡ step s event
  pub bound : length emitted ≤ most_notices event

-- an event, after which the slot of a port is filled
pub record IsInto (port : Port) (left : ℕ) (s : State) (log : List Access) (event : Event) (now : State)
    (log_now : List Access) (reply : Reply) (before after : List Notice) : Type 0 where
  pub step : IsStep s event now reply before after
  pub words : List ℕ
  pub are : AreSlotWords now port.vp port.sint words
  pub filled : IsFilled port.sint left words log log_now

-- a call on one page: the guest's stores that its accesses show, and then an event
pub record IsPart (s : State) (p : ℕ) (k : Kind) (log : List Access) (event : Event) (now : State)
    (log_now : List Access) (reply : Reply) (notices : List Notice) : Type 0 where
  pub news : List Access
  pub page : log_now ≡ news ++ log
  pub run : run_of s (explained s p k news log ++ event ∷ [])
      ≡ (now, all_done (explained s p k news log) ++ reply ∷ [], notices)
  pub careful : IsShown s p k → AreCareful k news log
  pub within : FindInPage news
  pub hidden : (IsShown s p k → ⊥) → explained s p k news log ≡ []
  pub shadow : IsShadow now (overlay_of p k) log_now
  pub others : LeavesOthers s (overlay_of p k) now
  pub count : length now.own ≡ length s.own

-- a signal that the board refuses, or of a flag in a page that the guest does not see
abbrev pub IsUnseen : State → ℕ → ℕ → Type 0
IsUnseen s number flag =
    (port : Port) (f : ℕ) → port_at (ports_of s) number ≡ Some port → signalled_flag s flag port ≡ Some f
    → IsShown s port.vp Sief → ⊥

-- looks at the headers of the slots below n of a message page, after which it is a shadow
pub record IsLooks (s : State) (p : ℕ) (log : List Access) (now : State) (log_now : List Access)
    (notices : List Notice) (n : ℕ) : Type 0 where
  pub watched : IsWatched s p Sim log now log_now notices
  pub shadow : IsShadow now (2 * p) log_now
  pub few : length notices ≤ n
  pub looks : AreLooks n watched.news

-- looks at the headers of the slots below n, each of which is what the board has, and a load of the next
pub record IsOther (s : State) (p n found : ℕ) (log log_now : List Access) : Type 0 where
  pub below : n < 16
  pub same : List Access
  pub looks : IsLooks s p log s same [] n
  pub page : log_now ≡ Load (32 * n) found ∷ same

-- a look at each slot of a message page, if the guest sees it
pub record IsViewed (s : State) (p : ℕ) (log : List Access) (now : State) (log_now : List Access)
    (notices : List Notice) : Type 0 where
  pub watched : IsWatched s p Sim log now log_now notices
  pub shadow : IsShadow now (2 * p) log_now
  pub few : length notices ≤ 16
  pub shown : IsShown s p Sim → AreLooks 16 watched.news
  pub hidden : (IsShown s p Sim → ⊥) → watched.news ≡ []

-- loads of the words below n of an own page, after which it is a shadow. Only a word with a type may show that a
-- message was consumed
pub record IsLoads (s : State) (p : ℕ) (k : Kind) (log : List Access) (now : State) (log_now : List Access)
    (before after : List Notice) (n : ℕ) : Type 0 where
  pub emitted : List Notice
  pub notices : after ≡ before ++ emitted
  pub few : length emitted ≤ (n + 31) / 32
  pub watched : IsWatched s p k log now log_now emitted
  pub shadow : IsShadow now (overlay_of p k) log_now
  pub loads : AreLoads n watched.news

-- loads of all words of an own page, if the guest sees it
pub record IsLoaded (s : State) (p : ℕ) (k : Kind) (log : List Access) (now : State) (log_now : List Access)
    (before after : List Notice) : Type 0 where
  pub emitted : List Notice
  pub notices : after ≡ before ++ emitted
  pub few : length emitted ≤ 16
  pub watched : IsWatched s p k log now log_now emitted
  pub shadow : IsShadow now (overlay_of p k) log_now
  pub are : AreAllLoads s p k watched.news

-- the header that a probe of a slot leaves: an occupied one is marked
abbrev pub IsLeft : Bool → ℕ → ℕ → Type 0
IsLeft true header left = ((type_of header ≡ 0) × (type_of left ≡ 0)) ⊎ (left ≡ bit_or header (2 ^ 40))
IsLeft false header left = left ≡ header

-- one probe of a slot
pub record IsProbed (s : State) (p i : ℕ) (log : List Access) (now : State) (log_now : List Access) (left : ℕ)
    (before after : List Notice) : Type 0 where
  pub emitted : List Notice
  pub notices : after ≡ before ++ emitted
  pub few : length emitted ≤ 2
  pub watched : IsWatched s p Sim log now log_now emitted
  pub probe : IsProbe i watched.news
  pub words : (x : ℕ) → x ≢ 32 * i → word_of now (2 * p) x ≡ word_of s (2 * p) x
  pub here : known log_now (32 * i) ≡ left
  pub others : (x : ℕ) → x ≢ 32 * i → known log_now x ≡ known log x
  pub exact : IsLeft true (word_of now (2 * p) (32 * i)) left

-- probes of the slots below n whose sources wait, after which the words are what the host knows
pub record IsProbing (s : State) (p : ℕ) (log : List Access) (now : State) (log_now : List Access) (words : List ℕ)
    (notices : List Notice) (n : ℕ) : Type 0 where
  pub watched : IsWatched s p Sim log now log_now notices
  pub probes : AreProbes s p n watched.news
  pub few : length notices ≤ 2 * n
  pub count : length words ≡ 512
  pub knows : (x : ℕ) → x < 512 → known log_now x ≡ slice_index words x
  pub fresh : (x : ℕ) → x < 512 → (x % 32 ≢ 0) ⊎ (n ≤ x / 32) → known log_now x ≡ word_of now (2 * p) x
  pub exact : (i : ℕ) → i < n → IsLeft (is_waiting s p i) (word_of now (2 * p) (32 * i)) (known log_now (32 * i))

-- the slot of a source has the words of a state, by stores that are careful if its header was known to be empty
pub record IsFilledFrom (s : State) (p i header : ℕ) (log now : List Access) : Type 0 where
  pub words : List ℕ
  pub are : AreSlotWords s p i words
  pub filled : IsFilled i header words log now

-- each slot is as the host knows it if its header is
abbrev pub AreKept : State → ℕ → List ℕ → Type 0
AreKept s p words =
    (i : ℕ) → i < 16 → slice_index words (32 * i) ≡ word_of s (2 * p) (32 * i) → (w : ℕ) → w < 32
    → slice_index words (32 * i + w) ≡ word_of s (2 * p) (32 * i + w)

-- the slots below n of a message page have the words of a state, except for the occupied ones of a page that the
-- guest sees
pub record IsPublished (s : State) (p : ℕ) (shown : Bool) (words : List ℕ) (n : ℕ)
    (log now : List Access) : Type 0 where
  pub news : List Access
  pub page : now ≡ news ++ log
  pub stores : AreStores news
  pub placed : ArePlaced n log news
  pub careful : shown ≡ true → AreCareful Sim news log
  pub done : (x : ℕ) → x < 512 → x / 32 < n → (shown ≡ false) ⊎ (type_of (slice_index words (32 * (x / 32))) ≡ 0)
      → known now x ≡ word_of s (2 * p) x
  pub left : (x : ℕ) → x < 512 → (n ≤ x / 32) ⊎ ((shown ≡ true) × (type_of (slice_index words (32 * (x / 32))) ≢ 0))
      → known now x ≡ known log x

-- the words of a source's slot after an EOM
pub record SlotEnds (s : State) (p i : ℕ) (now : State) : Type 0 where
  pub idle : is_waiting s p i ≡ false → (w : ℕ) → w < 32
      → word_of now (2 * p) (32 * i + w) ≡ word_of s (2 * p) (32 * i + w)
  pub marks : is_waiting s p i ≡ true → is_slot_empty s p i ≡ false
      → word_of now (2 * p) (32 * i) ≡ bit_or (word_of s (2 * p) (32 * i)) (2 ^ 40)
  pub payload : is_waiting s p i ≡ true → is_slot_empty s p i ≡ false → (w : ℕ) → 1 ≤ w → w < 32
      → word_of now (2 * p) (32 * i + w) ≡ word_of s (2 * p) (32 * i + w)
  pub fills : is_waiting s p i ≡ true → is_slot_empty s p i ≡ true → is_slot_empty now p i ≡ false

-- the words of own pages after an EOM
pub record Ends (s : State) (p : ℕ) (now : State) : Type 0 where
  pub count : length now.own ≡ length s.own
  pub others : (j x : ℕ) → j ≢ 2 * p → word_of now j x ≡ word_of s j x
  pub slots : (i : ℕ) → i < 16 → SlotEnds s p i now

-- an event is an EOM of a processor on the board
abbrev pub IsEomOf : State → ℕ → Event → Type 0
IsEomOf s p (Write q number value) = (p < processors s) × (q ≡ p) × (register_of number ≡ Some Eom)
IsEomOf s p _ = ⊥

-- an event is a write of a timer of a processor on the board
abbrev pub IsTimerOf : State → ℕ → Event → Type 0
IsTimerOf s p (Write q number value) =
    (p < processors s) × (q ≡ p) × (option_map_or is_timer_register (register_of number) false ≡ true)
IsTimerOf s p _ = ⊥

-- a header that an event may have marked: what the host knew before it, what it knows now, and what the board has
abbrev pub MayBeMarked : ℕ → ℕ → ℕ → Type 0
MayBeMarked was left header = (left ≡ header) ⊎ ((type_of was ≢ 0) × (header ≡ bit_or was (2 ^ 40)))

-- a slot is marked if the event has marked it
pub record IsMarked (s : State) (p i : ℕ) (log : List Access) (now : State) (log_now : List Access) (owed : Bool)
    (before after : List Notice) : Type 0 where
  pub emitted : List Notice
  pub notices : after ≡ before ++ emitted
  pub few : length emitted ≤ 1
  pub news : List Access
  pub page : log_now ≡ news ++ log
  pub marks : AreMarks news
  pub run : run_of s (explained_after s p news log) ≡ (now, all_done (explained_after s p news log), emitted)
  pub word : HasWord s (2 * p) (32 * i) (word_of now (2 * p) (32 * i)) now
  pub here : known log_now (32 * i) ≡ word_of now (2 * p) (32 * i)
  pub others : (x : ℕ) → x ≢ 32 * i → known log_now x ≡ known log x
  pub owes : owed ≡ finds_empty news

-- the slots below n are marked where the event has marked them
pub record IsMarking (s : State) (p : ℕ) (words : List ℕ) (log : List Access) (now : State) (log_now : List Access)
    (owed : Bool) (before after : List Notice) (n : ℕ) : Type 0 where
  pub emitted : List Notice
  pub notices : after ≡ before ++ emitted
  pub few : length emitted ≤ n
  pub news : List Access
  pub page : log_now ≡ news ++ log
  pub marks : AreMarks news
  pub run : run_of s (explained_after s p news log) ≡ (now, all_done (explained_after s p news log), emitted)
  pub rest : now ≡ record s { own = now.own; slots = now.slots }
  pub count : length now.own ≡ length s.own
  pub others : LeavesOthers s (2 * p) now
  pub same : (j : ℕ) → j ≢ 2 * p → slice_index_or now.own j [] ≡ slice_index_or s.own j []
  pub owes : owed ≡ finds_empty news
  pub done : (x : ℕ) → x < 512 → (x % 32 ≢ 0) ⊎ (x / 32 < n) → known log_now x ≡ word_of now (2 * p) x
  pub heads : (i : ℕ) → i < 16 → n ≤ i
      → (type_of (slice_index words (32 * i)) ≢ 0 → known log_now (32 * i) ≡ slice_index words (32 * i))
      × MayBeMarked (slice_index words (32 * i)) (known log_now (32 * i)) (word_of now (2 * p) (32 * i))

-- a write of a timer on one page
pub record IsTimedPart (s : State) (p : ℕ) (log : List Access) (event : Event) (now : State) (log_now : List Access)
    (reply : Reply) (owed : Bool) (notices : List Notice) : Type 0 where
  pub looks : List Access
  pub stores : List Access
  pub marks : List Access
  pub are : AreTimed s p looks stores marks log
  pub page : log_now ≡ marks ++ (stores ++ (looks ++ log))
  pub run : run_of s (explained s p Sim looks log ++ event ∷ explained_after s p marks (stores ++ (looks ++ log)))
      ≡ (
        now,
        all_done (explained s p Sim looks log)
            ++ reply ∷ all_done (explained_after s p marks (stores ++ (looks ++ log))),
        notices,
      )
  pub owes : owed ≡ finds_empty marks
  pub shadow : IsShadow now (2 * p) log_now
  pub others : LeavesOthers s (2 * p) now
  pub count : length now.own ≡ length s.own

-- an occupied slot in which at most MessagePending is set
pub record SlotGrows (s : State) (p i : ℕ) (now : State) : Type 0 where
  pub bytes : (b : ℕ) → b < 256 → b ≢ 5 → slot_byte now p i b ≡ slot_byte s p i b
  pub flags : (slot_byte now p i 5 ≡ slot_byte s p i 5) ⊎ (slot_byte now p i 5 ≡ bit_or (slot_byte s p i 5) (2 ^ 0))

-- an empty slot that stays unchanged, or gets a message
abbrev pub SlotFills : State → ℕ → ℕ → State → Type 0
SlotFills s p i now = ((b : ℕ) → b < 256 → slot_byte now p i b ≡ slot_byte s p i b) ⊎ (is_slot_empty now p i ≡ false)

-- an occupied slot in which at most MessagePending is set, in words, from those that the host knew
abbrev pub WordsGrow : State → ℕ → List ℕ → Type 0
WordsGrow s p words = (i : ℕ) → i < 16 → type_of (slice_index words (32 * i)) ≢ 0
    → ((w : ℕ) → 1 ≤ w → w < 32 → word_of s (2 * p) (32 * i + w) ≡ slice_index words (32 * i + w))
    × ((word_of s (2 * p) (32 * i) ≡ slice_index words (32 * i))
    ⊎ (word_of s (2 * p) (32 * i) ≡ bit_or (slice_index words (32 * i)) (2 ^ 40)))

-- the looks at a message page before a tick
pub record IsFirst (s : State) (p : ℕ) (log : List Access) (now : State) (log_now : List Access)
    (before after : List Notice) : Type 0 where
  pub emitted : List Notice
  pub notices : after ≡ before ++ emitted
  pub viewed : IsViewed s p log now log_now emitted

-- the same at the page of a processor, among all pages
pub record IsFirstAt (s : State) (p : ℕ) (pages : List (List Access)) (now : State) (pages_now : List (List Access))
    (before after : List Notice) : Type 0 where
  pub log : List Access
  pub first : IsFirst s p (slice_index_or pages (2 * p) []) now log before after
  pub changed : pages_now ≡ slice_set pages (2 * p) log

-- a message page is brought up to date after a tick
pub record IsFinished (s : State) (p : ℕ) (log : List Access) (now : State) (log_now : List Access) (owed : Bool)
    (before after : List Notice) : Type 0 where
  pub emitted : List Notice
  pub notices : after ≡ before ++ emitted
  pub few : length emitted ≤ 16
  pub stores : List Access
  pub marks : List Access
  pub page : log_now ≡ marks ++ (stores ++ log)
  pub stored : AreStores stores
  pub placed : ArePlaced 16 log stores
  pub marked : AreMarks marks
  pub careful : IsShown s p Sim → AreCareful Sim stores log
  pub hidden : (IsShown s p Sim → ⊥) → marks ≡ []
  pub run : run_of s (explained_after s p marks (stores ++ log))
      ≡ (now, all_done (explained_after s p marks (stores ++ log)), emitted)
  pub rest : now ≡ record s { own = now.own; slots = now.slots }
  pub count : length now.own ≡ length s.own
  pub others : LeavesOthers s (2 * p) now
  pub same : (j : ℕ) → j ≢ 2 * p → slice_index_or now.own j [] ≡ slice_index_or s.own j []
  pub shadow : IsShadow now (2 * p) log_now
  pub owes : owed ≡ finds_empty marks

abbrev pub IsTick : Event → Type 0
IsTick event = (moment : ℕ) × (event ≡ Tick moment)

-- an event is a tick at which the due timers of a processor are in direct mode
abbrev pub AreDirectAt : State → ℕ → Event → Type 0
AreDirectAt s p (Tick moment) = AreDueDirect s p moment
AreDirectAt s p _ = ⊥

-- a tick, with the looks, stores and marks of the m message pages from k on
pub record IsTickFrom (s : State) (k m : ℕ) (pages : List (List Access)) (event : Event) (now : State)
    (pages_now : List (List Access)) (reply : Reply) (owed : ℕ) (before after : List Notice) : Type 0 where
  pub looks : ℕ → List Access
  pub stores : ℕ → List Access
  pub marks : ℕ → List Access
  pub emitted : List Notice
  pub notices : after ≡ before ++ emitted
  pub few : length emitted ≤ 32 * m + 192
  pub posted : (p : ℕ) → k ≤ p → p < k + m → (AreDirectAt s p event → ⊥)
      → AreTimed s p (looks p) (stores p) (marks p) (slice_index_or pages (2 * p) [])
  pub direct : (p : ℕ) → k ≤ p → p < k + m → AreDirectAt s p event → (looks p ≡ []) × (stores p ≡ []) × (marks p ≡ [])
  pub logs : (p : ℕ) → k ≤ p → p < k + m
      → slice_index_or pages_now (2 * p) [] ≡ marks p ++ (stores p ++ (looks p ++ slice_index_or pages (2 * p) []))
  pub lower : (p : ℕ) → p < k → slice_index_or pages_now (2 * p) [] ≡ slice_index_or pages (2 * p) []
  pub flags : (p : ℕ) → slice_index_or pages_now (2 * p + 1) [] ≡ slice_index_or pages (2 * p + 1) []
  pub size : length pages_now ≡ length pages
  pub run : run_of s (looked_from s pages looks k m ++ event ∷ marked_from s pages looks stores marks k m)
      ≡ (
        now,
        all_done (looked_from s pages looks k m)
            ++ reply ∷ all_done (marked_from s pages looks stores marks k m),
        emitted,
      )
  pub shadow : (p : ℕ) → k ≤ p → p < k + m → IsShadow now (2 * p) (slice_index_or pages_now (2 * p) [])
  pub regs : now.regs ≡ s.regs
  pub guest : now.pages ≡ s.pages
  pub count : length now.own ≡ length s.own
  pub processors : length now.apics ≡ length s.apics
  pub odd : (p x : ℕ) → x < 512 → word_of now (2 * p + 1) x ≡ word_of s (2 * p + 1) x
  pub slots : (p i : ℕ) → p < k → i < 16 → is_slot_empty s p i ≡ false → SlotGrows s p i now
  pub fills : (p i : ℕ) → p < k → i < 16 → is_slot_empty s p i ≡ true → SlotFills s p i now
  pub owes : (p : ℕ) → k ≤ p → p < k + m → has_processor owed p ≡ finds_empty (marks p)
  pub unowed : (p : ℕ) → p < k → has_processor owed p ≡ false
  pub beyond : (p : ℕ) → k + m ≤ p → has_processor owed p ≡ false
  pub still : (p : ℕ) → p < k → AreDirectAt s p event
      → slice_index_or now.own (2 * p) [] ≡ slice_index_or s.own (2 * p) []

-- all words of a page are stored, below n
pub record IsCleared (n : ℕ) (log now : List Access) : Type 0 where
  pub news : List Access
  pub page : now ≡ news ++ log
  pub clears : AreClears n news

-- the words of own pages after a reset
pub record Resets (s : State) (p : ℕ) (now : State) : Type 0 where
  pub count : length now.own ≡ length s.own
  pub messages : (x : ℕ) → x < 512 → word_of now (2 * p) x ≡ 0
  pub flags : (x : ℕ) → x < 512 → word_of now (2 * p + 1) x ≡ 0
  pub others : (j x : ℕ) → j ≢ 2 * p → j ≢ 2 * p + 1 → word_of now j x ≡ word_of s j x

-- a reset on the message page
pub record IsResetPart (s : State) (p : ℕ) (log : List Access) (event : Event) (now : State) (log_now : List Access)
    (reply : Reply) (notices : List Notice) : Type 0 where
  pub looks : List Access
  pub messages : List Access
  pub shown : IsShown s p Sim → AreLooks 16 looks
  pub hidden : (IsShown s p Sim → ⊥) → looks ≡ []
  pub clears : AreClears 512 messages
  pub page : log_now ≡ messages ++ (looks ++ log)
  pub run : run_of s (explained s p Sim looks log ++ event ∷ [])
      ≡ (now, all_done (explained s p Sim looks log) ++ reply ∷ [], notices)
  pub shadow : IsShadow now (2 * p) log_now
  pub flags : (x : ℕ) → x < 512 → word_of now (2 * p + 1) x ≡ 0
  pub others : (j x : ℕ) → x < 512 → j ≢ 2 * p → j ≢ 2 * p + 1 → word_of now j x ≡ word_of s j x
  pub count : length now.own ≡ length s.own
