-- A board with live pages, and what it makes of the words that it finds there.
use Rattle.std.specs.Prelude.{◌≡◌, ◌≢◌, ◌⊎◌, ℕ, zero, suc, ◌+◌, ◌*◌, ◌/◌, ◌<◌, ◌≤◌, ◌==◌, ◌&&◌, ◌||◌, Bool, true, false, nat_lt, nat_le, bit_or, List, [], ◌∷◌, ◌++◌, map, length, slice_get, slice_index_or, slice_set, Some, if◌then◌else◌}
use Rattle.std.specs.Int.{to_le_bytes, w64, bit_at}
use Rattle.std.specs.Option.{option_map_or}
use Rattle.board_terms.specs.Dues.{least}
use Rattle.board_terms.specs.declared.pages.Kind.{Kind}
use Rattle.board_terms.specs.declared.pages.Kind.TheVariants as kind
use Rattle.board_terms.specs.declared.pages.Owner.{Owner}
use Rattle.board_terms.specs.declared.pages.Owner.TheVariants as owner
use Rattle.board_terms.specs.declared.notices.Notice.{Notice}
use Rattle.gpa_space.specs.Space.{page_of, overlay_of, owner_of}
use Rattle.message_queues.specs.Queues.{queue_of}
use Rattle.stimer_bank.specs.Bank.{dues, timer_in}
use Rattle.stimer_bank.specs.Timer.{is_due, is_direct}
use Rattle.synic_board.specs.declared.event.Event.{Event}
use Rattle.synic_board.specs.declared.event.Event.TheVariants as event
use Rattle.synic_board.specs.declared.event.Reply.{Reply}
use Rattle.synic_board.specs.declared.event.Reply.TheVariants as reply
use Rattle.synic_board.specs.State.{State, BoardModel, processors, regs_of, space_of, bank_of}
use Rattle.synic_board.specs.Delivery.{delivers}
use Rattle.synic_board.specs.Performing.{Performs}
use Rattle.synic_board.specs.Run.{run_of}
use Rattle.atomic_table.specs.Seated.{TableId}
use Rattle.live_pages.specs.Page.{GuestModel, guest_of}
use Rattle.live_pages.specs.Words.{known, IsPut, type_of, is_pending, header, pending_mask}
use Rattle.live_pages.specs.declared.access.Access.{Access}
use Rattle.live_pages.specs.declared.access.Access.TheVariants.{Load, FetchOr, Store}
use Rattle.live_board.specs.Words.{word_of}

-- a board; the host's accesses to each own page, in the order of visibility, each list with the last access first; and
-- the names of these pages
pub record LiveModel : Type 0 where
  pub board : BoardModel
  pub pages : List (List Access)
  pub names : List TableId

-- the guests of pages with these names, before their first turn
abbrev pub guests_of : List TableId → List GuestModel
guests_of names = map (λ (name : TableId). guest_of name []) names

-- a guest is that of an own page
abbrev pub IsGuestOf : LiveModel → ℕ → Kind → GuestModel → Type 0
IsGuestOf m p k guest = slice_get m.names (overlay_of p k) ≡ Some guest.of

-- each word of the reference model's own pages is what the host last found or wrote in the live page
pub record Shadows (s : State) (pages : List (List Access)) : Type 0 where
  pub count : length pages ≡ length s.own
  -- two pages of each of at most 64 processors
  pub few : length pages ≤ 128
  pub words : (k w : ℕ) → k < length s.own → w < 512 → known (slice_index_or pages k []) w ≡ word_of s k w

-- the page number in the register of an overlay, and who owns that page if the overlay is visible there
abbrev pub number_at : State → ℕ → Kind → ℕ
number_at s p kind.Sim = page_of (regs_of s p).sim
number_at s p kind.Sief = page_of (regs_of s p).sief

abbrev pub owner_at : ℕ → Kind → Owner
owner_at p kind.Sim = owner.Sim p
owner_at p kind.Sief = owner.Sief p

-- a guest sees the overlay at the page number in its register
abbrev pub IsShown : State → ℕ → Kind → Type 0
IsShown s p k = owner_of (space_of s) (number_at s p k) ≡ owner_at p k

-- the guest's store of a word of an own page
abbrev pub store_of : State → ℕ → Kind → ℕ → ℕ → Event
store_of s p k w value = event.Store (number_at s p k * 4096 + 8 * w) (record { items = to_le_bytes w64 value })

-- a store of some word of an own page
abbrev pub IsOwnStore : State → ℕ → Kind → Event → Type 0
IsOwnStore s p k event = (w : ℕ) × (value : ℕ) × (event ≡ store_of s p k w value)

-- the reply to each of some stores
abbrev pub all_done : List Event → List Reply
all_done events = map (λ _. reply.Done) events

-- the guest's store that an access shows: it found another word than the host knew
abbrev pub shown_by : State → ℕ → Kind → Access → List Access → List Event
shown_by s p k (Load w found) log = if found == known log w then [] else store_of s p k w found ∷ []
shown_by s p k (FetchOr w mask found) log = if found == known log w then [] else store_of s p k w found ∷ []
shown_by s p k (Store w value) log = []

-- the guest's stores that some accesses to an own page show, after those in a log
abbrev pub explained : State → ℕ → Kind → List Access → List Access → List Event
explained s p k [] log = []
explained s p k (a ∷ news) log = explained s p k news log ++ shown_by s p k a (news ++ log)

-- in a message page the host stores only into a slot that it last found empty; in an event flags page it stores nothing
abbrev pub MayStore : Kind → (ℕ → ℕ) → ℕ → Type 0
MayStore kind.Sim page w = type_of (page (32 * (w / 32))) ≡ 0
MayStore kind.Sief page w = ⊥

abbrev pub AreCareful : Kind → List Access → List Access → Type 0
AreCareful k [] log = Unit {0}
AreCareful k (Load w found ∷ news) log = AreCareful k news log
AreCareful k (FetchOr w mask found ∷ news) log = AreCareful k news log
AreCareful k (Store w value ∷ news) log = MayStore k (known (news ++ log)) w × AreCareful k news log

-- what some accesses found is in words of one page
abbrev pub FindInPage : List Access → Type 0
FindInPage [] = Unit {0}
FindInPage (Load w found ∷ news) = (w < 512) × FindInPage news
FindInPage (FetchOr w mask found ∷ news) = (w < 512) × FindInPage news
FindInPage (Store w value ∷ news) = FindInPage news

-- the accesses of the host to one page of an own page during a call
abbrev pub log_of : LiveModel → ℕ → Kind → List Access
log_of m p k = slice_index_or m.pages (overlay_of p k) []

-- a live board performs an event: the host accesses words of one own page, and the reference model performs the guest's
-- stores that these accesses show, and then the event
pub record IsLive (old : LiveModel) (event : Event) (now : LiveModel) (reply : Reply)
    (notices : List Notice) : Type 0 where
  pub vp : ℕ
  pub kind : Kind
  pub news : List Access
  pub pages : now.pages ≡ slice_set old.pages (overlay_of vp kind) (news ++ log_of old vp kind)
  pub names : now.names ≡ old.names
  pub run : run_of old.board.state (explained old.board.state vp kind news (log_of old vp kind) ++ event ∷ [])
      ≡ (now.board.state, all_done (explained old.board.state vp kind news (log_of old vp kind)) ++ reply ∷ [], notices)
  pub careful : IsShown old.board.state vp kind → AreCareful kind news (log_of old vp kind)
  pub within : FindInPage news
  pub hidden : (IsShown old.board.state vp kind → ⊥)
      → explained old.board.state vp kind news (log_of old vp kind) ≡ []

-- a live board performs an event without an access to a live page
pub record IsQuietly (old : LiveModel) (event : Event) (now : LiveModel) (reply : Reply)
    (notices : List Notice) : Type 0 where
  pub pages : now.pages ≡ old.pages
  pub names : now.names ≡ old.names
  pub performs : Performs old.board event now.board reply notices

-- the first of some new accesses is a look at a word
abbrev pub HasLooked : ℕ → List Access → List Access → Type 0
HasLooked w log now = (later : List Access) × (found : ℕ) × (now ≡ later ++ Load w found ∷ log)

-- the words 1 to n of a slot get their values, in order
abbrev pub ArePuts : ℕ → (ℕ → ℕ) → ℕ → List Access → Type 0
ArePuts i image zero news = news ≡ []
ArePuts i image (suc n) news =
    (rest : List Access) × IsPut (32 * i + suc n) (image (suc n)) rest news × ArePuts i image n rest

-- all words of a slot get their values, the header last
abbrev pub IsStored : ℕ → (ℕ → ℕ) → List Access → Type 0
IsStored i image news =
    (puts : List Access) × (news ≡ Store (32 * i) (image 0) ∷ puts) × ArePuts i image 31 puts

-- the words of a slot of the reference model
abbrev pub slot_word : State → ℕ → ℕ → ℕ → ℕ
slot_word s p i k = word_of s (2 * p) (32 * i + k)

-- looks at the header of a slot, and marks of it
abbrev pub AreReads : ℕ → List Access → Type 0
AreReads i [] = Unit {0}
AreReads i (Load w found ∷ news) = (w ≡ header i) × AreReads i news
AreReads i (FetchOr w mask found ∷ news) = (w ≡ header i) × (mask ≡ pending_mask) × AreReads i news
AreReads i (Store w value ∷ news) = ⊥

-- a slot is stored whole, and its header becomes another one than the host knew
abbrev pub IsStoredAnew : ℕ → (ℕ → ℕ) → List Access → List Access → Type 0
IsStoredAnew i image log news = IsStored i image news × (image 0 ≢ known log (header i))

-- after looks at the header of a slot, and marks of it, the host stores all words of the slot, the header last and
-- another one, or nothing
abbrev pub HasPlaced : ℕ → (ℕ → ℕ) → List Access → List Access → Type 0
HasPlaced i image log now =
    (reads : List Access) × AreReads i reads
    × ((now ≡ reads ++ log)
    ⊎ ((stores : List Access) × IsStoredAnew i image (reads ++ log) stores × (now ≡ stores ++ (reads ++ log))))

-- each of the slots below n is stored whole, the header last and another one, or not at all, the first slot first
abbrev pub ArePlaced : ℕ → List Access → List Access → Type 0
ArePlaced zero log news = news ≡ []
ArePlaced (suc n) log news =
    (one : List Access) × (rest : List Access) × (news ≡ one ++ rest)
    × ((one ≡ []) ⊎ ((image : ℕ → ℕ) × IsStoredAnew n image (rest ++ log) one)) × ArePlaced n log rest

-- stores alone
abbrev pub AreStores : List Access → Type 0
AreStores [] = Unit {0}
AreStores (Store w value ∷ news) = AreStores news
AreStores (Load w found ∷ news) = ⊥
AreStores (FetchOr w mask found ∷ news) = ⊥

-- a delivery attempt at a source has a message to deliver
abbrev pub is_waiting : State → ℕ → ℕ → Bool
is_waiting s p i = delivers s p && nat_lt 0 (length (queue_of s.queues p i))

-- no message of a processor is queued
abbrev pub NoneQueued : State → ℕ → Type 0
NoneQueued s p = (i : ℕ) → i < 16 → queue_of s.queues p i ≡ []

-- a look at the header of a slot, and a mark if it is occupied and not marked
abbrev pub IsProbe : ℕ → List Access → Type 0
IsProbe i news = (found : ℕ)
    × (((news ≡ Load (header i) found ∷ []) × ((type_of found ≡ 0) ⊎ (is_pending found ≡ true)))
    ⊎ ((marked : ℕ) × (news ≡ FetchOr (header i) pending_mask marked ∷ Load (header i) found ∷ [])
    × (type_of found ≢ 0) × (is_pending found ≡ false)))

abbrev pub ProbesIf : Bool → ℕ → List Access → Type 0
ProbesIf true i news = IsProbe i news
ProbesIf false i news = news ≡ []

-- probes of the slots below n whose sources wait, in order
abbrev pub AreProbes : State → ℕ → ℕ → List Access → Type 0
AreProbes s p zero news = news ≡ []
AreProbes s p (suc n) news =
    (one : List Access) × (rest : List Access) × (news ≡ one ++ rest) × ProbesIf (is_waiting s p n) n one
    × AreProbes s p n rest

-- the new accesses are probes of the slots of all sources that wait, and then stores of whole slots
abbrev pub HasProbed : State → ℕ → List Access → List Access → Type 0
HasProbed s p log now =
    (stores : List Access) × (probes : List Access) × (now ≡ stores ++ (probes ++ log)) × AreStores stores
    × AreProbes s p 16 probes × ArePlaced 16 (probes ++ log) stores

-- the guest's store that a mark after an event shows, if the event has made the mark: the word is another one than
-- the event left
abbrev pub marked_by : State → ℕ → Access → List Access → List Event
marked_by s p (Load w found) log = []
marked_by s p (FetchOr w mask found) log =
    if bit_or found mask == bit_or (known log w) mask then [] else store_of s p kind.Sim w (bit_or found mask) ∷ []
marked_by s p (Store w value) log = []

-- the guest's stores that some marks after an event show
abbrev pub explained_after : State → ℕ → List Access → List Access → List Event
explained_after s p [] log = []
explained_after s p (a ∷ marks) log = explained_after s p marks log ++ marked_by s p a (marks ++ log)

-- marks of slots alone
abbrev pub AreMarks : List Access → Type 0
AreMarks [] = Unit {0}
AreMarks (FetchOr w mask found ∷ marks) = (i : ℕ) × (i < 16) × (w ≡ header i) × (mask ≡ pending_mask) × AreMarks marks
AreMarks (Load w found ∷ marks) = ⊥
AreMarks (Store w value ∷ marks) = ⊥

-- one of some marks found an empty slot: the guest may not see MessagePending there
abbrev pub finds_empty : List Access → Bool
finds_empty [] = false
finds_empty (FetchOr w mask found ∷ marks) = (type_of found == 0) || finds_empty marks
finds_empty (Load w found ∷ marks) = finds_empty marks
finds_empty (Store w value ∷ marks) = finds_empty marks

-- loads of the headers of the slots below n, in order
abbrev pub AreLooks : ℕ → List Access → Type 0
AreLooks zero news = news ≡ []
AreLooks (suc n) news = (found : ℕ) × (rest : List Access) × (news ≡ Load (32 * n) found ∷ rest) × AreLooks n rest

-- a live board looks at the header of each slot of a message page, if the guest sees it, and the reference model
-- performs the guest's stores that these show
pub record IsObserved (p : ℕ) (old : LiveModel) (now : LiveModel) (notices : List Notice) : Type 0 where
  pub news : List Access
  pub pages : now.pages ≡ slice_set old.pages (2 * p) (news ++ log_of old p kind.Sim)
  pub names : now.names ≡ old.names
  pub shown : IsShown old.board.state p kind.Sim → AreLooks 16 news
  pub hidden : (IsShown old.board.state p kind.Sim → ⊥) → news ≡ []
  pub run : run_of old.board.state (explained old.board.state p kind.Sim news (log_of old p kind.Sim))
      ≡ (now.board.state, all_done (explained old.board.state p kind.Sim news (log_of old p kind.Sim)), notices)

-- what a write of a timer may access in a message page: a look at each slot, then the event and stores, then marks of
-- slots that the event marked and the host did not
pub record AreTimed (s : State) (p : ℕ) (looks stores marks log : List Access) : Type 0 where
  pub shown : IsShown s p kind.Sim → AreLooks 16 looks
  pub hidden : (IsShown s p kind.Sim → ⊥) → (looks ≡ []) × (marks ≡ [])
  pub stored : AreStores stores
  pub placed : ArePlaced 16 (looks ++ log) stores
  pub marked : AreMarks marks
  pub careful : IsShown s p kind.Sim → AreCareful kind.Sim stores (looks ++ log)

-- a live board performs a write of a timer of a processor that is in message mode then: the reference model performs
-- the guest's stores that the looks show, then the event, and then the guest's stores that the marks show. The
-- processor is owed an EOM if a mark found an empty slot
pub record IsTimed (p : ℕ) (old : LiveModel) (event : Event) (now : LiveModel) (reply : Reply) (owed : Bool)
    (notices : List Notice) : Type 0 where
  pub looks : List Access
  pub stores : List Access
  pub marks : List Access
  pub are : AreTimed old.board.state p looks stores marks (log_of old p kind.Sim)
  pub pages : now.pages ≡ slice_set old.pages (2 * p) (marks ++ (stores ++ (looks ++ log_of old p kind.Sim)))
  pub names : now.names ≡ old.names
  pub run : run_of old.board.state
      (explained old.board.state p kind.Sim looks (log_of old p kind.Sim)
      ++ event ∷ explained_after old.board.state p marks (stores ++ (looks ++ log_of old p kind.Sim)))
      ≡ (
        now.board.state,
        all_done (explained old.board.state p kind.Sim looks (log_of old p kind.Sim))
            ++ reply ∷ all_done (explained_after old.board.state p marks (stores ++ (looks ++ log_of old p kind.Sim))),
        notices,
      )
  pub owes : owed ≡ finds_empty marks

-- some timer is due at a time
abbrev pub is_any_due : State → ℕ → Bool
is_any_due s moment = option_map_or (λ r. nat_le r.0 moment) (least (dues (bank_of s))) false

-- each timer of a processor that is due at a time is in direct mode
abbrev pub AreDueDirect : State → ℕ → ℕ → Type 0
AreDueDirect s p moment =
    (i : ℕ) → i < 4 → is_due (timer_in (bank_of s) (p, i)) moment ≡ true
    → is_direct (timer_in (bank_of s) (p, i)).config ≡ true

-- the guest's stores that looks at the m message pages from k on show, and those that marks there show, the last page
-- first
abbrev pub looked_from : State → List (List Access) → (ℕ → List Access) → ℕ → ℕ → List Event
looked_from s pages looks k zero = []
looked_from s pages looks k (suc m) =
    explained s k kind.Sim (looks k) (slice_index_or pages (2 * k) []) ++ looked_from s pages looks (suc k) m

abbrev pub marked_from : State → List (List Access) → (ℕ → List Access) → (ℕ → List Access) → (ℕ → List Access) → ℕ
    → ℕ → List Event
marked_from s pages looks stores marks k zero = []
marked_from s pages looks stores marks k (suc m) =
    marked_from s pages looks stores marks (suc k) m
    ++ explained_after s k (marks k) (stores k ++ (looks k ++ slice_index_or pages (2 * k) []))

-- some processors: bit p is set for processor p
abbrev pub has_processor : ℕ → ℕ → Bool
has_processor mask p = bit_at mask p == 1

-- a live board performs a tick. If a timer is due, it may access at the message page of each processor of which a due
-- timer is in message mode what a write of a timer may access, and it accesses no other page: the reference model
-- performs the guest's stores that the looks show, then the tick, and then the guest's stores that the marks show. A
-- processor is owed an EOM if a mark at its page found an empty slot
pub record IsTicked (old : LiveModel) (moment : ℕ) (now : LiveModel) (reply : Reply) (owed : ℕ)
    (notices : List Notice) : Type 0 where
  pub looks : ℕ → List Access
  pub stores : ℕ → List Access
  pub marks : ℕ → List Access
  pub due : is_any_due old.board.state moment ≡ true → (p : ℕ) → p < processors old.board.state
      → (AreDueDirect old.board.state p moment → ⊥)
      → AreTimed old.board.state p (looks p) (stores p) (marks p) (log_of old p kind.Sim)
  pub idle : is_any_due old.board.state moment ≡ false → (p : ℕ) → (looks p ≡ []) × (stores p ≡ []) × (marks p ≡ [])
  pub direct : (p : ℕ) → p < processors old.board.state → AreDueDirect old.board.state p moment → (looks p ≡ [])
      × (stores p ≡ []) × (marks p ≡ [])
  pub logs : (p : ℕ) → p < processors old.board.state
      → log_of now p kind.Sim ≡ marks p ++ (stores p ++ (looks p ++ log_of old p kind.Sim))
  pub flags : (p : ℕ) → log_of now p kind.Sief ≡ log_of old p kind.Sief
  pub size : length now.pages ≡ length old.pages
  pub names : now.names ≡ old.names
  pub run : run_of old.board.state
      (looked_from old.board.state old.pages looks 0 (processors old.board.state)
      ++ event.Tick moment ∷ marked_from old.board.state old.pages looks stores marks 0 (processors old.board.state))
      ≡ (
        now.board.state,
        all_done (looked_from old.board.state old.pages looks 0 (processors old.board.state))
            ++ reply ∷ all_done (marked_from old.board.state old.pages looks stores marks 0
            (processors old.board.state)),
        notices,
      )
  pub owes : (p : ℕ) → p < processors old.board.state → has_processor owed p ≡ finds_empty (marks p)
  pub unowed : (p : ℕ) → processors old.board.state ≤ p → has_processor owed p ≡ false

-- stores of zero to the words below n, in order
abbrev pub AreClears : ℕ → List Access → Type 0
AreClears zero news = news ≡ []
AreClears (suc n) news = (rest : List Access) × (news ≡ Store n 0 ∷ rest) × AreClears n rest

-- a live board resets a processor: a look at the header of each slot of its message page, if the guest sees it, the
-- event after the guest's stores that these show, and stores of zero to all words of both its pages
pub record IsReset (p : ℕ) (old : LiveModel) (now : LiveModel) (reply : Reply) (notices : List Notice) : Type 0 where
  pub looks : List Access
  pub messages : List Access
  pub flags : List Access
  pub shown : IsShown old.board.state p kind.Sim → AreLooks 16 looks
  pub hidden : (IsShown old.board.state p kind.Sim → ⊥) → looks ≡ []
  pub clears : AreClears 512 messages × AreClears 512 flags
  pub pages : now.pages ≡ slice_set (slice_set old.pages (2 * p) (messages ++ (looks ++ log_of old p kind.Sim)))
      (2 * p + 1) (flags ++ log_of old p kind.Sief)
  pub names : now.names ≡ old.names
  pub run : run_of old.board.state
      (explained old.board.state p kind.Sim looks (log_of old p kind.Sim) ++ event.Reset p ∷ [])
      ≡ (
        now.board.state,
        all_done (explained old.board.state p kind.Sim looks (log_of old p kind.Sim)) ++ reply ∷ [],
        notices,
      )
