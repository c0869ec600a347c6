-- A whole run of one message slot in the words that contracts speak of: the host's log of accesses to a page, the
-- history of the page, and what each call leaves.
use Rattle.std.specs.Prelude.{◌≡◌, ◌⊎◌, ℕ, ◌-◌, ◌==◌, Bool, true, false, not, ◌&&◌, ◌||◌, List, [], ◌∷◌, ◌++◌, if◌then◌else◌}
use Rattle.live_pages.specs.Words.{known, type_of, is_pending, pending_mask}
use Rattle.live_pages.specs.Traces.{memory, accesses, is_accessed, Finds}
use Rattle.live_pages.specs.declared.access.Turn.{Turn}
use Rattle.live_pages.specs.declared.access.Turn.TheVariants.{ByHost, ByGuest}
use Rattle.live_pages.specs.declared.access.Access.{Access}
use Rattle.live_pages.specs.declared.access.Access.TheVariants.{Load, FetchOr, Store}
use Rattle.live_pages.specs.Headers.{is_occupied}
use Rattle.law_slots.specs.Slots.{GuestAt, guest_is, resting, taken, cleared, fenced, ending}

-- the history of a page, whether the guest's store of type 0 to the slot is in its buffer, and where the guest is
pub record PageState : Type 0 where
  pub turns : List Turn
  pub buffered : Bool
  pub guest : GuestAt

pub data Move : Type 0 where
  -- the host accesses a word
  touches : Access → Move
  -- the guest at the slot, as in a whole run; and anybody writes another word
  takes : Move
  clears : Move
  drains : Move
  fences : Move
  sees : Move
  writes : ℕ → ℕ → Move

abbrev pub is_store_of : ℕ → Access → Bool
is_store_of x (Load w found) = false
is_store_of x (FetchOr w mask found) = false
is_store_of x (Store w value) = x == w

abbrev pub is_stored : ℕ → List Access → Bool
is_stored x [] = false
is_stored x (a ∷ news) = is_store_of x a || is_stored x news

-- what the host may do to a header x whose log is this: it stores only into a slot that it last found or left empty
abbrev pub Keeps : ℕ → List Access → Access → Type 0
Keeps x log (Load w found) = Unit {0}
Keeps x log (FetchOr w mask found) = Unit {0}
Keeps x log (Store w value) = (x == w) ≡ true → is_occupied (known log x) ≡ false

abbrev pub MayMove : ℕ → PageState → Move → Type 0
MayMove x s (touches a) = Finds (memory s.turns) a × Keeps x (accesses s.turns) a
MayMove x s takes = ((guest_is s.guest resting && is_occupied (memory s.turns x)) && not s.buffered) ≡ true
MayMove x s clears = guest_is s.guest taken ≡ true
MayMove x s drains = s.buffered ≡ true
MayMove x s fences = (guest_is s.guest cleared && not s.buffered) ≡ true
MayMove x s sees = guest_is s.guest fenced ≡ true
MayMove x s (writes w value) = (x == w) ≡ false

abbrev pub moved : ℕ → PageState → Move → PageState
moved x s (touches a) = record s { turns = ByHost a ∷ s.turns }
moved x s takes = record s { guest = taken }
moved x s clears = record s { buffered = true; guest = cleared }
moved x s drains =
    record s { turns = ByGuest x (memory s.turns x - type_of (memory s.turns x)) ∷ s.turns; buffered = false }
moved x s fences = record s { guest = fenced }
moved x s sees = record s { guest = if is_pending (memory s.turns x) then ending else resting }
moved x s (writes w value) = record s { turns = ByGuest w value ∷ s.turns }

abbrev pub AreMoves : ℕ → PageState → List Move → Type 0
AreMoves x s [] = Unit {0}
AreMoves x s (m ∷ ms) = MayMove x s m × AreMoves x (moved x s m) ms

abbrev pub moved_by : ℕ → PageState → List Move → PageState
moved_by x s [] = s
moved_by x s (m ∷ ms) = moved_by x (moved x s m) ms

-- the accesses of the host among some moves
abbrev pub access_of : Move → List Access
access_of (touches a) = a ∷ []
access_of _ = []

abbrev pub news_of : List Move → List Access
news_of [] = []
news_of (m ∷ ms) = news_of ms ++ access_of m

-- a page, whether a message waits for the slot, and whether an EOM is owed
pub record Run : Type 0 where
  pub page : PageState
  pub waits : Bool
  pub owed : Bool

-- a call: whether it is the EOM that a guest writes at the end of its round, or one that is owed; the moves during it;
-- whether a message waits then, and whether it owes an EOM
pub record Call : Type 0 where
  pub ends : Bool
  pub pays : Bool
  pub moves : List Move
  pub waits : Bool
  pub owes : Bool

pub data Act : Type 0 where
  alone : Move → Act
  calls : Call → Act

-- the page when a call begins
abbrev pub entered : PageState → Bool → PageState
entered s true = record s { guest = resting }
entered s false = s

-- the host accesses the header in the call, and the last time it finds or leaves it occupied and with MessagePending
abbrev pub IsLeftMarked : ℕ → List Move → PageState → Type 0
IsLeftMarked x moves now =
    (is_accessed x (news_of moves) ≡ true) × (is_occupied (known (accesses now.turns) x) ≡ true)
    × (is_pending (known (accesses now.turns) x) ≡ true)

-- What the clauses of a call give: if a message waits after it, the slot is left marked, or an EOM is owed, or one
-- waited before the call, which is no EOM and stores nothing in the header
abbrev pub IsClear : ℕ → Run → Call → Type 0
IsClear x r c =
    c.waits ≡ true
    → IsLeftMarked x c.moves (moved_by x (entered r.page c.ends) c.moves) ⊎ (c.owes ≡ true)
    ⊎ ((r.waits ≡ true) × (c.ends ≡ false) × (c.pays ≡ false) × (is_stored x (news_of c.moves) ≡ false))

abbrev pub MayAct : ℕ → Run → Act → Type 0
MayAct x r (alone (touches a)) = ⊥
MayAct x r (alone m) = MayMove x r.page m
MayAct x r (calls c) =
    (c.ends ≡ true → guest_is r.page.guest ending ≡ true) × AreMoves x (entered r.page c.ends) c.moves × IsClear x r c

abbrev pub acted : ℕ → Run → Act → Run
acted x r (alone m) = record r { page = moved x r.page m }
acted x r (calls c) =
    record {
      page = moved_by x (entered r.page c.ends) c.moves;
      waits = c.waits;
      owed = if c.pays then c.owes else r.owed || c.owes;
    }

abbrev pub AreActs : ℕ → Run → List Act → Type 0
AreActs x r [] = Unit {0}
AreActs x r (a ∷ acts) = MayAct x r a × AreActs x (acted x r a) acts

abbrev pub acted_by : ℕ → Run → List Act → Run
acted_by x r [] = r
acted_by x r (a ∷ acts) = acted_by x (acted x r a) acts

abbrev pub opened : Run
opened =
    record { page = record { turns = []; buffered = false; guest = resting }; waits = false; owed = false }

-- the guest will ask for the message that waits, or an EOM is owed
abbrev pub is_attended : ℕ → Run → Bool
is_attended x r =
    (is_occupied (memory r.page.turns x) && is_pending (memory r.page.turns x))
    || (guest_is r.page.guest cleared && (r.page.buffered || is_pending (memory r.page.turns x)))
    || (guest_is r.page.guest fenced && is_pending (memory r.page.turns x))
    || guest_is r.page.guest ending || r.owed

-- in no run does a message wait unseen
abbrev pub NoMessageWaitsUnseenInMemory : Type 0
NoMessageWaitsUnseenInMemory =
    (x : ℕ) (acts : List Act) → AreActs x opened acts → (acted_by x opened acts).waits ≡ true
    → is_attended x (acted_by x opened acts) ≡ true

-- What is missing if a call that changes nothing of the queue may store in the header of an empty slot and put it back:
-- the same, without that clause
abbrev pub IsLax : ℕ → Run → Call → Type 0
IsLax x r c =
    c.waits ≡ true
    → IsLeftMarked x c.moves (moved_by x (entered r.page c.ends) c.moves) ⊎ (c.owes ≡ true)
    ⊎ ((r.waits ≡ true) × (c.ends ≡ false) × (c.pays ≡ false))

abbrev pub MayActLaxly : ℕ → Run → Act → Type 0
MayActLaxly x r (alone (touches a)) = ⊥
MayActLaxly x r (alone m) = MayMove x r.page m
MayActLaxly x r (calls c) =
    (c.ends ≡ true → guest_is r.page.guest ending ≡ true) × AreMoves x (entered r.page c.ends) c.moves × IsLax x r c

abbrev pub AreLaxActs : ℕ → Run → List Act → Type 0
AreLaxActs x r [] = Unit {0}
AreLaxActs x r (a ∷ acts) = MayActLaxly x r a × AreLaxActs x (acted x r a) acts

abbrev pub call : List Move → Bool → Act
call moves waits = calls (record { ends = false; pays = false; moves = moves; waits = waits; owes = false })

-- a post, a post that marks, a round of the guest as far as its barrier, and a call that finds the slot empty and
-- marked, stores 0 there, and then what it found; the guest loads the flags in between
abbrev pub flicker : List Act
flicker =
    call (touches (Load 0 0) ∷ touches (Store 0 1) ∷ []) false
    ∷ call (touches (Load 0 1) ∷ touches (FetchOr 0 pending_mask 1) ∷ []) true
    ∷ alone takes ∷ alone clears ∷ alone drains ∷ alone fences
    ∷ call (
    touches (Load 0 pending_mask) ∷ touches (Store 0 0) ∷ sees ∷ touches (Store 0 pending_mask) ∷ []
    ) true ∷ []

pub record AFlickerIsMissed : Type 0 where
  pub may : AreLaxActs 0 opened flicker
  pub waits : (acted_by 0 opened flicker).waits ≡ true
  pub missed : is_attended 0 (acted_by 0 opened flicker) ≡ false
