-- Histories of a page: the accesses of the host, and what anybody else wrote between them. The last turn is first.
use Rattle.std.specs.Prelude.{◌≡◌, ℕ, ◌<◌, ◌==◌, ◌||◌, ◌++◌, Bool, false, List, [], ◌∷◌, All, length, slice_index, slice_set, bit_or, if◌then◌else◌}
use Rattle.std.specs.Int.{bit_at}
use Rattle.live_pages.specs.declared.access.Access.{Access}
use Rattle.live_pages.specs.declared.access.Access.TheVariants.{Load, FetchOr, Store}
use Rattle.live_pages.specs.declared.access.Turn.{Turn}
use Rattle.live_pages.specs.declared.access.Turn.TheVariants.{ByHost, ByGuest}
use Rattle.live_pages.specs.Words.{known}

-- the value of each word after these turns, and zero before them
abbrev pub memory : List Turn → ℕ → ℕ
memory [] w = 0
memory (ByGuest x value ∷ turns) w = if w == x then value else memory turns w
memory (ByHost (Load x found) ∷ turns) w = memory turns w
memory (ByHost (FetchOr x mask found) ∷ turns) w = if w == x then bit_or found mask else memory turns w
memory (ByHost (Store x value) ∷ turns) w = if w == x then value else memory turns w

-- an access found what was there
abbrev pub Finds : (ℕ → ℕ) → Access → Type 0
Finds page (Load x found) = found ≡ page x
Finds page (FetchOr x mask found) = found ≡ page x
Finds page (Store x value) = Unit {0}

abbrev pub IsHistory : List Turn → Type 0
IsHistory [] = Unit {0}
IsHistory (ByGuest x value ∷ turns) = IsHistory turns
IsHistory (ByHost a ∷ turns) = Finds (memory turns) a × IsHistory turns

-- the accesses of the host in a history
abbrev pub accesses : List Turn → List Access
accesses [] = []
accesses (ByGuest x value ∷ turns) = accesses turns
accesses (ByHost a ∷ turns) = a ∷ accesses turns

-- the writes of the guest in a history, as a word and its value
abbrev pub writes : List Turn → List (ℕ × ℕ)
writes [] = []
writes (ByGuest x value ∷ turns) = (x, value) ∷ writes turns
writes (ByHost a ∷ turns) = writes turns

-- an access to a word, and whether one of some accesses is one
abbrev pub is_of : ℕ → Access → Bool
is_of w (Load x found) = w == x
is_of w (FetchOr x mask found) = w == x
is_of w (Store x value) = w == x

abbrev pub is_accessed : ℕ → List Access → Bool
is_accessed w [] = false
is_accessed w (a ∷ log) = is_of w a || is_accessed w log

-- accesses of the host alone
abbrev pub hosts_turns : List Access → List Turn
hosts_turns [] = []
hosts_turns (a ∷ log) = ByHost a ∷ hosts_turns log

-- a guest that has seen a history is the only other writer: what the host did is what it did in that
-- history, and then more. Each of its accesses found what was there
pub record IsWhole (log : List Access) (seen : List Turn) : Type 0 where
  pub since : List Access
  pub host : log ≡ since ++ accesses seen
  pub history : IsHistory (hosts_turns since ++ seen)

-- the same, and the history leaves these words
pub record IsTraced (words : List ℕ) (log : List Access) (seen : List Turn) : Type 0 where
  pub whole : IsWhole log seen
  pub leaves : (w : ℕ) → w < length words → slice_index words w ≡ memory (hosts_turns whole.since ++ seen) w

-- the guest has stored a word: it has seen all that the host did before
abbrev pub IsGuestStore : ℕ → ℕ → List Access → List Turn → List Turn → Type 0
IsGuestStore w value log seen now =
    (whole : IsWhole log seen) × (now ≡ ByGuest w value ∷ (hosts_turns whole.since ++ seen))

-- the guest has loaded a word, and found what was there
abbrev pub IsGuestLoad : ℕ → ℕ → List Access → List Turn → List Turn → Type 0
IsGuestLoad w found log seen now =
    (whole : IsWhole log seen) × (now ≡ hosts_turns whole.since ++ seen) × (found ≡ memory now w)

-- whatever the guest writes, at any time, the words are traced
abbrev pub AnybodyMayWrite : Type 0
AnybodyMayWrite =
    (words : List ℕ) (log : List Access) (seen : List Turn) (w value : ℕ) → (traced : IsTraced words log seen)
    → IsTraced (slice_set words w value) log (ByGuest w value ∷ (hosts_turns traced.whole.since ++ seen))

-- each access of the host found what the host itself knew of the word
abbrev pub AreOwn : List Access → Type 0
AreOwn [] = Unit {0}
AreOwn (a ∷ log) = Finds (known log) a × AreOwn log

-- a guest that has written nothing is not seen
abbrev pub AGuestThatWritesNothingIsNotSeen : Type 0
AGuestThatWritesNothingIsNotSeen =
    (log : List Access) (seen : List Turn) → IsWhole log seen → writes seen ≡ [] → AreOwn log

-- a turn that does not clear a bit of a word
abbrev pub Leaves : ℕ → ℕ → Turn → Type 0
Leaves w bit (ByGuest x value) = x ≡ w → bit_at value bit ≡ 1
Leaves w bit (ByHost (Store x value)) = x ≡ w → bit_at value bit ≡ 1
Leaves w bit (ByHost (Load x found)) = Unit {0}
Leaves w bit (ByHost (FetchOr x mask found)) = Unit {0}

-- a bit that an atomic or set is set in memory until a later turn clears it
abbrev pub ASignalledFlagStays : Type 0
ASignalledFlagStays =
    (later earlier : List Turn) (w mask found bit : ℕ) → IsHistory (later ++ ByHost (FetchOr w mask found) ∷ earlier)
    → bit_at mask bit ≡ 1 → All (Leaves w bit) later
    → bit_at (memory (later ++ ByHost (FetchOr w mask found) ∷ earlier) w) bit ≡ 1
