-- How long a message waits, on the log and the history of a page: until a call stores the header.
use Rattle.std.specs.Prelude.{◌≡◌, ℕ, ◌+◌, ◌≤◌, ◌==◌, Bool, true, false, not, ◌&&◌, ◌||◌, List, [], ◌∷◌, if◌then◌else◌}
use Rattle.live_pages.specs.Words.{type_of}
use Rattle.live_pages.specs.Traces.{memory}
use Rattle.live_pages.specs.declared.access.Access.{Access}
use Rattle.live_pages.specs.declared.access.Access.TheVariants.{Load, FetchOr, Store}
use Rattle.live_pages.specs.Headers.{is_occupied}
use Rattle.law_slots.specs.Pages.{Move, Run, Call, Act, touches, takes, clears, drains, fences, sees, alone, calls, moved_by, entered, IsLeftMarked, AreActs, acted, acted_by, opened}

-- an access stores nothing in a header, and an atomic or there leaves the type
abbrev pub leaves_type : ℕ → Access → Bool
leaves_type x (Load w found) = true
leaves_type x (FetchOr w mask found) = not (x == w) || (type_of mask == 0)
leaves_type x (Store w value) = not (x == w)

abbrev pub is_mild : ℕ → Move → Bool
is_mild x (touches a) = leaves_type x a
is_mild x _ = true

abbrev pub are_mild : ℕ → List Move → Bool
are_mild x [] = true
are_mild x (m ∷ ms) = is_mild x m && are_mild x ms

-- the moves of a guest that uses its messages
abbrev pub round : Move → ℕ
round takes = 1
round clears = 1
round drains = 1
round fences = 1
round sees = 1
round _ = 0

abbrev pub rounds : List Move → ℕ
rounds [] = 0
rounds (m ∷ ms) = round m + rounds ms

-- a call places nothing in the slot; and if it is an EOM, it leaves the slot marked
abbrev pub IsPatient : ℕ → Run → Act → Type 0
IsPatient x r (alone m) = Unit {0}
IsPatient x r (calls c) =
    (are_mild x c.moves ≡ true)
    × ((c.ends || c.pays) ≡ true → IsLeftMarked x c.moves (moved_by x (entered r.page c.ends) c.moves))

abbrev pub ArePatient : ℕ → Run → List Act → Type 0
ArePatient x r [] = Unit {0}
ArePatient x r (a ∷ acts) = IsPatient x r a × ArePatient x (acted x r a) acts

-- those moves, and the EOMs that the guest writes at the end of its rounds
abbrev pub rounds_of : List Act → ℕ
rounds_of [] = 0
rounds_of (alone m ∷ acts) = round m + rounds_of acts
rounds_of (calls c ∷ acts) = ((if c.ends then 1 else 0) + rounds c.moves) + rounds_of acts

-- Of more than 9 such steps some come after a call that stored the header
abbrev pub AFewRoundsPlace : Type 0
AFewRoundsPlace =
    (x : ℕ) (earlier later : List Act) → AreActs x opened earlier → AreActs x (acted_by x opened earlier) later
    → ArePatient x (acted_by x opened earlier) later → rounds_of later ≤ 9

-- and an EOM that finds the slot empty, and leaves it marked, stores the header
abbrev pub AnEomFills : Type 0
AnEomFills =
    (x : ℕ) (earlier : List Act) (c : Call) → AreActs x opened (earlier)
    → AreActs x (acted_by x opened earlier) (calls c ∷ [])
    → is_occupied (memory (acted_by x opened earlier).page.turns x) ≡ false
    → IsLeftMarked x c.moves (moved_by x (entered (acted_by x opened earlier).page c.ends) c.moves)
    → are_mild x c.moves ≡ false
