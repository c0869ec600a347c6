-- The rule of a page that host and guest write at any time, and what a step of each records.
use Rattle.std.specs.Prelude.{◌≡◌, ℕ, List, [], ◌∷◌, All, sum_by, length}
use Rattle.atomic_table.specs.Table.{State, Me, Step}
use Rattle.live_pages.specs.declared.access.Access.{Access}
use Rattle.live_pages.specs.declared.access.Access.TheVariants.{Load, FetchOr, Store}
use Rattle.live_pages.specs.declared.access.Turn.{Turn}
use Rattle.live_pages.specs.declared.page.View.{View}
use Rattle.live_pages.specs.Traces.{IsTraced, IsGuestStore, IsGuestLoad}

abbrev pub view_of : ℕ → List Access → ℕ → List Turn → View
view_of hosts log guests seen = record { hosts = hosts; log = log; guests = guests; seen = seen }

-- the seats of the host, of the guest and of both, and one that is spent
abbrev pub host_view : List Access → View
host_view log = view_of 1 log 0 []

abbrev pub guest_view : List Turn → View
guest_view seen = view_of 0 [] 1 seen

abbrev pub both_view : List Access → List Turn → View
both_view log seen = view_of 1 log 1 seen

abbrev pub spent_view : View
spent_view = view_of 0 [] 0 []

-- the host's seat has this log, and the guest's has seen this history
pub record Fits (log : List Access) (seen : List Turn) (v : View) : Type 0 where
  pub host : v.hosts ≡ 1 → v.log ≡ log
  pub guest : v.guests ≡ 1 → v.seen ≡ seen

-- there is one host and one guest, and the words are what their history leaves
pub record IsOpen (key : ℕ) (s : State (Unit {0}) View) : Type 0 where
  pub log : List Access
  pub seen : List Turn
  pub host : sum_by (λ v. v.hosts) s.views ≡ 1
  pub guest : sum_by (λ v. v.guests) s.views ≡ 1
  pub fits : All (Fits log seen) s.views
  pub width : length s.words ≡ 512
  pub traced : IsTraced s.words log seen

-- one more access of the host, whose seat is not the guest's and holds no slot
abbrev pub Records : Me (Unit {0}) View → Access → Me (Unit {0}) View → Type 0
Records before a after = (after.0 ≡ host_view (a ∷ before.0.log)) × (after.1 ≡ before.1)

abbrev pub loaded_as : Step (Unit {0}) → Me (Unit {0}) View → ℕ → Me (Unit {0}) View → Type 0
loaded_as s before found after = Records before (Load s.word found) after

-- a load that is recorded as a store of what it found, which leaves the same words
abbrev pub affirmed_as : Step (Unit {0}) → Me (Unit {0}) View → ℕ → Me (Unit {0}) View → Type 0
affirmed_as s before found after = Records before (Store s.word found) after

abbrev pub ored_as : Step (Unit {0}) → Me (Unit {0}) View → ℕ → Me (Unit {0}) View → Type 0
ored_as s before found after = Records before (FetchOr s.word s.first found) after

abbrev pub stored_as : Step (Unit {0}) → Me (Unit {0}) View → ℕ → Me (Unit {0}) View → Type 0
stored_as s before found after = Records before (Store s.word s.first) after

-- a step of the guest, at a seat that is the host's too
abbrev pub guest_stored_as : Step (Unit {0}) → Me (Unit {0}) View → ℕ → Me (Unit {0}) View → Type 0
guest_stored_as s before found after =
    (seen : List Turn) × (after.0 ≡ both_view before.0.log seen) × (after.1 ≡ before.1)
    × IsGuestStore s.word s.first before.0.log before.0.seen seen

abbrev pub guest_loaded_as : Step (Unit {0}) → Me (Unit {0}) View → ℕ → Me (Unit {0}) View → Type 0
guest_loaded_as s before found after =
    (seen : List Turn) × (after.0 ≡ both_view before.0.log seen) × (after.1 ≡ before.1)
    × IsGuestLoad s.word found before.0.log before.0.seen seen
