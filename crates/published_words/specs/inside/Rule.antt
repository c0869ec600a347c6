-- The rule of the words, and what each step reports.
use Rattle.std.specs.Prelude.{◌≡◌, ◌≢◌, ℕ, ◌*◌, ◌≤◌, ◌<◌, ◌==◌, Bool, true, false, List, [], Some, length, slice_index, slice_set}
use mathlib.Core.Option.{some}
use mathlib.Core.List.{IsPrefix}
use lib.ListN.{get_elem?}
use Rattle.atomic_table.specs.Table as table
use Rattle.ghost_history.specs.declared.history.History.{History}
use Rattle.synic_board.specs.State.{State, opened, processors}
use Rattle.synic_board.specs.History.{IsLegal, leads_to}
use Rattle.synic_board.specs.declared.history.Entry.{Entry}
use Rattle.published_words.specs.declared.rule.View.{View}
use Rattle.published_words.specs.declared.rule.View.TheVariants.{Writes, Marks, Reads, Compares, Spent}
use Rattle.published_words.specs.Values.{next_of, word_count, word_at}
use Rattle.published_words.specs.Words.{Logs, log_at}
use Rattle.published_words.specs.Storing.{after_store}

-- each word has a cache line of its own
abbrev pub place_of : ℕ → ℕ
place_of i = 8 * i

-- a value that may be stored for a history
pub record IsRight (start : State) (i : ℕ) (log : List Entry) (value : ℕ) : Type 0 where
  pub legal : IsLegal start log
  pub is : value ≡ word_at start i (leads_to start log)
  pub vector : (v : ℕ) → i < processors start → next_of (leads_to start log) i ≡ Some v → (16 ≤ v) × (v < 256)

-- the values of all words, as the publisher has them
pub record HasValues (start : State) (logs : Logs) (values : List ℕ) : Type 0 where
  pub bound : processors start ≤ 64
  pub lengths : length values ≡ word_count start
  pub count : length logs ≡ word_count start
  pub each : (i : ℕ) → i < word_count start → slice_index values i ≡ word_at start i (leads_to start (log_at logs i))

-- the values of all words when they are opened
pub record AreOpening (start : State) (values : List ℕ) : Type 0 where
  pub bound : processors start ≤ 64
  pub lengths : length values ≡ word_count start
  pub each : (i : ℕ) → i < word_count start → slice_index values i ≡ word_at start i start
  pub vector : (i v : ℕ) → i < processors start → next_of start i ≡ Some v → (16 ≤ v) × (v < 256)

-- and in their places
pub record AreSpread (values words : List ℕ) : Type 0 where
  pub lengths : length words ≡ 8 * length values
  pub each : (i : ℕ) → i < length values → slice_index words (place_of i) ≡ slice_index values i

-- a word is stored if its value changes, and no other
pub record IsStoredAt (start : State) (word : ℕ) (history : List Entry) (old new : Logs) : Type 0 where
  pub lengths : length new ≡ length old
  pub here : log_at new word ≡ after_store start history word (log_at old word)
  pub else : (i : ℕ) → i ≢ word → log_at new i ≡ log_at old i

-- what a seat knows of the histories of the words
abbrev pub Knows : State → Logs → ℕ → ℕ → View → Type 0
Knows start logs writer id (Writes s own) = (s.value.state ≡ start) × (id ≡ writer) × (own ≡ logs)
Knows start logs writer id (Marks s own) = (s.value.state ≡ start) × ((i : ℕ) → IsPrefix (log_at own i) (log_at logs i))
Knows start logs writer id (Reads s i seen floor) =
    (s.value.state ≡ start) × IsPrefix seen (log_at logs i) × IsPrefix floor (log_at logs i)
Knows start logs writer id (Compares s own i seen floor) =
    (s.value.state ≡ start) × (id ≡ writer) × (own ≡ logs) × IsPrefix seen (log_at logs i)
    × IsPrefix floor (log_at logs i)
Knows start logs writer id Spent = Unit {0}

-- the rule: each word has the value of its history, and no seat knows more than the histories
pub record IsRuled (start : State) (s : table.State History View) : Type 0 where
  pub logs : Logs
  pub writer : ℕ
  pub width : length s.words ≡ 8 * word_count start
  pub count : length logs ≡ word_count start
  pub right : (i : ℕ) → i < word_count start → IsRight start i (log_at logs i) (slice_index s.words (place_of i))
  pub known : (id : ℕ) (v : View) → get_elem? s.views id ≡ some v → Knows start logs writer id v

abbrev pub start_of : View → State
start_of (Writes s own) = s.value.state
start_of (Marks s own) = s.value.state
start_of (Reads s i seen floor) = s.value.state
start_of (Compares s own i seen floor) = s.value.state
start_of Spent = opened 1 1 0

abbrev pub logs_of : View → Logs
logs_of (Writes s own) = own
logs_of (Marks s own) = own
logs_of (Reads s i seen floor) = []
logs_of (Compares s own i seen floor) = own
logs_of Spent = []

abbrev pub seen_of : View → List Entry
seen_of (Writes s own) = []
seen_of (Marks s own) = []
seen_of (Reads s i seen floor) = seen
seen_of (Compares s own i seen floor) = []
seen_of Spent = []

abbrev pub floor_of : View → List Entry
floor_of (Writes s own) = []
floor_of (Marks s own) = []
floor_of (Reads s i seen floor) = floor
floor_of (Compares s own i seen floor) = []
floor_of Spent = []

-- whether a seat is that of the publisher, of a checkpoint, or of a watcher of a word
abbrev pub is_writer : View → Bool
is_writer (Writes s own) = true
is_writer _ = false

abbrev pub is_mark : View → Bool
is_mark (Marks s own) = true
is_mark _ = false

abbrev pub is_reader : ℕ → View → Bool
is_reader word (Reads s i seen floor) = i == word
is_reader word _ = false

-- a store with a history
abbrev pub with_log : ℕ → List Entry → View → View
with_log i log (Writes s own) = Writes s (slice_set own i log)
with_log i log (Marks s own) = Marks s own
with_log i log (Reads s word seen floor) = Reads s word seen floor
with_log i log (Compares s own word seen floor) = Compares s own word seen floor
with_log i log Spent = Spent

abbrev pub stored_as : table.Step History → table.Me History View → ℕ → table.Me History View → Type 0
stored_as s before found after =
    (i : ℕ) (h : History) → s.word ≡ place_of i → s.said ≡ some h → after ≡ (with_log i h.entries before.0, before.1)

-- a load by a watcher
abbrev pub Sees : ℕ → View → ℕ → View → Type 0
Sees place (Writes s own) found after = Unit {0}
Sees place (Marks s own) found after = Unit {0}
Sees place (Reads s i seen floor) found after =
    (log : List Entry) × (after ≡ Reads s i log floor) × IsPrefix seen log × IsPrefix floor log
    × IsRight s.value.state i log found
Sees place (Compares s own i seen floor) found after = Unit {0}
Sees place Spent found after = Unit {0}

abbrev pub loaded_as : table.Step History → table.Me History View → ℕ → table.Me History View → Type 0
loaded_as s before found after = Sees s.word before.0 found after.0 × (after.1 ≡ before.1)

-- the first load of a watcher
abbrev pub Begins : ℕ → View → View → Type 0
Begins place (Writes s own) after = (i : ℕ) → place ≡ place_of i → (log : List Entry) × (after ≡ Reads s i log [])
Begins place (Marks s own) after = Unit {0}
Begins place (Reads s i seen floor) after = Unit {0}
Begins place (Compares s own i seen floor) after = Unit {0}
Begins place Spent after = Unit {0}

abbrev pub begun_as : table.Step History → table.Me History View → ℕ → table.Me History View → Type 0
begun_as s before found after = Begins s.word before.0 after.0

-- a checkpoint of a publisher
abbrev pub mark_of : View → View
mark_of (Writes s own) = Marks s own
mark_of (Marks s own) = Marks s own
mark_of (Reads s i seen floor) = Spent
mark_of (Compares s own i seen floor) = Spent
mark_of Spent = Spent

-- a watcher with the floor of a checkpoint
abbrev pub raised : View → View → View
raised (Reads s i seen floor) (Marks t own) = Reads s i seen (log_at own i)
raised v w = v

-- a publisher with what a watcher knows
abbrev pub met : View → View → View
met (Writes s own) (Reads t i seen floor) = Compares s own i seen floor
met v w = v

-- a publisher finds that the watcher knows no more than it does
abbrev pub Compared : View → View → Type 0
Compared (Compares s own i seen floor) after =
    (after ≡ Writes s own) × IsPrefix seen (log_at own i) × IsPrefix floor (log_at own i)
Compared v after = Unit {0}

abbrev pub compared_as : table.Step History → table.Me History View → ℕ → table.Me History View → Type 0
compared_as s before found after = Compared before.0 after.0 × (after.1 ≡ before.1)
