-- The abstract state of the words, of their publisher and of the tokens that read them.
use Rattle.std.specs.Prelude.{◌≡◌, ◌<◌, ℕ, List, [], slice_index_or, replicate}
use mathlib.Core.List.{IsPrefix}
use Rattle.atomic_table.specs.Seated.{TableId}
use Rattle.synic_board.specs.State.{State}
use Rattle.synic_board.specs.History.{IsLegal}
use Rattle.synic_board.specs.declared.history.Entry.{Entry}
use Rattle.published_words.specs.Values.{word_count}

-- the identity of the words, and the state of the board for which they were opened
pub record Words : Type 0 where
  pub name : TableId
  pub start : State

abbrev pub words_of : TableId → State → Words
words_of name start = record { name = name; start = start }

-- Histories: for each word, the history of the board up to the call that stored its value
abbrev pub Logs : Type 0
Logs = List (List Entry)

abbrev pub log_at : Logs → ℕ → List Entry
log_at logs i = slice_index_or logs i []

-- nothing was stored since the words were opened
abbrev pub no_logs : State → Logs
no_logs start = replicate (word_count start) []

-- the words, and the history of each that was stored last
pub record Published : Type 0 where
  pub of : Words
  pub logs : Logs

abbrev pub published : Words → Logs → Published
published of logs = record { of = of; logs = logs }

-- the words, the word that a watcher loads, the history of the value that it loaded last, and one that its next value
-- includes as well
pub record Watching : Type 0 where
  pub of : Words
  pub word : ℕ
  pub seen : List Entry
  pub floor : List Entry

abbrev pub watching : Words → ℕ → List Entry → List Entry → Watching
watching of word seen floor = record { of = of; word = word; seen = seen; floor = floor }

-- a watcher of one of these words
abbrev pub IsWatcher : Words → Watching → Type 0
IsWatcher words w = (w.of ≡ words) × (w.word < word_count words.start)

-- what a watcher has seen, and its floor, are prefixes of a history
pub record IsWithin (history : List Entry) (w : Watching) : Type 0 where
  pub seen : IsPrefix w.seen history
  pub floor : IsPrefix w.floor history

-- A load. The history of the value is legal; it begins with all that the watcher had seen, and with its floor.
pub record IsLoaded (old new : Watching) : Type 0 where
  pub same : new ≡ watching old.of old.word new.seen old.floor
  pub later : IsPrefix old.seen new.seen
  pub above : IsPrefix old.floor new.seen
  pub legal : IsLegal old.of.start new.seen
