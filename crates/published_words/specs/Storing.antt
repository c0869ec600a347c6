-- What a publisher stores.
use Rattle.std.specs.Prelude.{◌≡◌, ℕ, ◌<◌, ◌==◌, List, length, if◌then◌else◌}
use mathlib.Core.List.{IsPrefix}
use Rattle.synic_board.specs.State.{State, processors}
use Rattle.synic_board.specs.History.{IsLegal, leads_to}
use Rattle.synic_board.specs.declared.history.Entry.{Entry}
use Rattle.published_words.specs.Values.{word_count, word_at}
use Rattle.published_words.specs.Words.{Logs, log_at}

-- a history that continues those of all words, and leads to the board
pub record IsContinued (start now : State) (history : List Entry) (logs : Logs) : Type 0 where
  pub legal : IsLegal start history
  pub leads : now ≡ leads_to start history
  pub count : processors now ≡ processors start
  pub later : (i : ℕ) → i < word_count start → IsPrefix (log_at logs i) history

-- the history of a word: the new one if the value changes, and else the one that it has
abbrev pub after_store : State → List Entry → ℕ → List Entry → List Entry
after_store start history i log =
    if word_at start i (leads_to start log) == word_at start i (leads_to start history) then log else history

-- each word whose value changes is stored, and no other
pub record IsStored (start : State) (history : List Entry) (old new : Logs) : Type 0 where
  pub lengths : length new ≡ length old
  pub each : (i : ℕ) → i < word_count start → log_at new i ≡ after_store start history i (log_at old i)

-- the words have the values of the present state
pub record IsCurrent (start now : State) (history : List Entry) (logs : Logs) : Type 0 where
  pub later : (i : ℕ) → i < word_count start → IsPrefix (log_at logs i) history
  pub value : (i : ℕ) → i < word_count start → word_at start i (leads_to start (log_at logs i)) ≡ word_at start i now
