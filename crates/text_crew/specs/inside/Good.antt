-- The invariant of a parsed script.
use Rattle.std.specs.Prelude.{◌≡◌, ◌≤◌, ℕ, length, false, Option, None, Some}
use Rattle.std.specs.List.{list_any}
use Rattle.synic_board.specs.State.{State, IsWithinLimits, processors}
use Rattle.board_threads.specs.Judging.{is_bad_step, is_bad_raise}
use Rattle.actor_calls.specs.Sweeps.{is_absorb}
use Rattle.text_crew.specs.Crew.{Crew, entries_of}

-- With all sections closed, the board is one of these, the sizes are within the limits, and each step is valid in a
-- crew.
pub record IsGood (IsBoard : ℕ → ℕ → Type 0) (crew : Crew) : Type 0 where
  pub board : IsBoard crew.processors crew.pages
  pub few_actors : length crew.actors ≤ 15
  pub few_lines : length crew.lines ≤ 16
  pub few_entries : entries_of crew ≤ 65536
  pub no_bad_event : list_any is_absorb crew.setup ≡ false
  pub no_bad_step : list_any (list_any is_bad_step) crew.actors ≡ false
  pub no_bad_raise : list_any (list_any (is_bad_raise crew.processors)) crew.lines ≡ false

-- the processors and the pages of a board that is given, or that a script may open
abbrev pub HasBoard : Option State → ℕ → ℕ → Type 0
HasBoard None n pages = IsWithinLimits n pages
HasBoard (Some s) n pages = n ≡ processors s

-- the crew of a script on such a board
abbrev pub IsGoodOn : Option State → Crew → Type 0
IsGoodOn board = IsGood (HasBoard board)
