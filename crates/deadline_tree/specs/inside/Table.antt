-- The deadlines of the timers, and a tree of the timers that come first.
use Rattle.std.specs.Prelude.{◌≡◌, ℕ, ◌+◌, ◌-◌, ◌*◌, ◌/◌, ◌%◌, ◌^◌, ◌<◌, ◌≤◌, ◌==◌, nat_lt, List, Option, None, Some, map, min, length, slice_index_or, if◌then◌else◌}
use Rattle.std.specs.List.{range_with_len}
use Rattle.board_terms.specs.Dues.{Dues}
use Rattle.deadline_tree.specs.declared.table.Table.{Table}

-- the words and the late deadlines of a table
pub record Tree : Type 0 where
  pub nodes : List ℕ
  pub lates : List ℕ

abbrev pub tree_in : Table → Tree
tree_in t = record { nodes = t.nodes.items; lates = t.lates.items }

-- how many timers there are
abbrev pub count : Tree → ℕ
count t = length t.lates

-- the least word below node j
abbrev pub node : Tree → ℕ → ℕ
node t j = slice_index_or t.nodes j 0

-- the word of timer n
abbrev pub word_of : Tree → ℕ → ℕ
word_of t n = node t (count t + n)

-- the deadline of timer n if it is a late one
abbrev pub late_due : Tree → ℕ → ℕ
late_due t n = slice_index_or t.lates n 0

-- deadlines before this one have a word of their own
abbrev pub late : ℕ
late = 2 ^ 55

-- the word of a timer with a late deadline
abbrev pub late_word : ℕ
late_word = 256 * late

-- the word of a timer without a deadline
abbrev pub never : ℕ
never = 2 ^ 64 - 1

-- the deadline that a word has, if a late one is `far`
abbrev pub due_from : ℕ → ℕ → Option ℕ
due_from word far =
    if nat_lt word late_word then Some (word / 256)
    else if word == late_word then Some far
    else None

abbrev pub due_at : Tree → ℕ → Option ℕ
due_at t n = due_from (word_of t n) (late_due t n)

-- the deadlines of all timers
unfoldable pub dues : Tree → Dues
dues t = map (due_at t) (range_with_len 0 (count t))

-- the word of timer n: it orders the timers by deadline and number
pub record IsWord (word far n : ℕ) : Type 0 where
  pub number : word < late_word → word % 256 ≡ n
  pub is_late : word ≡ late_word → late ≤ far

-- each leaf has the word of its timer
pub record IsTree (t : Tree) : Type 0 where
  pub nodes : length t.nodes ≡ 2 * count t
  pub some : 4 ≤ count t
  pub bound : count t ≤ 256
  -- four timers for each processor
  pub fours : count t % 4 ≡ 0
  pub leaves : (n : ℕ) → n < count t → IsWord (word_of t n) (late_due t n) n

-- each other node has the lesser word of its children
pub record IsOrdered (t : Tree) : Type 0 where
  pub mins : (j : ℕ) → 0 < j → j < count t → node t j ≡ min (node t (2 * j)) (node t (2 * j + 1))

pub record IsSound (t : Tree) : Type 0 where
  pub tree : IsTree t
  pub ordered : IsOrdered t
