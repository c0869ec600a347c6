-- What the words of a board hold: the next vector of each processor, and after them the earliest deadline.
use Rattle.std.specs.Prelude.{ℕ, suc, ◌-◌, ◌^◌, nat_lt, Option, None, Some, slice_index_or, if◌then◌else◌}
use Rattle.synic_board.specs.State.{State, processors}
use Rattle.synic_board.specs.Summaries.{summary_of}

-- the next vector of a processor, as in the summary
abbrev pub next_of : State → ℕ → Option ℕ
next_of s vp = slice_index_or (summary_of s).nexts vp None

-- as a word: 0 if there is none; a vector is at least 16
abbrev pub next_word : Option ℕ → ℕ
next_word None = 0
next_word (Some vector) = vector

-- no time in a word
abbrev pub never : ℕ
never = 2 ^ 64 - 1

-- the time of the earliest timer, if it is below `never`
abbrev pub time_of : Option (ℕ × (ℕ × ℕ)) → Option ℕ
time_of None = None
time_of (Some timer) = if nat_lt timer.0 never then Some timer.0 else None

-- the earliest deadline, as in the summary
abbrev pub deadline_of : State → Option ℕ
deadline_of s = time_of (summary_of s).earliest

-- as a word
abbrev pub deadline_word : Option ℕ → ℕ
deadline_word None = never
deadline_word (Some time) = time

-- how many words there are for a board of this state
abbrev pub word_count : State → ℕ
word_count start = suc (processors start)

-- the value of a word at a state. No event changes the number of processors, so it is the one at the start
abbrev pub word_at : State → ℕ → State → ℕ
word_at start i s = if nat_lt i (processors start) then next_word (next_of s i) else deadline_word (deadline_of s)
