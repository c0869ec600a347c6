-- The words of a board's own pages: 512 little-endian words of 64 bits.
use Rattle.std.specs.Prelude.{ℕ, ◌*◌, List, [], take, drop, slice_index_or}
use Rattle.std.specs.Int.{from_le_bytes, w64}
use Rattle.synic_board.specs.State.{State}

-- eight bytes of a page as a word
abbrev pub word_at : List ℕ → ℕ → ℕ
word_at page at = from_le_bytes w64 (take 8 (drop at page))

-- a word of the own page of an overlay
abbrev pub word_of : State → ℕ → ℕ → ℕ
word_of s overlay w = word_at (slice_index_or s.own overlay []) (8 * w)
