-- A set of vectors as four words of 64 bits.
use Rattle.std.specs.Prelude.{ℕ, Bool, false, List, ◌≡◌, ◌<◌, ◌/◌, ◌%◌, ◌==◌, slice_index_or}
use Rattle.std.specs.Int.{bit_at}
use Rattle.lapic_core.specs.Vectors.{Vectors, numbers_where}

-- the bit of a vector is set: bit v % 64 of word v / 64
abbrev pub holds : List ℕ → ℕ → Bool
holds words v = bit_at (slice_index_or words (v / 64) 0) (v % 64) == 1

-- the numbers whose bits are set
unfoldable pub word_members : List ℕ → Vectors
word_members words = numbers_where (holds words) 256

-- no number below 16 is a vector
abbrev pub NoneBelow16 : List ℕ → Type 0
NoneBelow16 words = (v : ℕ) → v < 16 → holds words v ≡ false
