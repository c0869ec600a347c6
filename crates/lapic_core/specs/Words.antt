-- The set of vectors with given words.
use Rattle.std.specs.Prelude.{ℕ, ◌/◌, ◌%◌, ◌==◌, List, Option, None, Some, slice_index_or, if◌then◌else◌}
use Rattle.std.specs.Int.{bit_at}
use Rattle.lapic_core.specs.Vectors.{Vectors, numbers_where}

-- the set of those v for which bit v % 64 of word v / 64 is set; none if one of them is below 16
abbrev pub from_words : List ℕ → Option Vectors
from_words words =
    if slice_index_or words 0 0 % 65536 == 0
    then Some (numbers_where (λ v. bit_at (slice_index_or words (v / 64) 0) (v % 64) == 1) 256)
    else None
