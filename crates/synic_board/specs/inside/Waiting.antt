-- The sources with queued messages, as words.
use Rattle.std.specs.Prelude.{◌≡◌, ◌<◌, ◌≤◌, ℕ, ◌==◌, nat_lt, List, Option, None, Some, slice_index_or}
use Rattle.std.specs.Int.{bit_at}
use Rattle.board_terms.specs.Sources.{source_number}

-- how many messages are queued for a source
abbrev pub count_at : List ℕ → ℕ → ℕ → ℕ
count_at queued p i = slice_index_or queued (source_number p i) 0

-- bit i of the word of processor p is set iff its source i has a queued message
abbrev pub AreWaiting : List ℕ → List ℕ → Type 0
AreWaiting queued words =
    (p i : ℕ) → p < 64 → i < 16 → (bit_at (slice_index_or words p 0) i == 1) ≡ nat_lt 0 (count_at queued p i)

-- the first source, from a number on, with a queued message
abbrev pub IsFirstWaiting : List ℕ → ℕ → ℕ → Option ℕ → Type 0
IsFirstWaiting queued p from None = (i : ℕ) → from ≤ i → i < 16 → count_at queued p i ≡ 0
IsFirstWaiting queued p from (Some s) =
    (from ≤ s) × (s < 16) × (0 < count_at queued p s) × ((i : ℕ) → from ≤ i → i < s → count_at queued p i ≡ 0)
