-- The caches of where overlays are mapped.
use Rattle.std.specs.Prelude.{◌≡◌, ◌≢◌, ◌<◌, ◌≤◌, ◌%◌, ℕ, Bool, true, false, ◌==◌, ◌&&◌, nat_le, nat_lt, List, Option, None, Some, ◌⊎◌, length, slice_index_or, if◌then◌else◌}
use Rattle.std.specs.Int.{bit_at}
use Rattle.std.specs.Option.{option_map_or}
use Rattle.board_terms.specs.Quantities.{PageNumber}
use Rattle.gpa_space.specs.Space.{is_enabled, page_of}

-- the word of a page: its own, or that of the pages whose numbers have the same low eight bits
abbrev pub own_word : PageNumber → ℕ
own_word page = page

abbrev pub low_bits : PageNumber → ℕ
low_bits page = page % 256

-- an enabled overlay is mapped at a page that has the word
abbrev pub has_word : (PageNumber → ℕ) → ℕ → ℕ → Bool
has_word word_of at register = is_enabled register && (word_of (page_of register) == at)

-- bit i of a word is set iff overlay i is mapped at a page that has it
abbrev pub AreOverlaysAt : (PageNumber → ℕ) → ℕ → List ℕ → List ℕ → Type 0
AreOverlaysAt word_of bits registers words =
    (at i : ℕ) → at < length words → i < bits
    → (bit_at (slice_index_or words at 0) i == 1) ≡ has_word word_of at (slice_index_or registers i 0)

-- one bit of one word was written, if there is that word, and nothing else
pub record Marks (bits : ℕ) (old new : List ℕ) (at overlay : ℕ) (is_mapped : Bool) : Type 0 where
  pub many : length new ≡ length old
  pub here : at < length old → (bit_at (slice_index_or new at 0) overlay == 1) ≡ is_mapped
  pub others : (p i : ℕ) → i < bits → (p ≢ at) ⊎ (i ≢ overlay)
      → bit_at (slice_index_or new p 0) i ≡ bit_at (slice_index_or old p 0) i

-- the lowest bit of a word that is set, if there is one
abbrev pub IsLowest : ℕ → Option ℕ → Type 0
IsLowest word None = (i : ℕ) → bit_at word i ≡ 0
IsLowest word (Some k) = (k < 16) × (bit_at word k ≡ 1) × ((i : ℕ) → i < k → bit_at word i ≡ 0)

-- an overlay is mapped at a page from a number on and below another
abbrev pub is_mapped_in : ℕ → ℕ → ℕ → Bool
is_mapped_in from count word = is_enabled word && (nat_le from (page_of word) && nat_lt (page_of word) count)

-- the lesser of a page and of that of one more overlay, if it is mapped there
abbrev pub lesser_page : ℕ → ℕ → ℕ → Option ℕ → Option ℕ
lesser_page from count word least =
    if is_mapped_in from count word && option_map_or (λ p. nat_lt (page_of word) p) least true
    then Some (page_of word) else least

-- the least page at which one of the first n overlays is mapped, if any is
abbrev pub IsLeastPage : List ℕ → ℕ → ℕ → ℕ → Option ℕ → Type 0
IsLeastPage registers from count n None =
    (i : ℕ) → i < n → is_mapped_in from count (slice_index_or registers i 0) ≡ false
IsLeastPage registers from count n (Some p) =
    ((k : ℕ) × (k < n) × (is_mapped_in from count (slice_index_or registers k 0) ≡ true)
    × (p ≡ page_of (slice_index_or registers k 0)))
    × ((i : ℕ) → i < n → is_mapped_in from count (slice_index_or registers i 0) ≡ true
    → p ≤ page_of (slice_index_or registers i 0))
