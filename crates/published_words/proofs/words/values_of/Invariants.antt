use Rattle.std.proofs.Common.{◌≡◌, ℕ, ◌<◌, ◌≤◌, Some, length}
use Rattle.std.specs.Prelude.{slice_index}
use Rattle.published_words.specs.Values.{next_of, next_word}
use Rattle.published_words.proofs.words.values_of.Given as goal

abbrev pub invariant-loop-number : goal.invariant-loop-number
invariant-loop-number l =
    (length l.values.items ≡ l.number)
    × ((i : ℕ) → i < l.number → slice_index l.values.items i ≡ next_word (next_of l.board.state i))
    × ((i v : ℕ) → i < l.number → next_of l.board.state i ≡ Some v → (16 ≤ v) × (v < 256))
