use Rattle.std.proofs.Common.{◌≡◌, ℕ, ◌*◌, ◌<◌, length}
use Rattle.std.specs.Prelude.{slice_index}
use Rattle.published_words.specs.inside.Rule.{place_of}
use Rattle.published_words.proofs.words.spread.Given as goal

abbrev pub invariant-loop-i : goal.invariant-loop-i
invariant-loop-i l =
    (length l.words.items ≡ 8 * length l.values)
    × ((i : ℕ) → i < l.i → slice_index l.words.items (place_of i) ≡ slice_index l.values i)
