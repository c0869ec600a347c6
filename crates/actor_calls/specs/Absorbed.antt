-- What raises of lines and absorbs of a history have to do with each other.
use Rattle.std.specs.Prelude.{◌≡◌, ℕ, ◌+◌, ◌<◌, List, [], ◌∷◌, Bool, true, false, length, slice_index}
use Rattle.std.specs.List.{sum_by}
use Rattle.std.specs.Int.{bit_at}
use Rattle.synic_board.specs.declared.history.Entry.{Entry}
use Rattle.posted_words.specs.declared.rule.Action.{Action}
use Rattle.posted_words.specs.declared.rule.Action.TheVariants.{Raise, Sweep}
use Rattle.posted_words.specs.Action.{times_raised}
use Rattle.posted_words.specs.Settled.{all_fresh}
use Rattle.actor_calls.specs.Sweeps.{times_absorbed}

-- The raises of lines with these logs, at the n words of a board.
pub record AreAbsorbed (n : ℕ) (logs : List (List Action)) (history : List Entry) (standing : List ℕ) : Type 0 where
  pub words : length standing ≡ n
  -- each Fresh raise was absorbed once, or its bit is set
  pub even : (w b : ℕ) → w < n → all_fresh logs w b ≡ times_absorbed w b history + bit_at (slice_index standing w) b
  -- if a line raised a bit at all, some raise of it was Fresh
  pub some : (w b : ℕ) → 0 < sum_by (times_raised w b) logs → 0 < all_fresh logs w b

-- a line has swept nothing
abbrev pub only_raises : List Action → Bool
only_raises [] = true
only_raises (Raise word bit fresh ∷ log) = only_raises log
only_raises (Sweep word bits ∷ log) = false
