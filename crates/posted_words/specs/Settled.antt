-- What holds when all tokens are gathered.
use Rattle.std.specs.Prelude.{◌≡◌, ℕ, ◌+◌, ◌<◌, ◌≤◌, Bool, List, ◌∷◌, ◌++◌, All, sum_by, slice_index}
use Rattle.std.specs.Int.{bit_at}
use Rattle.posted_words.specs.declared.rule.Action.{Action}
use Rattle.posted_words.specs.declared.rule.Action.TheVariants.{Raise, Sweep}
use Rattle.posted_words.specs.Action.{fresh, times_taken}

-- how often raises of the bit b of the word w were Fresh, over all tokens
abbrev pub all_fresh : List (List Action) → ℕ → ℕ → ℕ
all_fresh logs w b = sum_by (fresh w b) logs

-- how often that bit was taken, over all tokens
abbrev pub all_taken : List (List Action) → ℕ → ℕ → ℕ
all_taken logs w b = sum_by (times_taken w b) logs

-- The lower bounds of one token. F and T count how often all tokens together were Fresh at a bit, and took it.
-- After each raise of a bit the bit is set, so it was Fresh once more than the token had taken it before.
-- After each sweep of a word the word is 0, so each Fresh raise that the token had made there before was taken.
pub record Bounded (F T : ℕ → ℕ → ℕ) (log : List Action) : Type 0 where
  pub raises : (w b : ℕ) (later before : List Action) (is_fresh : Bool) → log ≡ later ++ Raise w b is_fresh ∷ before
      → times_taken w b before + 1 ≤ F w b
  pub sweeps : (w b bits : ℕ) (later before : List Action) → log ≡ later ++ Sweep w bits ∷ before
      → fresh w b before ≤ T w b

-- the logs of all tokens of n words, and the words
pub record Settled (n : ℕ) (logs : List (List Action)) (words : List ℕ) : Type 0 where
  -- each Fresh raise was taken once, or its bit is set
  pub even : (w b : ℕ) → w < n → all_fresh logs w b ≡ all_taken logs w b + bit_at (slice_index words w) b
  pub bounded : All (Bounded (all_fresh logs) (all_taken logs)) logs
