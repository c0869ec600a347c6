-- The rule of the words, and the effect of each step.
use Rattle.std.specs.Prelude.{◌≡◌, ℕ, ◌+◌, ◌*◌, ◌%◌, ◌^◌, ◌<◌, ◌==◌, List, [], ◌∷◌, All, sum_by, length, slice_index}
use Rattle.std.specs.Int.{bit_at}
use Rattle.atomic_table.specs.Table.{State, Me, Step}
use Rattle.posted_words.specs.declared.rule.Action.{Action}
use Rattle.posted_words.specs.declared.rule.Action.TheVariants.{Raise, Sweep}
use Rattle.posted_words.specs.declared.rule.View.{View}
use Rattle.posted_words.specs.Settled.{all_fresh, all_taken, Bounded}

abbrev pub view_of : ℕ → List (List Action) → View
view_of parts logs = record { parts = parts; logs = logs }

-- how often the tokens of all seats were Fresh at the bit b of the word w
abbrev pub views_fresh : List View → ℕ → ℕ → ℕ
views_fresh views w b = sum_by (λ v. all_fresh v.logs w b) views

-- how often they took it
abbrev pub views_taken : List View → ℕ → ℕ → ℕ
views_taken views w b = sum_by (λ v. all_taken v.logs w b) views

-- a seat without tokens has no logs
abbrev pub IsIdle : View → Type 0
IsIdle v = v.parts ≡ 0 → v.logs ≡ []

-- each token of a seat satisfies its lower bounds
abbrev pub IsBounded : (F T : ℕ → ℕ → ℕ) → View → Type 0
IsBounded F T v = All (Bounded F T) v.logs

-- the rule, for a number of words and a number of tokens
pub record Posted (key : ℕ × ℕ) (s : State (Unit {0}) View) : Type 0 where
  pub width : length s.words ≡ key.0
  pub whole : sum_by (λ v. v.parts) s.views ≡ key.1
  pub idle : All IsIdle s.views
  pub even : (w b : ℕ) → w < key.0
      → views_fresh s.views w b ≡ views_taken s.views w b + bit_at (slice_index s.words w) b
  pub bounded : All (IsBounded (views_fresh s.views) (views_taken s.views)) s.views

-- one more step of the first token
abbrev pub onto : Action → List (List Action) → List (List Action)
onto d [] = []
onto d (log ∷ logs) = (d ∷ log) ∷ logs

abbrev pub with_step : Action → View → View
with_step d v = view_of v.parts (onto d v.logs)

-- the mask of a bit of 64, as the code computes it
abbrev pub mask_of : ℕ → ℕ
mask_of k = 1 * 2 ^ k % 2 ^ 64

-- a fetch_or with the mask of bit k raised that bit; Fresh if it was clear in the old word
abbrev pub raised_as : Step (Unit {0}) → Me (Unit {0}) View → ℕ → Me (Unit {0}) View → Type 0
raised_as s before found after =
    ((k : ℕ) → k < 64 → s.first ≡ mask_of k → after.0 ≡ with_step (Raise s.word k (bit_at found k == 0)) before.0)
    × (after.1 ≡ before.1)

-- a swap took the bits of the old word
abbrev pub swept_as : Step (Unit {0}) → Me (Unit {0}) View → ℕ → Me (Unit {0}) View → Type 0
swept_as s before found after = (after.0 ≡ with_step (Sweep s.word found) before.0) × (after.1 ≡ before.1)

-- the log of a seat that holds one token
abbrev pub first_log : List (List Action) → List Action
first_log [] = []
first_log (log ∷ logs) = log
