-- Counting the steps of a token. A log has the last step first.
use Rattle.std.specs.Prelude.{ℕ, ◌+◌, ◌==◌, ◌&&◌, Bool, false, if◌then◌else◌, List, [], ◌∷◌}
use Rattle.std.specs.Int.{bit_at}
use Rattle.posted_words.specs.declared.rule.Action.{Action}
use Rattle.posted_words.specs.declared.rule.Action.TheVariants.{Raise, Sweep}

abbrev pub one_if : Bool → ℕ
one_if b = if b then 1 else 0

-- whether a step raised the bit b of the word w
abbrev pub raises_at : ℕ → ℕ → Action → Bool
raises_at w b (Raise word bit fresh) = (w == word) && (b == bit)
raises_at w b (Sweep word bits) = false

-- whether it did, and the result was Fresh
abbrev pub is_fresh_at : ℕ → ℕ → Action → Bool
is_fresh_at w b (Raise word bit fresh) = ((w == word) && (b == bit)) && fresh
is_fresh_at w b (Sweep word bits) = false

-- 1 if it took the bit b of the word w, and 0 if not
abbrev pub takes_at : ℕ → ℕ → Action → ℕ
takes_at w b (Raise word bit fresh) = 0
takes_at w b (Sweep word bits) = if w == word then bit_at bits b else 0

-- how often a token raised the bit b of the word w
abbrev pub times_raised : ℕ → ℕ → List Action → ℕ
times_raised w b [] = 0
times_raised w b (d ∷ ds) = one_if (raises_at w b d) + times_raised w b ds

-- how often its raise of that bit was Fresh
abbrev pub fresh : ℕ → ℕ → List Action → ℕ
fresh w b [] = 0
fresh w b (d ∷ ds) = one_if (is_fresh_at w b d) + fresh w b ds

-- how often it took the bit b of the word w
abbrev pub times_taken : ℕ → ℕ → List Action → ℕ
times_taken w b [] = 0
times_taken w b (d ∷ ds) = takes_at w b d + times_taken w b ds
