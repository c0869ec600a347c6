-- The outcomes of a call, by their numbers in the header.
use Rattle.std.specs.Prelude.{ℕ, ◌==◌, ◌||◌, Bool, false, List, [], ◌∷◌}

-- the number is one of these
abbrev pub is_among : List ℕ → ℕ → Bool
is_among [] k = false
is_among (n ∷ ns) k = (k == n) || is_among ns k
