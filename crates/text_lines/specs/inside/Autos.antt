-- A partly written line of auto-EOI vectors.
use Rattle.std.specs.Prelude.{ℕ, List, [], ◌∷◌, ◌++◌, Bool, true, false, if◌then◌else◌, codes, decimal}
use Rattle.text_base.specs.Numbers.{two_digits}
use Rattle.text_base.specs.Fields.{spaced}
use Rattle.text_lines.specs.Printing.{auto_fields}

-- the text of one of them; the first follows the head of the line
abbrev pub auto_part : ℕ → ℕ → Bool → List ℕ
auto_part p v any = (if any then [] else spaced (codes ":" ∷ codes "auto" ∷ decimal p ∷ [])) ++ 32 ∷ two_digits v

abbrev pub is_some_vector : List ℕ → Bool
is_some_vector [] = false
is_some_vector (v ∷ vectors) = true

-- the line so far
abbrev pub auto_text : ℕ → List ℕ → List ℕ
auto_text p [] = []
auto_text p (v ∷ vectors) = spaced (auto_fields p (v ∷ vectors))
