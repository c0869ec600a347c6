-- A line as its fields, separated by single spaces.
use Rattle.std.specs.Prelude.{◌≡◌, ℕ, List, [], ◌∷◌, ◌++◌, ◌==◌, Option, None, Some}
use Rattle.std.specs.List.{slice_split, join_with_byte}
use Rattle.std.specs.Borrow.{Bor}

abbrev pub fields_of : List ℕ → List (List ℕ)
fields_of line = slice_split (λ b. b == 32) line

-- the line with these fields
abbrev pub spaced : List (List ℕ) → List ℕ
spaced fields = join_with_byte 32 fields

-- with its line feed
abbrev pub line_of : List (List ℕ) → List ℕ
line_of fields = spaced fields ++ 10 ∷ []

-- the first field was taken, if there is one
abbrev pub TakesField : Option (Bor (List ℕ)) → List (List ℕ) → List (List ℕ) → Type 0
TakesField None old new = (old ≡ []) × (new ≡ [])
TakesField (Some field) old new = old ≡ field.now ∷ new

-- the first field was decoded by this function and taken, or it does not decode
abbrev pub ReadsField : (List ℕ → Option ℕ) → Option ℕ → List (List ℕ) → List (List ℕ) → Type 0
ReadsField read None old new = (field : List ℕ) (fields : List (List ℕ)) → old ≡ field ∷ fields → read field ≡ None
ReadsField read (Some n) old new = (field : List ℕ) × (old ≡ field ∷ new) × (read field ≡ Some n)
