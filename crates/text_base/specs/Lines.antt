-- A text as its lines.
use Rattle.std.specs.Prelude.{◌≢◌, ℕ, List, [], ◌∷◌, ◌++◌, ◌==◌, if◌then◌else◌}

-- prepends b to the first line
abbrev pub onto_lines : ℕ → List (List ℕ) → List (List ℕ)
onto_lines b [] = []
onto_lines b (line ∷ lines) = (b ∷ line) ∷ lines

abbrev pub onto_rest : ℕ → List (List ℕ) → List ℕ → List ℕ
onto_rest b [] rest = b ∷ rest
onto_rest b (line ∷ lines) rest = rest

-- the bytes before each line feed
abbrev pub lines_of : List ℕ → List (List ℕ)
lines_of [] = []
lines_of (b ∷ bytes) = if b == 10 then [] ∷ lines_of bytes else onto_lines b (lines_of bytes)

-- the bytes after the last line feed
abbrev pub rest_of : List ℕ → List ℕ
rest_of [] = []
rest_of (b ∷ bytes) = if b == 10 then rest_of bytes else onto_rest b (lines_of bytes) (rest_of bytes)

-- there is no line feed
abbrev pub IsOneLine : List ℕ → Type 0
IsOneLine [] = Unit {0}
IsOneLine (b ∷ bytes) = (b ≢ 10) × IsOneLine bytes

-- whole lines, each with its line feed
abbrev pub joined : List (List ℕ) → List ℕ
joined [] = []
joined (line ∷ lines) = line ++ 10 ∷ joined lines
