-- What a judge decides about a line, and about consecutive lines.
use Rattle.std.specs.Prelude.{◌≡◌, ℕ, ◌+◌, ◌≤◌, List, [], ◌∷◌, ◌++◌, length}
use Rattle.text_driver.specs.declared.judge.Taken.{Taken}
use Rattle.text_driver.specs.declared.judge.Taken.TheVariants as taken

-- a line is good, or has a fault
abbrev pub Judges : {J F : Type 0} → (J → List ℕ → List ℕ → J → Type 0) → (J → List ℕ → F → Type 0) → Taken F → J → J
    → List ℕ → List ℕ → Type 0
Judges good wrong taken.Good old new line out = good old line out new
Judges good wrong (taken.Wrong fault) old new line out = wrong old line fault
Judges good wrong taken.Memory old new line out = Unit {0}

-- What was put for a line: its answer, or nothing if it is not good.
abbrev pub Puts : {F : Type 0} → Taken F → List ℕ → List ℕ → List ℕ → Type 0
Puts taken.Good answer before after = after ≡ before ++ answer
Puts result answer before after = after ≡ before

-- the same, and what was put
abbrev pub Answers : {J F : Type 0} → (J → List ℕ → List ℕ → J → Type 0) → (J → List ℕ → F → Type 0) → Taken F → J → J
    → List ℕ → List ℕ → List ℕ → Type 0
Answers good wrong result old new line before after =
    (answer : List ℕ) × Judges good wrong result old new line answer × Puts result answer before after

-- after a good line the judge may take another
abbrev pub GoesOn : {J F : Type 0} → (ℕ → J → Type 0) → Taken F → J → J → Type 0
GoesOn ready taken.Good old new = (lines : ℕ) → ready lines old → ready (lines + 1) new
GoesOn ready (taken.Wrong fault) old new = Unit {0}
GoesOn ready taken.Memory old new = Unit {0}

-- Starting in one state and ending in another, each of these lines is good and has at most 640 bytes, and these
-- answers are sent.
abbrev pub AreGoodLines : {J : Type 0} → (J → List ℕ → List ℕ → J → Type 0) → J → List (List ℕ) → List ℕ → J → Type 0
AreGoodLines good old [] sent new = (sent ≡ []) × (new ≡ old)
AreGoodLines {J} good old (line ∷ lines) sent new =
    (answer rest : List ℕ) × (next : J) × (length line ≤ 640) × good old line answer next
    × AreGoodLines good next lines rest new × (sent ≡ answer ++ rest)
