-- The result of a drive, as a function of the lines of its input.
use Rattle.std.specs.Prelude.{◌≡◌, ℕ, ◌+◌, ◌≤◌, ◌<◌, List, [], ◌∷◌, ◌++◌, length, take, Option, IfSome}
use Rattle.std.specs.Io.KnownBytes.{Consumes, Appends}
use Rattle.text_base.specs.Lines.{lines_of, rest_of, joined}
use Rattle.text_base.specs.Outputs.{Written, IsWritten}
use Rattle.text_driver.specs.Judging.{AreGoodLines}
use Rattle.text_driver.specs.declared.driving.End.{End}
use Rattle.text_driver.specs.declared.driving.End.TheVariants as ends

-- the next of these lines, or the rest after the last line feed
abbrev pub next_of : List (List ℕ) → List ℕ → List ℕ
next_of [] rest = rest
next_of (line ∷ lines) rest = line

-- A place in a text after some good lines: the number of the next line, the judge's state before it, the whole lines
-- that are left, and what follows the last line feed.
pub record Place (J : Type 0) : Type 0 where
  pub number : ℕ
  pub state : J
  pub left : List (List ℕ)
  pub rest : List ℕ

abbrev pub place : {J : Type 0} → ℕ → J → List (List ℕ) → List ℕ → Place J
place number state left rest = record { number = number; state = state; left = left; rest = rest }

-- the next whole line is there, and this holds of it
abbrev pub NextLine : List (List ℕ) → (List ℕ → Type 0) → Type 0
NextLine [] holds = ⊥
NextLine (line ∷ left) holds = holds line

-- How a drive ends at a place: at the end of the text, or at a line that is wrong, too long or cut.
abbrev pub Ends : {J F : Type 0} → (J → List ℕ → F → Type 0) → End F → Place J → J → Type 0
Ends wrong (ends.Last line) p new = (line ≡ p.number) × (new ≡ p.state) × (p.left ≡ []) × (p.rest ≡ [])
Ends wrong (ends.Wrong line fault) p new =
    NextLine p.left (λ bad. (line ≡ p.number) × (length bad ≤ 640) × wrong p.state bad fault)
Ends wrong (ends.Long line) p new = (line ≡ p.number) × (new ≡ p.state) × (640 < length (next_of p.left p.rest))
Ends wrong (ends.Cut line) p new =
    (line ≡ p.number) × (new ≡ p.state) × (p.left ≡ []) × (0 < length p.rest) × (length p.rest ≤ 640)
Ends wrong end p new = Unit {0}

-- The first lines of the text are good, these are their answers, and then a drive ends so.
pub record Stops {J F : Type 0} (good : J → List ℕ → List ℕ → J → Type 0) (wrong : J → List ℕ → F → Type 0)
    (end : End F) (old new : J) (answers text : List ℕ) : Type 0 where
  pub lines : List (List ℕ)
  pub left : List (List ℕ)
  pub state : J
  pub split : lines_of text ≡ lines ++ left
  pub follows : AreGoodLines good old lines answers state
  pub ends : Ends wrong end (place (length lines + 1) state left (rest_of text)) new

-- the answers were sent; if a write failed, a prefix of them
abbrev pub Sends : {F : Type 0} → End F → List ℕ → List ℕ → Type 0
Sends ends.Writing answers sent = (unsent : List ℕ) × (answers ≡ sent ++ unsent)
Sends end answers sent = answers ≡ sent

-- A drive takes the reader and the writer from their contents before to those after: the bytes that were read
-- determine its end, and the whole input determines the same end.
pub record Drives {J F : Type 0} (good : J → List ℕ → List ℕ → J → Type 0) (wrong : J → List ℕ → F → Type 0)
    (end : End F) (old new : J) (r0 r1 w0 w1 : Option (List ℕ)) : Type 0 where
  pub taken : List ℕ
  pub answers : List ℕ
  pub sent : List ℕ
  pub reads : Consumes r0 r1 taken
  pub writes : Appends w0 w1 sent
  pub sends : Sends end answers sent
  pub read : Stops good wrong end old new answers taken
  pub whole : IfSome r0 (Stops good wrong end old new answers)

-- before a read that failed, all answers were written
abbrev pub IsWrittenFirst : {F : Type 0} → End F → Written → Type 0
IsWrittenFirst ends.Reading output = IsWritten output
IsWrittenFirst end output = Unit {0}

-- the greatest number of bytes that are read
abbrev pub most_of : {F : Type 0} → End F → ℕ
most_of ends.Reading = 1073741825
most_of end = 1073741824

-- At most one block, of 65,536 bytes, was read after line k, and after its first 641 bytes.
pub record ReadsNear (k : ℕ) (r0 r1 : Option (List ℕ)) : Type 0 where
  pub taken : List ℕ
  pub before : ℕ
  pub reads : Consumes r0 r1 taken
  pub number : k ≡ before + 1
  pub behind_line : length taken ≤ length (joined (take k (lines_of taken))) + 65536
  pub behind_part : length taken ≤ length (joined (take before (lines_of taken))) + 641 + 65536

-- the same for the line at which a drive ends
abbrev pub StopsNear : {F : Type 0} → End F → Option (List ℕ) → Option (List ℕ) → Type 0
StopsNear (ends.Last line) r0 r1 = ReadsNear line r0 r1
StopsNear (ends.Wrong line fault) r0 r1 = ReadsNear line r0 r1
StopsNear (ends.Long line) r0 r1 = ReadsNear line r0 r1
StopsNear (ends.Cut line) r0 r1 = ReadsNear line r0 r1
StopsNear end r0 r1 = Unit {0}
