-- Texts that are images, and the first wrong line of a text that is none.
use Rattle.std.specs.Prelude.{◌≡◌, ◌≤◌, ◌+◌, ℕ, List, [], ◌∷◌, ◌++◌, length, Option}
use Rattle.text_base.specs.Lines.{lines_of, rest_of}
use Rattle.text_driver.specs.Driving.{ReadsNear}
use Rattle.synic_board.specs.State.{State}
use Rattle.text_restore.specs.Restoring.{Stage, Untitled, Follows, IsComplete}
use Rattle.text_restore.specs.declared.restoring.RestoreEnd.{RestoreEnd}
use Rattle.text_restore.specs.declared.restoring.RestoreEnd.TheVariants as ends

-- these lines, of at most 640 bytes each, lead from one stage to another
abbrev pub Leads : Stage → List (List ℕ) → Stage → Type 0
Leads old [] new = new ≡ old
Leads old (line ∷ lines) new = (next : Stage) × (length line ≤ 640) × Follows old line next × Leads next lines new

-- The text is whole lines, which lead to a complete image of a board with this state.
pub record IsImage (text : List ℕ) (s : State) : Type 0 where
  pub stage : Stage
  pub leads : Leads Untitled (lines_of text) stage
  pub complete : IsComplete stage s
  pub whole : rest_of text ≡ []

-- No line may come next here, or there is none and the image is not complete, or only a part of one.
abbrev pub IsStuck : Stage → List (List ℕ) → List ℕ → Type 0
IsStuck stage (line ∷ lines) rest = (next : Stage) → length line ≤ 640 → Follows stage line next → ⊥
IsStuck stage [] rest = (s : State) → IsComplete stage s → rest ≡ [] → ⊥

-- Line k is the first wrong line: the lines before it may follow one another, and it may not come after them.
pub record FirstWrong (text : List ℕ) (k : ℕ) : Type 0 where
  pub lines : List (List ℕ)
  pub left : List (List ℕ)
  pub stage : Stage
  pub split : lines_of text ≡ lines ++ left
  pub number : k ≡ length lines + 1
  pub leads : Leads Untitled lines stage
  pub stuck : IsStuck stage left (rest_of text)

-- what the end of a restore says of the text
abbrev pub EndsRestore : RestoreEnd → List ℕ → Type 0
EndsRestore (ends.Restored board) text = IsImage text board.state
EndsRestore (ends.Refused k) text = FirstWrong text k
EndsRestore ends.Memory text = Unit {0}
EndsRestore ends.Reading text = Unit {0}

-- the greatest number of bytes read: the byte beyond the limit only if reading ends there
abbrev pub most_read : RestoreEnd → ℕ
most_read ends.Reading = 1073741825
most_read end = 1073741824

-- after the first wrong line at most one block was read
abbrev pub StopsNear : RestoreEnd → Option (List ℕ) → Option (List ℕ) → Type 0
StopsNear (ends.Refused k) r0 r1 = ReadsNear k r0 r1
StopsNear end r0 r1 = Unit {0}
