-- What a line of an image does to the stage of its reader.
use Rattle.std.specs.Prelude.{◌≡◌, ◌==◌, ℕ, List, [], Bool, false, Option, None, Some}
use Rattle.synic_board.specs.State.{State, BoardModel}
use Rattle.text_image.specs.declared.piece.Piece.TheVariants as piece
use Rattle.text_restore.specs.Restoring.{Stage, Untitled, Titled, Body, rank_of, Follows, IsComplete}
use Rattle.text_restore.specs.declared.stage.Stage.{Stage as Held}
use Rattle.text_restore.specs.declared.stage.Stage.TheVariants as held

-- the stage of a reader, with the board that it holds
abbrev pub stage_of : Held → Stage
stage_of held.Untitled = Untitled
stage_of held.Titled = Titled
stage_of (held.Body draft last lapics) = Body draft last lapics

-- the line may come next, and leads to a stage; nothing is written for it
abbrev pub IsGood : Stage → List ℕ → List ℕ → Stage → Type 0
IsGood old line answer new = Follows old line new × (answer ≡ [])

-- the line may not come next
abbrev pub IsWrong : Stage → List ℕ → Unit {0} → Type 0
IsWrong stage line fault = (new : Stage) → Follows stage line new → ⊥

-- the end was read
abbrev pub has_ended : Stage → Bool
has_ended (Body s last lapics) = last == rank_of piece.End
has_ended stage = false

-- the board of a complete image, and none of any other
abbrev pub IsBoardOf : Option BoardModel → Stage → Type 0
IsBoardOf (Some board) stage = IsComplete stage board.state
IsBoardOf None stage = (s : State) → IsComplete stage s → ⊥
