-- A board that was opened or restored.
use Rattle.std.specs.Prelude.{◌≡◌, ℕ, List, Option, Some, None, []}
use Rattle.board_terms.specs.Quantities.{Ticket}
use Rattle.c_handles.specs.declared.any_board.AnyBoard.{AnyBoard}
use Rattle.c_handles.specs.declared.any_board.AnyBoard.TheVariants.{Plain, Live}
use Rattle.synic_board.specs.State.{opened}
use Rattle.text_restore.specs.Images.{IsImage}

-- the board of a newly opened board, without notices
abbrev pub IsNewBoard : ℕ → ℕ → Ticket → Option AnyBoard → Type 0
IsNewBoard processors pages first_ticket (Some (Plain board)) =
    (board.board.state ≡ opened processors pages first_ticket) × (board.notices ≡ [])
IsNewBoard processors pages first_ticket (Some (Live board)) = ⊥
IsNewBoard processors pages first_ticket None = ⊥

-- the board of an image, without notices
abbrev pub IsRestoredBoard : List ℕ → Option AnyBoard → Type 0
IsRestoredBoard image (Some (Plain board)) = IsImage image board.board.state × (board.notices ≡ [])
IsRestoredBoard image (Some (Live board)) = ⊥
IsRestoredBoard image None = ⊥
