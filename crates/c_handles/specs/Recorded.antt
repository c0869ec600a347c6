-- A board with its history.
use Rattle.std.specs.Prelude.{◌≡◌, ℕ, [], Option, Some, None}
use Rattle.c_handles.specs.declared.any_board.AnyBoard.{AnyBoard}
use Rattle.c_handles.specs.declared.any_board.AnyBoard.TheVariants.{Plain, Live}
use Rattle.c_handles.specs.declared.board.BoardWithNotices.{BoardWithNotices}
use Rattle.c_handles.specs.declared.recorded_handle.RecordedHandle.{RecordedHandle}
use Rattle.c_handles.specs.Histories.{HistoryModel, history_model}
use Rattle.synic_board.specs.State.{opened}

-- a board, and the history that leads to it
pub record Recorded : Type 0 where
  pub board : BoardWithNotices
  pub history : HistoryModel

-- those of a handle, if it is open. A board with a history has no live pages
abbrev pub both : Option AnyBoard → Option HistoryModel → Option Recorded
both (Some (Plain board)) (Some history) = Some (record { board = board; history = history })
both (Some (Live board)) (Some history) = None
both (Some board) None = None
both None history = None

abbrev pub recorded_of : RecordedHandle → Option Recorded
recorded_of h = both h.board.board h.history.history

-- a newly opened board, without notices, with an empty history
abbrev pub IsNewlyRecorded : ℕ → ℕ → ℕ → Option Recorded → Type 0
IsNewlyRecorded processors pages first_ticket None = ⊥
IsNewlyRecorded processors pages first_ticket (Some r) =
    (r.board.board.state ≡ opened processors pages first_ticket) × (r.board.notices ≡ [])
    × (r.history ≡ history_model processors pages first_ticket [])
