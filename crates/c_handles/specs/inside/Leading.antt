-- The invariant of a board with its history.
use Rattle.std.specs.Prelude.{◌≡◌, Option, Some, None}
use Rattle.std.specs.Coded.{Coded-set, Unit-prop}
use Rattle.c_handles.specs.declared.any_board.AnyBoard.{AnyBoard}
use Rattle.c_handles.specs.declared.any_board.AnyBoard.TheVariants.{Plain, Live}
use Rattle.c_handles.specs.Histories.{HistoryModel, end_of}
use Rattle.synic_board.specs.inside.Codes.{state_code}

-- the history leads to the state of the board, which has no live pages, or there is neither
abbrev pub LeadsTo : Option HistoryModel → Option AnyBoard → Type 0
LeadsTo (Some history) (Some (Plain board)) = board.board.state ≡ end_of history
LeadsTo (Some history) (Some (Live board)) = ⊥
LeadsTo (Some history) None = ⊥
LeadsTo None (Some board) = ⊥
LeadsTo None None = Unit {0}

pub LeadsTo-prop : (history : Option HistoryModel) (board : Option AnyBoard) → IsProp (LeadsTo history board)
LeadsTo-prop (Some history) (Some (Plain board)) = Coded-set state_code _ _
LeadsTo-prop (Some history) (Some (Live board)) = λ x y. absurd x
LeadsTo-prop (Some history) None = λ x y. absurd x
LeadsTo-prop None (Some board) = λ x y. absurd x
LeadsTo-prop None None = Unit-prop
