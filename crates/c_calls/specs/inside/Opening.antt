-- A board on its way into a handle.
use Rattle.std.specs.Prelude.{◌≡◌, Option, Some, Result, Ok, Err}
use Rattle.synic_board.specs.declared.board.OpenFault.{OpenFault}
use Rattle.c_handles.specs.declared.any_board.AnyBoard.{AnyBoard}
use Rattle.c_handles.specs.declared.any_board.AnyBoard.TheVariants.{Plain}
use Rattle.c_handles.specs.declared.board.BoardWithNotices.{BoardWithNotices}

-- the handle has the board that was opened
abbrev pub IsPut : Result BoardWithNotices OpenFault → Option AnyBoard → Type 0
IsPut (Ok opened) board = board ≡ Some (Plain opened)
IsPut (Err fault) board = ⊥
