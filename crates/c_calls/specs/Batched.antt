-- What a batch does to the board that a handle owns, and what it returns.
use Rattle.std.specs.Prelude.{◌≡◌, List, length, map, Option, Some, None}
use Rattle.c_handles.specs.declared.any_board.AnyBoard.{AnyBoard}
use Rattle.c_handles.specs.declared.any_board.AnyBoard.TheVariants.{Plain, Live}
use Rattle.c_handles.specs.declared.board.BoardWithNotices.{BoardWithNotices}
use Rattle.c_terms.specs.Batches.{Performed, batch, view_of}
use Rattle.c_terms.specs.declared.event.CEvent.{CEvent}
use Rattle.c_terms.specs.declared.notice.CNotice.{CNotice}
use Rattle.c_terms.specs.declared.reply.CReply.{CReply}
use Rattle.c_terms.specs.Notices.{notice_to_c}
use Rattle.c_terms.specs.Rooms.{Fronts}
use Rattle.c_calls.specs.declared.batches.CBatch.{CBatch}

-- a batch was performed: the board after it, its replies and notices at the front of their buffers, and their numbers
pub record IsBatchPerformed (performed : Performed) (after : BoardWithNotices)
    (replies_before replies_after : List CReply) (notices_before notices_after : List CNotice)
    (result : CBatch) : Type 0 where
  pub board : view_of after ≡ performed.board
  pub replies : Fronts performed.replies replies_before replies_after
  pub notices : Fronts (map notice_to_c performed.notices) notices_before notices_after
  pub done : length performed.replies ≡ result.done
  pub emitted : length performed.notices ≡ result.emitted

-- no event was performed, and the buffers are unchanged
pub record IsUntouched (replies_before replies_after : List CReply) (notices_before notices_after : List CNotice)
    (result : CBatch) : Type 0 where
  pub replies : replies_after ≡ replies_before
  pub notices : notices_after ≡ notices_before
  pub done : result.done ≡ 0
  pub emitted : result.emitted ≡ 0

-- a batch on the board of a handle: without a board, or with one that has live pages, nothing happens
abbrev pub IsBatch : Option AnyBoard → List CEvent → Option AnyBoard → List CReply → List CReply → List CNotice
    → List CNotice → CBatch → Type 0
IsBatch (Some (Plain board)) events (Some (Plain after)) r0 r1 n0 n1 result =
    IsBatchPerformed (batch (view_of board) events) after r0 r1 n0 n1 result
IsBatch (Some (Plain board)) events after r0 r1 n0 n1 result = ⊥
IsBatch (Some (Live board)) events after r0 r1 n0 n1 result =
    (after ≡ Some (Live board)) × IsUntouched r0 r1 n0 n1 result
IsBatch None events after r0 r1 n0 n1 result = (after ≡ None) × IsUntouched r0 r1 n0 n1 result
