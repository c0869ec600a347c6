-- A step of a board: the clock and an event.
use Rattle.std.proofs.Common.{◌≡◌, ℕ, nat_lt, List, ◌++◌, length, map, refl}
use Rattle.std.specs.Prelude.{Option, Some, None}
use Rattle.board_terms.specs.declared.notices.Notice.{Notice}
use Rattle.synic_board.specs.declared.event.Event.{Event}
use Rattle.synic_board.specs.declared.event.Reply.{Reply}
use Rattle.c_handles.specs.declared.any_board.AnyBoard.{AnyBoard}
use Rattle.c_handles.specs.Kinds.{state_in, notices_in, eoms_in}
use Rattle.c_terms.specs.declared.notice.CNotice.{CNotice}
use Rattle.c_terms.specs.Notices.{notice_to_c}
use Rattle.c_terms.specs.Replies.{reply_to_c}
use Rattle.c_terms.specs.Rooms.{Fronts}
use Rattle.c_calls.specs.inside.Some.{PerformsSome}
use Rattle.c_calls.specs.Stepping.{IsAdvanced, IsStep}

pub of-event : (now : ℕ) (event : Option Event) (board mid after : AnyBoard) (answer : Reply) (first : List Notice)
    (count eoms : ℕ) (before room : List CNotice)
    → IsAdvanced (nat_lt (state_in board).moment now) now board mid first eoms → PerformsSome event mid after answer
    → count ≡ length (first ++ notices_in after) → Fronts (map notice_to_c (first ++ notices_in after)) before room
    → IsStep now event board after (reply_to_c answer (length (notices_in after))) count eoms (eoms_in after) before
    room
of-event now None board mid after answer first count eoms before room advanced performs counted fronts =
    absurd performs
of-event now (Some event) board mid after answer first count eoms before room advanced performs counted fronts =
    record {
      mid = mid;
      first = first;
      advanced = advanced;
      performed = (answer, performs, refl);
      counted = counted;
      notices = fronts;
      eoms_after = refl;
    }
