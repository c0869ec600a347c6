-- What a call with a time does, and what the host has to do after it.
use Rattle.std.specs.Prelude.{◌≡◌, ◌<◌, ◌==◌, ◌&&◌, ℕ, not, nat_lt, Bool, true, false, List, [], ◌++◌, length, map, Option, Some, None, is_some, slice_index_or}
use Rattle.std.specs.Int.{bit_at}
use Rattle.board_terms.specs.declared.notices.Notice.{Notice}
use Rattle.synic_board.specs.declared.event.Event.{Event}
use Rattle.synic_board.specs.declared.event.Event.TheVariants.{Tick}
use Rattle.synic_board.specs.declared.event.Reply.{Reply}
use Rattle.synic_board.specs.State.{State}
use Rattle.synic_board.specs.Summaries.{summary_of}
use Rattle.c_handles.specs.declared.any_board.AnyBoard.{AnyBoard}
use Rattle.c_handles.specs.Kinds.{state_in, notices_in, eoms_in, PerformsOn}
use Rattle.c_terms.specs.declared.notice.CNotice.{CNotice}
use Rattle.c_terms.specs.declared.reply.CReply.{CReply}
use Rattle.c_terms.specs.declared.reply.Fault.TheVariants.{Closed}
use Rattle.c_terms.specs.Notices.{notice_to_c}
use Rattle.c_terms.specs.Replies.{fault_to_c}
use Rattle.c_terms.specs.Rooms.{Fronts}
use Rattle.c_calls.specs.Inspected.{no_eoi_required_at}
use Rattle.c_calls.specs.Performing.{IsPerformed}

-- the clock moves if the time is later than the board's, with these notices and EOMs
abbrev pub IsAdvanced : Bool → ℕ → AnyBoard → AnyBoard → List Notice → ℕ → Type 0
IsAdvanced true now board after notices eoms =
    (answer : Reply) × PerformsOn board (Tick now) after answer × (notices ≡ notices_in after) × (eoms ≡ eoms_in after)
IsAdvanced false now board after notices eoms = (after ≡ board) × (notices ≡ []) × (eoms ≡ 0)

-- the notices and the EOMs of an event after which this is the board; none if there was no event
abbrev pub notices_of_event : Option Event → AnyBoard → List Notice
notices_of_event None board = []
notices_of_event (Some event) board = notices_in board

abbrev pub eoms_of_event : Option Event → AnyBoard → ℕ
eoms_of_event None board = 0
eoms_of_event (Some event) board = eoms_in board

-- the clock moves, and then the board performs the event, if there is one: the reply, the notices of both in order,
-- and the processors of which it performed an EOM after each
pub record IsStep (now : ℕ) (event : Option Event) (board after : AnyBoard) (reply : CReply) (count : ℕ)
    (clock_eoms eoms : ℕ) (room_before room_after : List CNotice) : Type 0 where
  pub mid : AnyBoard
  pub first : List Notice
  pub advanced : IsAdvanced (nat_lt (state_in board).moment now) now board mid first clock_eoms
  pub performed : IsPerformed event (Some mid) (Some after) reply
  pub counted : count ≡ length (first ++ notices_of_event event after)
  pub notices : Fronts (map notice_to_c (first ++ notices_of_event event after)) room_before room_after
  pub eoms_after : eoms ≡ eoms_of_event event after

-- a call does so on the board of a handle; without a board nothing happens
abbrev pub IsStepped : ℕ → Option Event → Option AnyBoard → Option AnyBoard → CReply → ℕ → ℕ → ℕ
    → List CNotice → List CNotice → Type 0
IsStepped now event None after reply count clock_eoms eoms room_before room_after =
    (after ≡ None) × (reply ≡ fault_to_c Closed) × (count ≡ 0) × (clock_eoms ≡ 0) × (eoms ≡ 0)
    × (room_after ≡ room_before)
IsStepped now event (Some board) (Some after) reply count clock_eoms eoms room_before room_after =
    IsStep now event board after reply count clock_eoms eoms room_before room_after
IsStepped now event (Some board) None reply count clock_eoms eoms room_before room_after = ⊥

-- whether a processor has a next vector
abbrev pub has_next : State → ℕ → Bool
has_next s p = is_some (slice_index_or (summary_of s).nexts p None)

abbrev pub has_next_at : Option AnyBoard → ℕ → Bool
has_next_at None p = false
has_next_at (Some board) p = has_next (state_in board) p

-- bit p of a word is set iff processor p has a next vector
abbrev pub AreNextBits : Option AnyBoard → ℕ → Type 0
AreNextBits board word = (p : ℕ) → p < 64 → (bit_at word p == 1) ≡ has_next_at board p

-- bit p of a word is set iff it is set in another, and an EOI of processor p is required
abbrev pub AreEndBits : Option AnyBoard → ℕ → ℕ → Type 0
AreEndBits board assisted word =
    (p : ℕ) → p < 64 → (bit_at word p == 1) ≡ ((bit_at assisted p == 1) && not (no_eoi_required_at board p))
