-- What a call does to the board that a handle owns, and what it returns.
use Rattle.std.specs.Prelude.{◌≡◌, ℕ, nat_lt, Option, Some, None, List, length, if◌then◌else◌}
use Rattle.board_terms.specs.declared.notices.Notice.{Notice}
use Rattle.c_handles.specs.declared.any_board.AnyBoard.{AnyBoard}
use Rattle.c_handles.specs.Kinds.{notices_in, PerformsOn}
use Rattle.c_terms.specs.declared.reply.CReply.{CReply}
use Rattle.c_terms.specs.declared.reply.Fault.TheVariants.{Closed, NoEvent}
use Rattle.c_terms.specs.Replies.{reply_to_c, fault_to_c}
use Rattle.synic_board.specs.declared.event.Event.{Event}
use Rattle.synic_board.specs.declared.event.Event.TheVariants.{Post, Store, Assert, Send}
use Rattle.synic_board.specs.declared.event.Reply.{Reply}
use Rattle.synic_board.specs.State.{State}
use Rattle.synic_board.specs.Effects.{Outcome}

-- an outcome, with its reply as a plain struct
abbrev pub outcome_to_c : Outcome → State × CReply × List Notice
outcome_to_c (s, reply, notices) = (s, reply_to_c reply (length notices), notices)

-- a board performs an event, and the reply is encoded with the number of its notices
abbrev pub IsPerformedOn : AnyBoard → Event → AnyBoard → CReply → Type 0
IsPerformedOn board event after reply =
    (answer : Reply) × PerformsOn board event after answer × (reply ≡ reply_to_c answer (length (notices_in after)))

-- a call performs an event on the board of a handle: without a board, or without an event, nothing changes
abbrev pub IsPerformed : Option Event → Option AnyBoard → Option AnyBoard → CReply → Type 0
IsPerformed event None after reply = (after ≡ None) × (reply ≡ fault_to_c Closed)
IsPerformed None (Some board) after reply = (after ≡ Some board) × (reply ≡ fault_to_c NoEvent)
IsPerformed (Some event) (Some board) (Some after) reply = IsPerformedOn board event after reply
IsPerformed (Some event) (Some board) None reply = ⊥

-- a message has at most 240 bytes, a store at most 8, and a vector is at least 16; else there is no event
abbrev pub post_from_c : ℕ → ℕ → List ℕ → Option Event
post_from_c port message_type payload =
    if nat_lt 240 (length payload) then None else Some (Post port message_type (record { items = payload }))

abbrev pub store_from_c : ℕ → List ℕ → Option Event
store_from_c address bytes = if nat_lt 8 (length bytes) then None else Some (Store address (record { items = bytes }))

abbrev pub assert_from_c : ℕ → ℕ → Option Event
assert_from_c vp vector = if nat_lt vector 16 then None else Some (Assert vp vector)

abbrev pub send_from_c : ℕ → ℕ → Option Event
send_from_c vector mask = if nat_lt vector 16 then None else Some (Send vector mask)
