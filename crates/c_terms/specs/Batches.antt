-- The outcome of several plain events, one after another.
use Rattle.std.specs.Prelude.{◌≡◌, List, [], ◌∷◌, ◌++◌, length, Option, Some, None}
use Rattle.std.specs.Option.{option_map_or}
use Rattle.c_handles.specs.declared.board.BoardWithNotices.{BoardWithNotices}
use Rattle.board_terms.specs.declared.notices.Notice.{Notice}
use Rattle.c_terms.specs.declared.event.CEvent.{CEvent}
use Rattle.c_terms.specs.declared.reply.CReply.{CReply}
use Rattle.c_terms.specs.Events.{event_from_c}
use Rattle.c_terms.specs.Replies.{reply_to_c}
use Rattle.synic_board.specs.State.{State}
use Rattle.synic_board.specs.Effects.{Outcome}
use Rattle.synic_board.specs.Step.{step}

-- a board, and the notices of its last event
abbrev pub BoardView : Type 0
BoardView = State × List Notice

abbrev pub view_of : BoardWithNotices → BoardView
view_of board = (board.board.state, board.notices)

-- the board after a batch, each reply with the number of its notices, and all notices
pub record Performed : Type 0 where
  pub board : BoardView
  pub replies : List CReply
  pub notices : List Notice

-- no event is performed
abbrev pub empty : BoardView → Performed
empty d = record { board = d; replies = []; notices = [] }

-- an event, and then a batch
abbrev pub followed_by : Outcome → Performed → Performed
followed_by o b =
    record { board = b.board; replies = reply_to_c o.1 (length o.2) ∷ b.replies; notices = o.2 ++ b.notices }

-- events one after another, up to the first that is invalid
unfoldable pub batch : BoardView → List CEvent → Performed
batch d [] = empty d
batch d (e ∷ es) =
    option_map_or (λ event. let o = step d.0 event in followed_by o (batch (o.0, o.2) es)) (event_from_c e) (empty d)

-- there is a next event, and it is invalid
abbrev pub IsNotAnEvent : Option CEvent → Type 0
IsNotAnEvent (Some e) = event_from_c e ≡ None
IsNotAnEvent None = ⊥
