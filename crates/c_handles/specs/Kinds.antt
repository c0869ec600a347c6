-- What both kinds of boards have.
use Rattle.std.specs.Prelude.{◌≡◌, ℕ, List, [], Option, Some, None}
use Rattle.board_terms.specs.declared.notices.Notice.{Notice}
use Rattle.live_pages.specs.declared.access.Access.{Access}
use Rattle.live_board.specs.Acting.{Acts}
use Rattle.live_board.specs.Refreshing.{AreAllRefreshed}
use Rattle.synic_board.specs.State.{BoardModel, State}
use Rattle.synic_board.specs.Step.{step}
use Rattle.synic_board.specs.declared.event.Event.{Event}
use Rattle.synic_board.specs.declared.event.Reply.{Reply}
use Rattle.c_handles.specs.declared.any_board.AnyBoard.{AnyBoard}
use Rattle.c_handles.specs.declared.any_board.AnyBoard.TheVariants.{Plain, Live}

-- the board, and its state
abbrev pub board_in : AnyBoard → BoardModel
board_in (Plain held) = held.board
board_in (Live held) = held.live.board

abbrev pub state_in : AnyBoard → State
state_in any = (board_in any).state

-- the notices of the last event
abbrev pub notices_in : AnyBoard → List Notice
notices_in (Plain held) = held.notices
notices_in (Live held) = held.notices

-- the processors of which the board performed an EOM after the last event
abbrev pub eoms_in : AnyBoard → ℕ
eoms_in (Plain held) = 0
eoms_in (Live held) = held.eoms

-- a board performs an event, and a live one the EOMs that processors are owed after it
abbrev pub PerformsOn : AnyBoard → Event → AnyBoard → Reply → Type 0
PerformsOn (Plain old) event (Plain now) reply = (now.board.state, reply, now.notices) ≡ step old.board.state event
PerformsOn (Live old) event (Live now) reply = Acts old.live event now.live reply now.eoms now.notices
PerformsOn (Plain old) event (Live now) reply = ⊥
PerformsOn (Live old) event (Plain now) reply = ⊥

-- the accesses of the host to the live pages, if there are such pages
abbrev pub pages_in : AnyBoard → Option (List (List Access))
pages_in (Plain held) = None
pages_in (Live held) = Some held.live.pages

-- the own pages of a live board are up to date; nothing happens to any other
abbrev pub IsRefreshedOn : AnyBoard → AnyBoard → Type 0
IsRefreshedOn (Plain old) now = now ≡ Plain old
IsRefreshedOn (Live old) (Live now) = AreAllRefreshed old.live now.live now.notices × (now.eoms ≡ 0)
IsRefreshedOn (Live old) (Plain now) = ⊥

-- a plain board got live pages, and has no notices and no EOMs; a live one stays unchanged
abbrev pub IsMadeLive : AnyBoard → AnyBoard → Type 0
IsMadeLive (Plain held) (Live after) = (after.live.board ≡ held.board) × (after.notices ≡ []) × (after.eoms ≡ 0)
IsMadeLive (Plain held) (Plain after) = ⊥
IsMadeLive (Live held) after = after ≡ Live held
