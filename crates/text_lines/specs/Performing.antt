-- Performing the event of a line.
use Rattle.std.specs.Prelude.{◌≡◌, List, Option, None, Some}
use Rattle.board_terms.specs.declared.notices.Notice.{Notice}
use Rattle.synic_board.specs.State.{BoardModel}
use Rattle.synic_board.specs.Performing.{Performs}
use Rattle.synic_board.specs.declared.event.Event.{Event}
use Rattle.synic_board.specs.declared.event.Reply.{Reply}

-- the event that some fields denote was performed, with this reply; or they denote none, and the board is the same
abbrev pub PerformsLine : Option Reply → Option Event → BoardModel → BoardModel → List Notice → Type 0
PerformsLine None parsed old new notices = (parsed ≡ None) × (new ≡ old)
PerformsLine (Some reply) parsed old new notices =
    (event : Event) × (parsed ≡ Some event) × Performs old event new reply notices

-- the same, and this was made of the reply
abbrev pub MakesOfLine : {T : Type 0} → (Reply → T → Type 0) → Option T → Option Event → BoardModel → BoardModel
    → List Notice → Type 0
MakesOfLine makes None parsed old new notices = PerformsLine None parsed old new notices
MakesOfLine makes (Some made) parsed old new notices =
    (reply : Reply) × PerformsLine (Some reply) parsed old new notices × makes reply made
