-- Performing the event of a line, whose reply stays the same.
use Rattle.std.proofs.Common.{◌≡◌, List, Option, None, Some}
use Rattle.board_terms.specs.declared.notices.Notice.{Notice}
use Rattle.synic_board.specs.State.{BoardModel}
use Rattle.synic_board.specs.declared.event.Event.{Event}
use Rattle.synic_board.specs.declared.event.Reply.{Reply}
use Rattle.text_lines.specs.Performing.{PerformsLine, MakesOfLine}

pub as-it-is : (makes : Reply → Reply → Type 0) → ((reply made : Reply) → makes reply made → made ≡ reply) →
    (result : Option Reply) (parsed : Option Event) (old new : BoardModel) (notices : List Notice)
    → MakesOfLine makes result parsed old new notices → PerformsLine result parsed old new notices
as-it-is makes same None parsed old new notices h = h
as-it-is makes same (Some made) parsed old new notices h = rw (same h.0 made h.2) h.1
