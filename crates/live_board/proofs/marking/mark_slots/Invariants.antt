use Rattle.std.proofs.Common.{◌≡◌}
use Rattle.live_board.specs.inside.Parts.{IsMarking}
use Rattle.live_board.proofs.marking.mark_slots.Given as goal

abbrev pub invariant-loop-number : goal.invariant-loop-number
invariant-loop-number l =
    IsMarking l.fn.board.state l.fn.vp l.fn.words l.fn.page.log l.board.state l.page.log l.owed l.fn.notices l.notices
    l.number × (l.page.name ≡ l.fn.page.name)
