use Rattle.std.proofs.Common.{◌≡◌, List}
use Rattle.live_pages.specs.declared.access.Access.{Access}
use Rattle.live_board.specs.inside.Parts.{IsLooks, IsOther}
use Rattle.live_board.proofs.observing.look_on.Given as goal

abbrev pub invariant-loop-slot : goal.invariant-loop-slot
invariant-loop-slot l =
    ((log : List Access) → IsOther l.fn.board.state l.fn.vp l.fn.other l.fn.found log l.fn.page.log
    → IsLooks l.fn.board.state l.fn.vp log l.board.state l.page.log l.notices l.slot)
    × (l.page.name ≡ l.fn.page.name)
