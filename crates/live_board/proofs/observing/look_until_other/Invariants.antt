use Rattle.std.proofs.Common.{◌≡◌, []}
use Rattle.live_board.specs.inside.Parts.{IsLooks}
use Rattle.live_board.proofs.observing.look_until_other.Given as goal

abbrev pub invariant-loop-slot : goal.invariant-loop-slot
invariant-loop-slot l =
    IsLooks l.board.state l.fn.vp l.fn.page.log l.board.state l.page.log [] l.slot × (l.page.name ≡ l.fn.page.name)
