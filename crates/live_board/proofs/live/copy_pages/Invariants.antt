use Rattle.std.proofs.Common.{◌*◌}
use Rattle.live_board.specs.inside.Parts.{AreCopied}
use Rattle.live_board.proofs.live.copy_pages.Given as goal

abbrev pub invariant-loop-number : goal.invariant-loop-number
invariant-loop-number l = AreCopied l.board.state (2 * l.number) l.pages.items l.guests.items
