use Rattle.std.proofs.Common.{◌-◌, ◌*◌}
use Rattle.live_board.proofs.ticking.+tick_from.Given as goal

abbrev pub decreases-tick_from : goal.decreases-tick_from
decreases-tick_from l = 129 - 2 * l.number

abbrev pub decreases-tick_posted : goal.decreases-tick_posted
decreases-tick_posted l = 128 - 2 * l.vp
