use Rattle.std.proofs.Common.{length}
use Rattle.board_threads.proofs.settling.+have_own_numbers.Given as goal

abbrev pub decreases-have_own_numbers : goal.decreases-have_own_numbers
decreases-have_own_numbers l = length l.actors.now
