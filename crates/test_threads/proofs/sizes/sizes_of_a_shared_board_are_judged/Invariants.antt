use Rattle.synic_board.specs.State.{opened}
use Rattle.test_threads.proofs.sizes.sizes_of_a_shared_board_are_judged.Given as goal

abbrev pub ghosts-open : goal.ghosts-open
ghosts-open g a = record { start = opened a.sizes.processors a.sizes.pages 0 }
