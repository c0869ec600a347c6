use Rattle.test_threads.proofs.given.the_sizes_of_a_board_that_is_given_are_checked.Given as goal

abbrev pub ghosts-share_fault : goal.ghosts-share_fault
ghosts-share_fault g a = record { start = a.board.state }
