use Rattle.test_threads.proofs.given.a_board_that_is_given_is_settled.Given as goal

abbrev pub ghosts-settled : goal.ghosts-settled
ghosts-settled g a = record { start = a.board.state }
