use Rattle.test_shared.proofs.sharing.two_threads_share_a_board.Given as goal

-- the roster that was just made, and the state in which the board is shared
abbrev pub ghosts-two_threads : goal.ghosts-two_threads
ghosts-two_threads g a = record { name = a.roster.name; start = a.board.state }
