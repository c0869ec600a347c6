use Rattle.test_shared.proofs.watching.a_thread_polls_what_another_performs.Given as goal

-- the roster that was just made, the state in which the board is shared, and its words
abbrev pub ghosts-two_threads-S-Sharing : goal.ghosts-two_threads-S-Sharing
ghosts-two_threads-S-Sharing g a = record { name = a.roster.name; start = a.board.state }

abbrev pub ghosts-two_threads-S-Watching : goal.ghosts-two_threads-S-Watching
ghosts-two_threads-S-Watching g a = record { table = a.words.name }
