use Rattle.test_shared.proofs.watching.each_change_is_seen.Given as goal

-- the roster that was just made, the state in which the board is shared, and its words
abbrev pub ghosts-one_thread-S-Sharing : goal.ghosts-one_thread-S-Sharing
ghosts-one_thread-S-Sharing g a = record { name = a.roster.name; start = a.board.state }

abbrev pub ghosts-one_thread-S-Watching : goal.ghosts-one_thread-S-Watching
ghosts-one_thread-S-Watching g a = record { table = a.words.name }
