use Rattle.test_shared.proofs.watching.watchers_are_compared_at_the_end.Given as goal

-- the roster that was just made, the state in which the board is shared, and its words
abbrev pub ghosts-one_board-S-Sharing : goal.ghosts-one_board-S-Sharing
ghosts-one_board-S-Sharing g a = record { name = a.roster.name; start = a.board.state }

abbrev pub ghosts-one_board-S-Watching : goal.ghosts-one_board-S-Watching
ghosts-one_board-S-Watching g a = record { table = a.words.name }
