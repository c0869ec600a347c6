use Rattle.bench_shared.proofs.watched.measure_watched.Given as goal

-- the roster that was just made, the state of the new board, and its words
abbrev pub ghosts-watch-S-Sharing : goal.ghosts-watch-S-Sharing
ghosts-watch-S-Sharing g a = record { name = a.roster.name; start = a.board.state }

abbrev pub ghosts-watch-S-Watching : goal.ghosts-watch-S-Watching
ghosts-watch-S-Watching g a = record { table = a.words.name }
