use Rattle.bench_shared.proofs.measure.measure.Given as goal

-- the roster that was just made, and the state of the new board
abbrev pub ghosts-measure_on : goal.ghosts-measure_on
ghosts-measure_on g a = record { name = a.roster.name; start = a.board.state }
