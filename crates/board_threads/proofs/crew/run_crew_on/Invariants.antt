use Rattle.board_threads.proofs.crew.run_crew_on.Given as goal

-- the state in which the crew begins
abbrev pub ghosts-run_checked : goal.ghosts-run_checked
ghosts-run_checked g a = record { start = a.board.state }
