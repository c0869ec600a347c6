use Rattle.synic_board.specs.State.{opened}
use Rattle.board_threads.proofs.crew.run_crew.Given as goal

-- the state in which the crew begins
abbrev pub ghosts-run_checked : goal.ghosts-run_checked
ghosts-run_checked g a = record { start = opened a.setup.now.processors a.setup.now.pages a.setup.now.first_ticket }
