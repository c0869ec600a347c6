use Rattle.stimer_bank.specs.Bank.{idle_timer}
use Rattle.law_board.specs.Saved.{is_idle}
use Rattle.law_board.proofs.Saved.{last-saved}
use Rattle.law_board.proofs.a_last_change_is_saved_last.Goals as goal

pub returns : goal.returns
returns c xs j x below new h = last-saved is_idle idle_timer xs j x below new h
