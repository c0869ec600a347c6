use Rattle.std.proofs.Common.{sym, subst}
use Rattle.std.specs.Prelude.{IsTrue}
use Rattle.stimer_bank.specs.Bank.{is_due_in}
use Rattle.stimer_bank.proofs.Shown.{due-is_some}
use Rattle.synic_board.specs.State.{BoardModel, bank_of}
use Rattle.synic_board.proofs.machine.Machine.try_due_timer.Goals as goal

pub mode-mode-requires : goal.mode-mode-requires
mode-mode-requires c = due-is_some c.self.inside.timers c.args.timer c.self.inside.moment
    (subst (λ (h : BoardModel). IsTrue (is_due_in (bank_of h.state) c.args.timer h.state.moment))
    (sym c.self.view_is) c.requires.is_due)
