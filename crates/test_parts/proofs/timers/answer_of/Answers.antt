use Rattle.std.proofs.Common.{sym, ◌∙◌}
use Rattle.stimer_bank.proofs.Shown.{due-is_some}
use Rattle.test_parts.proofs.timers.answer_of.Goals as goal

pub mode-requires : goal.mode-requires
mode-requires c = due-is_some c.args.bank.now c.args.timer c.args.moment (sym c.is_due.ensures ∙ c.if-not-is_due.false)
