use Rattle.std.proofs.Common.{ap, ◌∙◌, length}
use Rattle.stimer_bank.specs.Bank.{Bank}
use Rattle.synic_board.proofs.Clocks.{many-reset}
use Rattle.synic_board.proofs.Restored.{kept-timers}
use Rattle.synic_board.proofs.machine.Machine.clear_timers.Goals as goal

pub invariant_of-self : goal.invariant_of-self
invariant_of-self c =
    let b = c.self.inside in
    kept-timers b c.reset.new.self c.earliest.result c.write.new.self c.self.invariant
    (ap (λ (x : Bank). length x.timers) c.reset.ensures ∙ many-reset b.timers c.args.vp ∙ c.self.invariant.timers)
    c.earliest.ensures c.write.ensures
