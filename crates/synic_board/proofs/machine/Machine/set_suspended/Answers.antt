use Rattle.std.proofs.Common.{◌*◌, sym, ap, ◌∙◌, length, length-set}
use Rattle.stimer_bank.specs.Bank.{Bank}
use Rattle.synic_board.proofs.Restored.{kept-lapic, kept-timers}
use Rattle.synic_board.proofs.machine.Machine.set_suspended.Goals as goal

pub invariant_of-self : goal.invariant_of-self
invariant_of-self c =
    let b = c.self.inside in
    let first = kept-lapic b c.number.result c.args.vp c.mark_lapic.new.lapic c.next-next.result c.write.new.self
    c.self.invariant c.number.ensures.value c.next-next.ensures c.write.ensures in
    kept-timers _ c.mark_timers.new.timers c.earliest.result c.write-2.new.self first
    (ap (λ (x : Bank). length x.timers) c.mark_timers.ensures ∙ c.self.invariant.timers
    ∙ ap (λ m. 4 * m) (sym (length-set b.lapics.items c.number.result c.mark_lapic.new.lapic)))
    c.earliest.ensures c.write-2.ensures
