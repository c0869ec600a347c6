use Rattle.std.proofs.Common.{◌≡◌, ◌<◌, ap, ◌∙◌, arith, length, get_or}
use Rattle.synic_regs.specs.Regs.{Regs, reset_regs}
use Rattle.synic_board.specs.State.{BoardModel, processors, regs_of}
use Rattle.synic_board.proofs.Restored.{kept-registers}
use Rattle.synic_board.proofs.machine.Machine.clear_registers.Goals as goal

pub invariant_of-self : goal.invariant_of-self
invariant_of-self c =
    let b = c.self.inside in
    let on = ap (λ (h : BoardModel). processors h.state) c.self.view_is in
    let within : c.number.result < length b.regs.items =
    omega (arith, c.self.invariant.registers, on, c.requires.on, c.number.ensures.value) in
    let here : get_or b.regs.items c.number.result reset_regs ≡ regs_of c.args.self.now.state c.args.vp =
    ap (λ n. get_or b.regs.items n reset_regs) c.number.ensures.value
    ∙ ap (λ (h : BoardModel). regs_of h.state c.args.vp) c.self.view_is in
    kept-registers b c.number.result c.args.vp c.new.result c.new-2.result c.write.new.self c.self.invariant within
    c.number.ensures.value c.new.ensures
    (ap (λ (r : Regs). r.sim) here ∙ c.requires.sim)
    (ap (λ (r : Regs). r.sief) here ∙ c.requires.sief) c.new-2.ensures c.write.ensures
