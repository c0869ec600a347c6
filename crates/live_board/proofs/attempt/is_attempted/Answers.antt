use Rattle.std.proofs.Common.{rules, ◌≡◌, ◌≢◌, ◌<◌, true, arith, sym, ◌∙◌}
use Rattle.board_terms.specs.declared.messages.PortShape.TheVariants.{Messages}
use Rattle.message_queues.specs.Queues.{port_used}
use Rattle.synic_regs.specs.Regs.{has, enable}
use Rattle.synic_board.specs.State.{State, regs_of}
use Rattle.live_board.proofs.Counted.{all-here, attempted-is}
use Rattle.live_board.proofs.attempt.is_attempted.Goals as goal

pub returns : goal.returns
returns c =
    let s : State = c.args.board.now.state in
    let reached = c.facts.ensures.sound.whole.ports c.args.number c.args.port.now c.requires in
    let here = all-here s c.args.number c.args.port.now c.requires
    (omega (arith, reached.0, reached.1, c.facts.ensures.shape.queues)) reached.1 c.facts.ensures.buffers in
    let some : c.args.kind ≢ 0 = search rules in
    let low : c.args.kind < 0x80000000 = search rules in
    let control : has (regs_of s c.args.port.now.vp).control enable ≡ true = search rules in
    let sim : has (regs_of s c.args.port.now.vp).sim enable ≡ true = search rules in
    let shape : c.args.port.now.shape ≡ Messages c.in-Messages.buffers = search rules in
    let free : port_used s.queues c.args.number < c.in-Messages.buffers =
    omega (arith, here, c.count_queued.ensures, c.from.ensures, c.if-count_queued-from.false) in
    sym (attempted-is s c.args.number c.args.kind c.args.port.now c.in-Messages.buffers shape some low control sim
    free ∙ search rules)
