use Rattle.std.proofs.Common.{arith, sym, ap, ◌∙◌}
use Rattle.event_ports.specs.Shapes.{fits}
use Rattle.live_board.proofs.Signalled.{flags-low}
use Rattle.live_board.proofs.signalling.flag_of.Goals as goal

pub overflow_add-result : goal.overflow_add-result
overflow_add-result c =
    let low = flags-low c.in-Flags.base c.in-Flags.count c.args.flag
    (sym (ap fits c.in-Flags.is) ∙ c.facts.ensures.buffers.shapes c.args.number c.args.port.now c.requires)
    c.if-flag-count.false in
    omega (arith, low)

pub returns-clause-range : goal.returns-clause-range
returns-clause-range c =
    flags-low c.in-Flags.base c.in-Flags.count c.args.flag
    (sym (ap fits c.in-Flags.is) ∙ c.facts.ensures.buffers.shapes c.args.number c.args.port.now c.requires)
    c.if-flag-count.false
