use Rattle.std.proofs.Common.{◌<◌, ap, ◌∙◌, sym, arith}
use Rattle.message_queues.specs.Queues.{Queues, most_ports, port_used}
use Rattle.message_queues.specs.inside.View.{queues_of}
use Rattle.message_queues.specs.inside.Owners.{owners}
use Rattle.message_queues.proofs.Counts.{port_used-owner, share-le}
use Rattle.message_queues.proofs.Steps.{used-at}
use Rattle.message_queues.proofs.queues.Queues.port_used.Goals as goal

pub returns-clause-value : goal.returns-clause-value
returns-clause-value c =
    let below : c.args.port < owners c.self.inside.processors = omega (arith, c.ranges.port.fits) in
    used-at c.self.inside c.args.port c.index.result.now c.self.invariant below c.index.ensures
    ∙ c.self.invariant.counts.counted c.args.port below
    ∙ sym (port_used-owner (queues_of c.self.inside) c.args.port c.ranges.port.fits)
    ∙ ap (λ (x : Queues). port_used x c.args.port) c.self.view_is

pub returns-clause-bound : goal.returns-clause-bound
returns-clause-bound c =
    let below : c.args.port < owners c.self.inside.processors = omega (arith, c.ranges.port.fits) in
    omega (
      arith,
      used-at c.self.inside c.args.port c.index.result.now c.self.invariant below c.index.ensures,
      c.self.invariant.counts.counted c.args.port below,
      c.self.invariant.counts.within c.args.port below,
      share-le (most_ports c.self.inside.processors) c.args.port,
    )
