use Rattle.std.proofs.Common.{◌≡◌, ap, length, nat_eq, arith}
use Rattle.message_queues.specs.Queues.{processors_of, most_ports}
use Rattle.synic_board.specs.State.{BoardModel}
use Rattle.synic_board.proofs.keeping.Opened.{at-most}
use Rattle.synic_board.proofs.machine.Machine.try_post.Goals as goal

pub deliver_post-requires-clause-buffer : goal.deliver_post-requires-clause-buffer
deliver_post-requires-clause-buffer c =
    let b = c.self.inside in
    let n = length b.lapics.items in
    let shown = ap (λ (h : BoardModel). length h.state.queues) c.self.view_is in
    let all : processors_of c.args.self.now.state.queues ≡ n = omega (arith, shown, c.self.invariant.queues) in (
      omega (
        arith,
        c.in-Ok.ensures.known,
        c.self.invariant.port_count,
        at-most n (nat_eq b.page_count 0),
        ap most_ports all,
      ),
      c.in_default.ensures.buffer,
    )
