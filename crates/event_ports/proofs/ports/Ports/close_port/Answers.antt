use Rattle.std.proofs.Common.{◌-◌, ℕ, ap, ◌∙◌, arith}
use Rattle.event_ports.proofs.Closing.{found, has-buffers, closed}
use Rattle.event_ports.proofs.ports.Ports.close_port.Goals as goal

pub overflow_sub-index_mut : goal.overflow_sub-index_mut
overflow_sub-index_mut c =
    let o = found c.self.inside _ c.args.port c.from.result c.index_mut.result.now c.in_ok-closed.closed
    c.self.view_is c.in_ok-closed.ensures.answer c.in_ok-closed.ensures.known
    (c.from.ensures ∙ c.number.ensures.value) c.index_mut.ensures.value in
    omega (
      arith,
      has-buffers c.self.inside c.args.port c.from.result c.index_mut.result.now c.in_ok-closed.closed
          c.self.invariant o,
      c.buffers_of.ensures,
    )

pub invariant_of-self : goal.invariant_of-self
invariant_of-self c =
    let o = found c.self.inside _ c.args.port c.from.result c.index_mut.result.now c.in_ok-closed.closed
    c.self.view_is c.in_ok-closed.ensures.answer c.in_ok-closed.ensures.known
    (c.from.ensures ∙ c.number.ensures.value) c.index_mut.ensures.value in
    closed c.self.inside c.args.port c.from.result c.index_mut.result.now
    (c.index_mut.result.now - c.buffers_of.result) c.in_ok-closed.closed c.self.invariant o
    (ap (λ (k : ℕ). c.index_mut.result.now - k) c.buffers_of.ensures)
