use Rattle.std.proofs.Common.{◌≡◌, ◌<◌, ◌+◌, ◌*◌, [], ℕ, sym, ap, ◌∙◌, length, arith}
use Rattle.std.specs.Prelude.{slice_index_or, slice_set}
use Rattle.message_queues.specs.Queues.{port_used, left_of, withdrawn_of}
use Rattle.message_queues.proofs.Steps.{used-at, here, unused, found, withdrawn-step}
use Rattle.message_queues.proofs.queues.Queues.withdraw_port.Goals as goal

pub returns-then-port_used-eq0-clause-tickets : goal.returns-then-port_used-eq0-clause-tickets
returns-then-port_used-eq0-clause-tickets c =
    let none : port_used c.args.self.now c.args.port ≡ 0 = sym c.port_used.ensures.value ∙ c.if-port_used-eq0.true in
    c.new.ensures ∙ sym (unused c.args.self.now (16 * c.args.vp + c.args.sint) c.args.port c.requires none).0

pub returns-then-port_used-eq0-clause-rest : goal.returns-then-port_used-eq0-clause-rest
returns-then-port_used-eq0-clause-rest c =
    let none : port_used c.args.self.now c.args.port ≡ 0 = sym c.port_used.ensures.value ∙ c.if-port_used-eq0.true in
    sym (unused c.args.self.now (16 * c.args.vp + c.args.sint) c.args.port c.requires none).1

pub withdraw-tickets-requires-clause-linked : goal.withdraw-tickets-requires-clause-linked
withdraw-tickets-requires-clause-linked c =
    let within : c.source_number.result < length c.args.self.now =
    omega (arith, c.source_number.ensures.value, c.requires) in
    let h = here c.self.inside c.args.self.now c.source_number.result c.index_mut-chain.result.now c.self.invariant
    c.self.view_is within c.index_mut-chain.ensures.value in
    let k = c.self.invariant.linked in
    rw c.as_slice-messages.ensures.value
    (k.owner, k.rank, c.source_number.result, k.each c.source_number.result c.index_mut-chain.result.now h.at)

pub withdraw-tickets-requires-clause-bound : goal.withdraw-tickets-requires-clause-bound
withdraw-tickets-requires-clause-bound c =
    let within : c.source_number.result < length c.args.self.now =
    omega (arith, c.source_number.ensures.value, c.requires) in
    let below = c.ranges.port.fits in
    let f = found c.self.inside c.args.self.now c.source_number.result c.index_mut-chain.result.now c.args.port
    c.self.invariant c.self.view_is within c.index_mut-chain.ensures.value below in
    rw c.as_slice-messages.ensures.value (omega (arith, f.bound, f.in_use))

pub index_mut-requires : goal.index_mut-requires
index_mut-requires c =
    let below = c.ranges.port.fits in
    omega (arith, below, c.self.invariant.counts.size)

pub overflow_sub-index_mut : goal.overflow_sub-index_mut
overflow_sub-index_mut c =
    let within : c.source_number.result < length c.args.self.now =
    omega (arith, c.source_number.ensures.value, c.requires) in
    let below = c.ranges.port.fits in
    let h = here c.self.inside c.args.self.now c.source_number.result c.index_mut-chain.result.now c.self.invariant
    c.self.view_is within c.index_mut-chain.ensures.value in
    let k = c.self.invariant.linked in
    let withdrawn = rw c.as_slice-messages.ensures.value at c.withdraw-tickets.ensures.withdrawn in
    let w = withdrawn k.owner k.rank c.source_number.result
    (k.each c.source_number.result c.index_mut-chain.result.now h.at) in
    let f = found c.self.inside c.args.self.now c.source_number.result c.index_mut-chain.result.now c.args.port
    c.self.invariant c.self.view_is within c.index_mut-chain.ensures.value below in
    let used = used-at c.self.inside c.args.port c.index_mut.result.now c.self.invariant
    (omega arith) c.index_mut.ensures.value in
    omega (arith, f.bound, c.len.ensures.value, ap length w.tickets_are, used)

pub invariant_of-self : goal.invariant_of-self
invariant_of-self c =
    let within : c.source_number.result < length c.args.self.now =
    omega (arith, c.source_number.ensures.value, c.requires) in
    let below = c.ranges.port.fits in
    let h = here c.self.inside c.args.self.now c.source_number.result c.index_mut-chain.result.now c.self.invariant
    c.self.view_is within c.index_mut-chain.ensures.value in
    let k = c.self.invariant.linked in
    let withdrawn = rw c.as_slice-messages.ensures.value at c.withdraw-tickets.ensures.withdrawn in
    let w = withdrawn k.owner k.rank c.source_number.result
    (k.each c.source_number.result c.index_mut-chain.result.now h.at) in
    let used = used-at c.self.inside c.args.port c.index_mut.result.now c.self.invariant
    (omega (arith, below)) c.index_mut.ensures.value in
    let s = withdrawn-step c.self.inside c.args.self.now c.source_number.result c.index_mut-chain.result.now
    c.withdraw-tickets.new.chain c.args.port c.index_mut.result.now c.len.result
    c.withdraw-tickets.result.items c.withdraw-tickets.new.neighbours c.self.invariant c.self.view_is within
    c.index_mut-chain.ensures.value below w
    c.withdraw-tickets.ensures.len c.withdraw-tickets.ensures.capacity used c.len.ensures.value in
    record {
      linked = s.linked;
      held = s.held;
      both_ways = s.both_ways;
      room = s.room;
      size = s.size;
      owned = s.owned;
      counts = s.counts;
      each = s.each;
      processor_bound = c.self.invariant.processor_bound;
    }

pub returns-clause-tickets : goal.returns-clause-tickets
returns-clause-tickets c =
    let within : c.source_number.result < length c.args.self.now =
    omega (arith, c.source_number.ensures.value, c.requires) in
    let h = here c.self.inside c.args.self.now c.source_number.result c.index_mut-chain.result.now c.self.invariant
    c.self.view_is within c.index_mut-chain.ensures.value in
    let k = c.self.invariant.linked in
    let withdrawn = rw c.as_slice-messages.ensures.value at c.withdraw-tickets.ensures.withdrawn in
    let w = withdrawn k.owner k.rank c.source_number.result
    (k.each c.source_number.result c.index_mut-chain.result.now h.at) in
    w.tickets_are ∙ ap (withdrawn_of c.args.port) (sym h.shown_row)
    ∙ ap (λ (k : ℕ). withdrawn_of c.args.port (slice_index_or c.args.self.now k [])) c.source_number.ensures.value

pub returns-clause-rest : goal.returns-clause-rest
returns-clause-rest c =
    let within : c.source_number.result < length c.args.self.now =
    omega (arith, c.source_number.ensures.value, c.requires) in
    let below = c.ranges.port.fits in
    let h = here c.self.inside c.args.self.now c.source_number.result c.index_mut-chain.result.now c.self.invariant
    c.self.view_is within c.index_mut-chain.ensures.value in
    let k = c.self.invariant.linked in
    let withdrawn = rw c.as_slice-messages.ensures.value at c.withdraw-tickets.ensures.withdrawn in
    let w = withdrawn k.owner k.rank c.source_number.result
    (k.each c.source_number.result c.index_mut-chain.result.now h.at) in
    let used = used-at c.self.inside c.args.port c.index_mut.result.now c.self.invariant
    (omega (arith, below)) c.index_mut.ensures.value in
    let s = withdrawn-step c.self.inside c.args.self.now c.source_number.result c.index_mut-chain.result.now
    c.withdraw-tickets.new.chain c.args.port c.index_mut.result.now c.len.result
    c.withdraw-tickets.result.items c.withdraw-tickets.new.neighbours c.self.invariant c.self.view_is within
    c.index_mut-chain.ensures.value below w
    c.withdraw-tickets.ensures.len c.withdraw-tickets.ensures.capacity used c.len.ensures.value in
    s.view_is ∙ ap (λ (k : ℕ). slice_set c.args.self.now k
    (left_of c.args.port (slice_index_or c.args.self.now k []))) c.source_number.ensures.value

pub withdraw-tickets-requires-clause-size : goal.withdraw-tickets-requires-clause-size
withdraw-tickets-requires-clause-size c = ap length c.as_slice-messages.ensures.value ∙ c.self.invariant.size
