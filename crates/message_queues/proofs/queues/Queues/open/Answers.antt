use Rattle.std.proofs.Common.{◌≡◌, ◌*◌, [], ℕ, ◌∙◌, ap, replicate, arith}
use Rattle.message_queues.specs.inside.Chains.{queues_at}
use Rattle.message_queues.specs.inside.Buffers.{buffer_at}
use Rattle.message_queues.proofs.Opening.{opened, opened-queues}
use Rattle.message_queues.proofs.queues.Queues.open.Goals as goal

pub invariant_of-result : goal.invariant_of-result
invariant_of-result c =
    let done : c.loop.counter ≡ 16 * c.args.processors = omega arith in
    let s = opened c.in_ok-neighbours.neighbours c.in_ok-messages.messages.items c.in_ok-in_use.in_use.items
    c.args.processors c.loop.counter
    (c.in_ok-in_use.ensures.items_if_clones_equal (λ y e. e)) done c.in_ok-neighbours.ensures.empty
    (rw (← c.most_ports-buffers.ensures.value) c.in_ok-neighbours.ensures.capacity)
    (c.in_ok-messages.ensures ∙ c.capacity.ensures.value) in
    let s' = rw (← c.loop.invariant.0) at s in
    record {
      linked = s'.linked;
      held = s'.held;
      both_ways = s'.both_ways;
      room = s'.room;
      size = s'.size;
      owned = s'.owned;
      counts = s'.counts;
      each = s'.each;
      processor_bound = c.requires.bound;
    }

pub returns : goal.returns
returns c =
    let done : c.loop.counter ≡ 16 * c.args.processors = omega arith in
    ap (queues_at (buffer_at c.in_ok-neighbours.neighbours c.in_ok-messages.messages.items)) c.loop.invariant.0 ∙
    opened-queues c.in_ok-neighbours.neighbours c.in_ok-messages.messages.items c.loop.counter
    ∙ ap (λ (n : ℕ). replicate n []) done
