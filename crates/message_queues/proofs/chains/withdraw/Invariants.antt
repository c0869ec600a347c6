use Rattle.std.proofs.Common.{◌≡◌, ℕ, ◌+◌, length}
use Rattle.slab.specs.Slab.{slab_len}
use Rattle.message_queues.specs.inside.Buffers.{buffer_at}
use Rattle.message_queues.specs.inside.Chains.{IsChain}
use Rattle.message_queues.proofs.Walks.{Walk}
use Rattle.message_queues.proofs.chains.withdraw.Given as goal

abbrev pub invariant-loop : goal.invariant-loop
invariant-loop l =
    (l.neighbours.capacity ≡ l.fn.neighbours.capacity)
    × (slab_len l.neighbours + length l.tickets.items ≡ slab_len l.fn.neighbours)
    × ((owner rank : ℕ → ℕ) (queue : ℕ)
    → IsChain (buffer_at l.fn.neighbours l.fn.messages) owner rank queue l.fn.chain →
    Walk (buffer_at l.fn.neighbours l.fn.messages)
    (buffer_at l.neighbours l.fn.messages) owner rank queue l.fn.chain l.chain l.port l.next l.counter
    l.tickets.items)
