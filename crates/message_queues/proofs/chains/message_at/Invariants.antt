use Rattle.std.proofs.Common.{◌≡◌, Some}
use Rattle.message_queues.specs.inside.Buffers.{buffer_at}
use Rattle.message_queues.specs.inside.Chains.{key_at}
use Rattle.message_queues.proofs.chains.message_at.Given as goal

abbrev pub invariant-loop : goal.invariant-loop
invariant-loop l = key_at l.counter (buffer_at l.fn.neighbours l.fn.messages) l.fn.chain.first ≡ Some l.key
