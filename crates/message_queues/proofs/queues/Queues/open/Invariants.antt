use Rattle.std.proofs.Common.{◌≡◌, replicate}
use Rattle.std.specs.Prelude.{vec_capacity}
use Rattle.message_queues.proofs.Opening.{empty_chain}
use Rattle.message_queues.proofs.queues.Queues.open.Given as goal

abbrev pub invariant-loop : goal.invariant-loop
invariant-loop l = (l.chains.items ≡ replicate l.counter empty_chain) × (vec_capacity l.chains ≡ l.queues)
