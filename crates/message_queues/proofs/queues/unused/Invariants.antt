use Rattle.std.proofs.Common.{◌≡◌, length}
use Rattle.std.specs.Prelude.{vec_capacity}
use Rattle.message_queues.proofs.queues.unused.Given as goal

abbrev pub invariant-loop : goal.invariant-loop
invariant-loop l = (length l.messages.items ≡ l.counter) × (l.count ≡ vec_capacity l.messages)
