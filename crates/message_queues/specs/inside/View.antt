-- The abstract view of the fields, and their invariant.
use Rattle.std.specs.Prelude.{◌≡◌, ℕ, ◌+◌, ◌*◌, ◌≤◌, List, length, slice_get, sum_by, Some}
use Rattle.std.specs.List.{All}
use Rattle.slab.specs.Slab.{slab_len}
use Rattle.board_terms.specs.declared.messages.Message.{Message}
use Rattle.message_queues.specs.declared.chains.Chain.{Chain}
use Rattle.message_queues.specs.declared.queues.Queues.TheInside.{Inside}
use Rattle.message_queues.specs.Queues.{Queues, most_ports}
use Rattle.message_queues.specs.inside.Owners.{HasOwner, IsCounted}
use Rattle.message_queues.specs.inside.Buffers.{buffer_at}
use Rattle.message_queues.specs.inside.Chains.{Buffers, queues_at, ReadsBothWays, AreChains}

-- the buffers in use
abbrev pub buffers_of : Inside → Buffers
buffers_of a = buffer_at a.neighbours a.messages.items

abbrev pub queues_of : Inside → Queues
queues_of a = queues_at (buffers_of a) a.chains.items

-- how many buffers all chains have
abbrev pub total_of : List Chain → ℕ
total_of chains = sum_by (λ (c : Chain). c.len) chains

-- No key occurs in two chains or twice in one, and there are as many buffers as keys in the chains. So each key of
-- the slab occurs in exactly one
-- chain, once. There is capacity for the shares of all owners, and a message for each key. Each processor has 16
-- chains.
pub record QueuesInvariant (a : Inside) : Type 0 where
  pub linked : AreChains (buffers_of a) a.chains.items
  pub held : slab_len a.neighbours ≡ total_of a.chains.items
  pub both_ways : (queue : ℕ) (chain : Chain) → slice_get a.chains.items queue ≡ Some chain
      → ReadsBothWays (buffers_of a) chain
  pub room : 16 * most_ports a.processors + 4 * a.processors ≤ a.neighbours.capacity
  pub size : length a.messages.items ≡ a.neighbours.capacity
  pub owned : All (λ (queue : List Message). All (HasOwner a.processors) queue) (queues_of a)
  pub counts : IsCounted a.processors (queues_of a) a.in_use.items
  pub each : length a.chains.items ≡ 16 * a.processors
  pub processor_bound : a.processors ≤ 64
