-- Queues as doubly linked chains of buffers: each buffer has the keys of its neighbours, each queue the keys of its
-- ends.
use Rattle.std.specs.Prelude.{◌≡◌, ℕ, zero, suc, ◌≤◌, List, [], ◌∷◌, length, map, reverse, slice_get, Option, Some, None}
use Rattle.std.specs.Option.{option_and_then}
use Rattle.board_terms.specs.declared.messages.Message.{Message}
use Rattle.message_queues.specs.Queues.{Queues}
use Rattle.message_queues.specs.inside.Buffers.{Buffer}
use Rattle.message_queues.specs.declared.chains.Chain.{Chain}

abbrev pub Buffers : Type 0
Buffers = ℕ → Option Buffer

abbrev pub behind_of : Option Buffer → Option ℕ
behind_of None = None
behind_of (Some buffer) = buffer.behind

abbrev pub put_first : Option Buffer → List Message → List Message
put_first None messages = messages
put_first (Some buffer) messages = buffer.message ∷ messages

-- the messages of that many buffers, from a key on
abbrev pub messages : ℕ → Buffers → Option ℕ → List Message
messages zero buffers from = []
messages (suc n) buffers None = []
messages (suc n) buffers (Some key) = put_first (buffers key) (messages n buffers (behind_of (buffers key)))

-- the messages of a chain, front first
abbrev pub queue_at : Buffers → Chain → List Message
queue_at buffers chain = messages chain.len buffers chain.first

abbrev pub queues_at : Buffers → List Chain → Queues
queues_at buffers chains = map (queue_at buffers) chains

-- that many keys, from one on, following the links
abbrev pub keys_from : (Buffer → Option ℕ) → Buffers → ℕ → Option ℕ → List ℕ
keys_from next buffers zero from = []
keys_from next buffers (suc n) None = []
keys_from next buffers (suc n) (Some key) = key ∷ keys_from next buffers n (option_and_then next (buffers key))

-- the key that comes that many keys after another one
abbrev pub key_at : ℕ → Buffers → Option ℕ → Option ℕ
key_at zero buffers from = from
key_at (suc n) buffers from = option_and_then (λ key. behind_of (buffers key)) (key_at n buffers from)

-- from its end a chain has the same keys as from its front, in reverse
abbrev pub ReadsBothWays : Buffers → Chain → Type 0
ReadsBothWays buffers chain =
    keys_from (λ b. b.before) buffers chain.len chain.last
    ≡ reverse (keys_from (λ b. b.behind) buffers chain.len chain.first)

-- These keys follow one another from `from` on; `before` precedes the first of them, and `to` follows the last of
-- them, which is `last`. The back
-- link of each is the key that it follows, so from the end the keys are the same. They belong to the queue, and their
-- ranks increase from `low` on
-- and stay below `top`, so no key occurs twice.
abbrev pub Links : Buffers → (ℕ → ℕ) → (ℕ → ℕ) → ℕ → ℕ → Option ℕ → Option ℕ → List ℕ → Option ℕ → Option ℕ → ℕ → Type 0
Links buffers owner rank queue low before from [] to last top = (from ≡ to) × (last ≡ before) × (low ≤ top)
Links buffers owner rank queue low before from (key ∷ keys) to last top =
    (b : Buffer) × (from ≡ Some key) × (owner key ≡ queue) × (low ≤ rank key)
    × (buffers key ≡ Some b) × (b.before ≡ before)
    × Links buffers owner rank queue (suc (rank key)) (Some key) b.behind keys to last top

-- A chain: its keys are linked from its first to its last, nothing precedes the first or follows the last, and its
-- length is their number.
pub record IsChain (buffers : Buffers) (owner rank : ℕ → ℕ) (queue : ℕ) (chain : Chain) : Type 0 where
  pub keys : List ℕ
  pub top : ℕ
  pub links : Links buffers owner rank queue 0 None chain.first keys None chain.last top
  pub len : chain.len ≡ length keys

-- Each queue is a chain: each key belongs to one queue, and occurs in it once.
pub record AreChains (buffers : Buffers) (chains : List Chain) : Type 0 where
  pub owner : ℕ → ℕ
  pub rank : ℕ → ℕ
  pub each : (queue : ℕ) (chain : Chain) → slice_get chains queue ≡ Some chain → IsChain buffers owner rank queue chain
