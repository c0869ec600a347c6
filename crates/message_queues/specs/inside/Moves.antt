-- What linking a buffer and unlinking it do to the buffers.
use Rattle.std.specs.Prelude.{◌≡◌, ◌≢◌, ℕ, ◌+◌, List, length, Option, Some, None}
use Rattle.std.specs.Option.{option_map}
use Rattle.board_terms.specs.declared.messages.Message.{Message}
use Rattle.message_queues.specs.Queues.{withdrawn_of, left_of}
use Rattle.message_queues.specs.inside.Chains.{Buffers, queue_at, IsChain}
use Rattle.message_queues.specs.inside.Buffers.{Buffer}
use Rattle.message_queues.specs.declared.chains.Neighbours.{Neighbours}
use Rattle.message_queues.specs.declared.chains.Chain.{Chain}

-- a buffer with another successor, and with another predecessor
abbrev pub with_behind : Option ℕ → Buffer → Buffer
with_behind key b = record b { behind = key }

abbrev pub with_before : Option ℕ → Buffer → Buffer
with_before key b = record b { before = key }

-- the neighbours of each key in use
abbrev pub Neighbourhoods : Type 0
Neighbourhoods = ℕ → Option Neighbours

-- neighbours with another successor, and with another predecessor
abbrev pub followed_by : Option ℕ → Neighbours → Neighbours
followed_by key n = record n { behind = key }

abbrev pub preceded_by : Option ℕ → Neighbours → Neighbours
preceded_by key n = record n { before = key }

-- the neighbours of a key, if it is in use, are changed by `change`, and no others are changed
pub record Sets (old new : Neighbourhoods) (at : Option ℕ) (change : Neighbours → Neighbours) : Type 0 where
  pub here : (k : ℕ) → at ≡ Some k → new k ≡ option_map change (old k)
  pub others : (k : ℕ) → at ≢ Some k → new k ≡ old k

-- the neighbour to use: if the first is none, the second, else the third
abbrev pub if_none : Option ℕ → Option ℕ → Option ℕ → Option ℕ
if_none None it else_it = it
if_none (Some k) it else_it = else_it

-- A key that was free follows the last one of the chain, and of the other neighbours only those of the last one
-- changed.
pub record Linked (old new : Neighbourhoods) (c d : Chain) (key : ℕ) : Type 0 where
  pub free : old key ≡ None
  pub here : c.last ≢ Some key → new key ≡ Some (record { before = c.last; behind = None })
  pub end : (k : ℕ) → c.last ≡ Some k → k ≢ key → new k ≡ option_map (followed_by (Some key)) (old k)
  pub others : (k : ℕ) → c.last ≢ Some k → k ≢ key → new k ≡ old k
  pub first : d.first ≡ if_none c.last (Some key) c.first
  pub last : d.last ≡ Some key
  pub len : d.len ≡ c.len + 1

-- The key is free, and its neighbours n are linked to each other.
pub record Freed (old new : Neighbourhoods) (c d : Chain) (key : ℕ) (n : Neighbours) : Type 0 where
  pub was : old key ≡ Some n
  pub left : (k : ℕ) → k ≢ key → n.before ≡ Some k → n.behind ≢ Some k
      → new k ≡ option_map (followed_by n.behind) (old k)
  pub right : (k : ℕ) → k ≢ key → n.before ≢ Some k → n.behind ≡ Some k
      → new k ≡ option_map (preceded_by n.before) (old k)
  pub others : (k : ℕ) → k ≢ key → n.before ≢ Some k → n.behind ≢ Some k → new k ≡ old k
  pub first : d.first ≡ if_none n.before n.behind c.first
  pub last : d.last ≡ if_none n.behind n.before c.last
  pub len : d.len + 1 ≡ c.len

-- The message is at a key that was free, and of the other buffers only the chain's last one changed.
pub record Pushed (old new : Buffers) (c d : Chain) (message : Message) (key : ℕ) : Type 0 where
  pub free : old key ≡ None
  pub here : c.last ≢ Some key → new key ≡ Some (record { message = message; before = c.last; behind = None })
  pub end : (k : ℕ) → c.last ≡ Some k → k ≢ key → new k ≡ option_map (with_behind (Some key)) (old k)
  pub others : (k : ℕ) → c.last ≢ Some k → k ≢ key → new k ≡ old k
  pub first : d.first ≡ if_none c.last (Some key) c.first
  pub last : d.last ≡ Some key
  pub len : d.len ≡ c.len + 1

-- The buffer b at the key is removed, and its neighbours are linked to each other.
pub record Unlinked (old new : Buffers) (c d : Chain) (key : ℕ) (b : Buffer) (message : Message) : Type 0 where
  pub was : old key ≡ Some b
  pub message_is : message ≡ b.message
  pub left : (k : ℕ) → k ≢ key → b.before ≡ Some k → b.behind ≢ Some k
      → new k ≡ option_map (with_behind b.behind) (old k)
  pub right : (k : ℕ) → k ≢ key → b.before ≢ Some k → b.behind ≡ Some k
      → new k ≡ option_map (with_before b.before) (old k)
  pub others : (k : ℕ) → k ≢ key → b.before ≢ Some k → b.behind ≢ Some k → new k ≡ old k
  pub first : d.first ≡ if_none b.before b.behind c.first
  pub last : d.last ≡ if_none b.behind b.before c.last
  pub len : d.len + 1 ≡ c.len

-- The port's messages were removed from the chain of a queue, and no buffer of another queue changed.
pub record Withdrawn (old new : Buffers) (owner rank : ℕ → ℕ) (queue : ℕ) (c d : Chain) (port : ℕ)
    (tickets : List ℕ) : Type 0 where
  pub after : IsChain new owner rank queue d
  pub stay : queue_at new d ≡ left_of port (queue_at old c)
  pub tickets_are : tickets ≡ withdrawn_of port (queue_at old c)
  pub len : d.len + length tickets ≡ c.len
  pub others : (k : ℕ) → owner k ≢ queue → new k ≡ old k
