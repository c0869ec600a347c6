-- Buffers, by their parts: the keys of a buffer's neighbours are in a slab, and its message is in a list at the same
-- key.
use Rattle.std.specs.Prelude.{ℕ, List, slice_index_or, Option}
use Rattle.std.specs.Option.{option_map}
use Rattle.slab.specs.Slab.{Slab, get}
use Rattle.board_terms.specs.declared.messages.Message.{Message}
use Rattle.board_terms.specs.declared.messages.Message.TheVariants.{FromTimer}
use Rattle.message_queues.specs.declared.chains.Neighbours.{Neighbours}

pub record Buffer : Type 0 where
  pub message : Message
  pub before : Option ℕ
  pub behind : Option ℕ

-- a buffer that was never used has this message
abbrev pub no_message : Message
no_message = FromTimer 0 (0, 0) 0

-- the message at a key
abbrev pub message_in : List Message → ℕ → Message
message_in messages key = slice_index_or messages key no_message

abbrev pub buffer_of : Message → Neighbours → Buffer
buffer_of message n = record { message = message; before = n.before; behind = n.behind }

-- the buffer at a key, if the key is in use
abbrev pub buffer_at : Slab Neighbours → List Message → ℕ → Option Buffer
buffer_at neighbours messages key = option_map (buffer_of (message_in messages key)) (get neighbours key)
