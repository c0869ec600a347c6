-- The owners of the buffers (profile): each port has 16, and each timer of a processor that has queues has one.
use Rattle.std.specs.Prelude.{◌≡◌, ℕ, ◌+◌, ◌*◌, ◌<◌, ◌≤◌, nat_lt, ◌==◌, List, length, sum_by, count_by, slice_index_or, if◌then◌else◌}
use Rattle.board_terms.specs.declared.messages.Message.{Message}
use Rattle.board_terms.specs.declared.messages.Message.TheVariants.{FromPort, FromTimer}
use Rattle.message_queues.specs.Queues.{Queues, most_ports}

-- the timers follow the numbers that a port can have
abbrev pub owner_of_timer : ℕ × ℕ → ℕ
owner_of_timer timer = 256 + (4 * timer.0 + timer.1)

abbrev pub owner_of : Message → ℕ
owner_of (FromPort ticket port kind payload) = port
owner_of (FromTimer ticket timer expiration) = owner_of_timer timer

-- how many numbers of owners there are with that many processors
abbrev pub owners : ℕ → ℕ
owners processors = 256 + 4 * processors

-- the message has an owner
abbrev pub HasOwner : ℕ → Message → Type 0
HasOwner processors (FromPort ticket port kind payload) = port < most_ports processors
HasOwner processors (FromTimer ticket timer expiration) = (timer.0 < processors) × (timer.1 < 4)

-- how many buffers an owner has in use
abbrev pub used_by : ℕ → Queues → ℕ
used_by o qs = sum_by (count_by (λ m. owner_of m == o)) qs

-- how many buffers it has in all, if there are that many ports
abbrev pub share : ℕ → ℕ → ℕ
share ports o = if nat_lt o ports then 16 else if nat_lt o 256 then 0 else 1

-- the counts are those of the queues, and no owner exceeds its share
pub record IsCounted (processors : ℕ) (qs : Queues) (in_use : List ℕ) : Type 0 where
  pub size : length in_use ≡ owners processors
  pub counted : (o : ℕ) → o < owners processors → slice_index_or in_use o 0 ≡ used_by o qs
  pub within : (o : ℕ) → o < owners processors → used_by o qs ≤ share (most_ports processors) o
