-- Queued messages after an EOM (TLFS, "Message Delivery").
use Rattle.std.specs.Prelude.{◌≡◌, ◌⊎◌, ℕ, true, false, []}
use Rattle.message_queues.specs.Queues.{queue_of}
use Rattle.gpa_space.specs.Space.{is_pending}
use Rattle.synic_board.specs.State.{State, space_of}
use Rattle.synic_board.specs.Delivery.{is_slot_empty}

-- no message of the source is queued without MessagePending: its queue is empty, or its slot is occupied and has
-- MessagePending set
abbrev pub IsSeen : State → ℕ → ℕ → Type 0
IsSeen s p i = (queue_of s.queues p i ≡ []) ⊎ ((is_slot_empty s p i ≡ false) × (is_pending (space_of s) p i ≡ true))
