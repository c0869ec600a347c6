-- The order in which the messages of a source are accepted, and placed in its slot. Sources are compared by the
-- indices of their queues, which are distinct on a board.
use Rattle.std.specs.Prelude.{◌≡◌, ◌⊎◌, ℕ, ◌==◌, List, [], ◌∷◌, ◌++◌, map, Option, None, Some, if◌then◌else◌}
use Rattle.std.specs.List.{filter_map}
use Rattle.board_terms.specs.Messages.{ticket_of}
use Rattle.board_terms.specs.declared.notices.Notice.{Notice}
use Rattle.board_terms.specs.declared.notices.Notice.TheVariants.{Accepted, Placed}
use Rattle.board_terms.specs.Sources.{source_number}
use Rattle.message_queues.specs.Queues.{queue_of}
use Rattle.synic_board.specs.State.{State}

-- the ticket of a notice, if it is an Accepted of a source, or a Placed in its slot
abbrev pub accepted_ticket : ℕ → ℕ → Notice → Option ℕ
accepted_ticket p i (Accepted q j ticket) = if source_number q j == source_number p i then Some ticket else None
accepted_ticket p i notice = None

abbrev pub placed_ticket : ℕ → ℕ → Notice → Option ℕ
placed_ticket p i (Placed q j ticket) = if source_number q j == source_number p i then Some ticket else None
placed_ticket p i notice = None

-- the tickets of all such notices, in order
abbrev pub accepted_at : ℕ → ℕ → List Notice → List ℕ
accepted_at p i notices = filter_map (accepted_ticket p i) notices

abbrev pub placed_at : ℕ → ℕ → List Notice → List ℕ
placed_at p i notices = filter_map (placed_ticket p i) notices

-- the tickets in the queue of a source, front first
abbrev pub queued_at : State → ℕ → ℕ → List ℕ
queued_at s p i = map ticket_of (queue_of s.queues p i)

-- the first list is a subsequence of the second
abbrev pub IsSubsequence : List ℕ → List ℕ → Type 0
IsSubsequence [] ys = Unit {0}
IsSubsequence (x ∷ xs) [] = ⊥
IsSubsequence (x ∷ xs) (y ∷ ys) = ((x ≡ y) × IsSubsequence xs ys) ⊎ IsSubsequence (x ∷ xs) ys

-- the tickets placed in the slot of a source, and then those queued, are a subsequence of the tickets queued at first
-- and then those accepted
abbrev pub KeepsOrder : ℕ → ℕ → State → State → List Notice → Type 0
KeepsOrder p i s now emitted =
    IsSubsequence (placed_at p i emitted ++ queued_at now p i) (queued_at s p i ++ accepted_at p i emitted)
