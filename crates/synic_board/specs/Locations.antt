-- Where the accepted messages are.
use Rattle.std.specs.Prelude.{◌≡◌, ◌≤◌, ℕ, ◌+◌, ◌==◌, ◌&&◌, nat_lt, nat_le, Bool, false, List, ◌++◌, map, count_by, if◌then◌else◌}
use Rattle.std.specs.List.{flat_map, filter_map}
use Rattle.board_terms.specs.Messages.{ticket_of}
use Rattle.board_terms.specs.declared.notices.Notice.{Notice}
use Rattle.board_terms.specs.declared.notices.Notice.TheVariants.{Consumed, Withdrawn}
use Rattle.synic_board.specs.State.{State}

-- the tickets in all queues and slots
unfoldable pub locations : State → List ℕ
locations s = flat_map (map ticket_of) s.queues ++ filter_map (λ ticket. ticket) s.slots

-- how often a ticket is in a list
abbrev pub times : ℕ → List ℕ → ℕ
times t tickets = count_by (λ x. x == t) tickets

-- the notice reports that the ticket's message was consumed or withdrawn
abbrev pub is_end_of : ℕ → Notice → Bool
is_end_of t (Consumed p i ticket) = ticket == t
is_end_of t (Withdrawn p i ticket) = ticket == t
is_end_of t _ = false

-- how often a ticket's message was consumed or withdrawn
abbrev pub times_ended : ℕ → List Notice → ℕ
times_ended t notices = count_by (is_end_of t) notices

-- 1 for a ticket that was given between two states
abbrev pub given : ℕ → State → State → ℕ
given t s now = if nat_le s.next_ticket t && nat_lt t now.next_ticket then 1 else 0

-- each accepted message is queued, in a slot, consumed or withdrawn, exactly once
abbrev pub Conserves : State → State → List Notice → Type 0
Conserves s now notices =
    (t : ℕ) → times t (locations now) + times_ended t notices ≡ times t (locations s) + given t s now

-- a ticket is in at most one place, and only given tickets are
pub record AreTickets (s : State) : Type 0 where
  pub once : (t : ℕ) → times t (locations s) ≤ 1
  pub given_before : (t : ℕ) → s.next_ticket ≤ t → times t (locations s) ≡ 0
