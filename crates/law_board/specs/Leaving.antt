-- What a guest store leaves unchanged.
use Rattle.std.specs.Prelude.{◌≡◌, ◌≢◌, ◌⊎◌, ℕ, [], None, Some, slice_index_or}
use Rattle.gpa_space.specs.Space.{visible}
use Rattle.synic_board.specs.State.{State, space_of}
use Rattle.synic_board.specs.Summaries.{summary_of}

-- everything in a summary (the next vectors, the auto-EOI vectors, the owners of pages, the lengths of the queues,
-- the earliest timer), and the next ticket
pub record LeavesSummary (s now : State) : Type 0 where
  pub summary : summary_of now ≡ summary_of s
  pub ticket : now.next_ticket ≡ s.next_ticket

-- each page except the one that a guest sees at a page number
pub record LeavesHidden (s now : State) (page : ℕ) : Type 0 where
  pub overlays : (k : ℕ) → visible (space_of s) page ≢ Some k → slice_index_or now.own k [] ≡ slice_index_or s.own k []
  pub guest : (other : ℕ) → (other ≢ page) ⊎ (visible (space_of s) page ≢ None)
      → slice_index_or now.pages other [] ≡ slice_index_or s.pages other []
