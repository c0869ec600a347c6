-- What every call that performs an event promises.
use Rattle.std.specs.Prelude.{◌≡◌, ◌≤◌, ◌+◌, List, length}
use Rattle.board_terms.specs.declared.notices.Notice.{Notice}
use Rattle.synic_board.specs.declared.event.Event.{Event}
use Rattle.synic_board.specs.declared.event.Reply.{Reply}
use Rattle.synic_board.specs.State.{BoardModel}
use Rattle.synic_board.specs.Bounds.{most_notices}
use Rattle.synic_board.specs.Locations.{Conserves}
use Rattle.synic_board.specs.Step.{step}

-- A board performs an event: what it is then, its reply, and its notices.
pub record Performs (old : BoardModel) (event : Event) (now : BoardModel) (reply : Reply)
    (notices : List Notice) : Type 0 where
  -- the outcome is that of the reference model
  pub step : (now.state, reply, notices) ≡ step old.state event
  -- each accepted message is queued, in a slot, consumed or withdrawn, exactly once
  pub conserves : Conserves old.state now.state notices
  -- no ticket is given twice
  pub tickets_monotone : old.state.next_ticket ≤ now.state.next_ticket
  -- the summary is written at most eight times, and once more for each notice
  pub writes_monotone : old.writes ≤ now.writes
  pub writes_bound : now.writes ≤ old.writes + (8 + length notices)
  pub notices_bound : length notices ≤ most_notices event
