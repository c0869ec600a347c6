-- The progress of a run.
use Rattle.std.specs.Prelude.{◌≡◌, ◌≤◌, ℕ, List, take}
use Rattle.board_terms.specs.declared.notices.Notice.{Notice}
use Rattle.synic_board.specs.declared.event.Event.{Event}
use Rattle.synic_board.specs.declared.event.Reply.{Reply}
use Rattle.synic_board.specs.State.{State}
use Rattle.synic_board.specs.Locations.{Conserves}
use Rattle.synic_board.specs.Run.{run_of, with_earlier_notices}

-- the first i events were performed: the board, the replies and the notices are those of their run, which conserves
-- the messages
pub record HasPerformed (s : State) (es : List Event) (i : ℕ) (before : List Notice) (now : State)
    (replies : List Reply) (emitted : List Notice) : Type 0 where
  pub is : (now, replies, emitted) ≡ with_earlier_notices before (run_of s (take i es))
  pub conserves : Conserves s now (run_of s (take i es)).2
  pub tickets_monotone : s.next_ticket ≤ now.next_ticket
