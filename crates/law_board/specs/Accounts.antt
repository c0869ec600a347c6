-- Where the accepted messages are after a run.
use Rattle.std.specs.Prelude.{◌≡◌, ◌≤◌, ℕ, ◌+◌}
use Rattle.synic_board.specs.State.{State}
use Rattle.synic_board.specs.Run.{Run}
use Rattle.synic_board.specs.Locations.{locations, times, times_ended, given}

-- each ticket that was given since s is in one queue or slot at the end, or ended once, and no other ticket is or did
pub record Accounts (s : State) (r : Run) : Type 0 where
  pub once : (t : ℕ) → times t (locations r.0) ≤ 1
  pub account : (t : ℕ) → times t (locations r.0) + times_ended t r.2 ≡ given t s r.0
