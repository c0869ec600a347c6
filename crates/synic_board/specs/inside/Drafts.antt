-- The invariant of a draft.
use Rattle.std.specs.Prelude.{◌≡◌, ℕ, List}
use Rattle.synic_board.specs.State.{State}
use Rattle.synic_board.specs.Locations.{times, locations}
use Rattle.synic_board.specs.Sound.{IsSound}
use Rattle.synic_board.specs.Buffers.{HasBuffers}
use Rattle.synic_board.specs.Paired.{HasPairedTimers}

pub record IsDraft (s : State) (tickets : List ℕ) : Type 0 where
  pub sound : IsSound s
  pub buffers : HasBuffers s
  pub settled : HasPairedTimers s
  -- the list has the tickets of the queues and slots, each as often
  pub listed : (t : ℕ) → times t tickets ≡ times t (locations s)
