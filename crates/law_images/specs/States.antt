-- What an image needs of a state.
use Rattle.std.specs.Prelude.{ℕ, length, slice_index_or}
use Rattle.stimer_bank.specs.Timer.{IsSoundTimer}
use Rattle.stimer_bank.specs.Bank.{idle_timer}
use Rattle.synic_board.specs.State.{State, IsWithinLimits, processors}
use Rattle.synic_board.specs.Sound.{IsSound, HasShape}
use Rattle.synic_board.specs.Buffers.{HasBuffers}
use Rattle.synic_board.specs.Paired.{HasPairedTimers}
use Rattle.synic_board.specs.Ranges.{HasRanges}

-- what `Board::facts` ensures of the state of every board
pub record IsBoardState (s : State) : Type 0 where
  pub sizes : IsWithinLimits (processors s) (length s.pages)
  pub sound : IsSound s
  pub buffers : HasBuffers s
  pub settled : HasPairedTimers s
  pub shape : HasShape s
  pub timers : (n : ℕ) → IsSoundTimer (slice_index_or s.timers n idle_timer)
  pub ranges : HasRanges s
