-- The slots that a store writes.
use Rattle.std.specs.Prelude.{◌≢◌, ℕ, ◌+◌, ◌-◌, ◌*◌, ◌/◌, ◌<◌, nat_lt, Option, None, Some, if◌then◌else◌}
use Rattle.board_terms.specs.declared.pages.Owner.{Owner}
use Rattle.board_terms.specs.declared.pages.Owner.TheVariants.{Sim}
use Rattle.synic_board.specs.State.{State}
use Rattle.synic_board.specs.Sound.{IsFree}

-- the slot whose type is among the bytes from an offset on: the last slot that they reach, if they begin no later
-- than its type
abbrev pub touched : ℕ → ℕ → Option ℕ
touched at count = if nat_lt at (256 * ((at + count - 1) / 256) + 4) then Some ((at + count - 1) / 256) else None

-- in a message page each slot except one is empty only if it holds no ticket
abbrev pub OthersFree : State → Owner → Option ℕ → Type 0
OthersFree s (Sim p) slot = (i : ℕ) → i < 16 → slot ≢ Some i → IsFree s p i
OthersFree s owner slot = Unit {0}
