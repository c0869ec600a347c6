-- The invariant of the timers: each processor on the board has four (TLFS, "Synthetic Timers"), and they are
-- suspended with its local APIC (TLFS,
-- HvRegisterExplicitSuspend).
use Rattle.std.specs.Prelude.{◌≡◌, ◌≤◌, ◌*◌, ℕ, length}
use Rattle.stimer_bank.specs.Bank.{is_suspended as are_timers_suspended}
use Rattle.synic_board.specs.State.{State, processors, bank_of}
use Rattle.synic_board.specs.Suspending.{is_suspended}

-- the timers of each processor are suspended iff its local APIC is; those of a processor that is not on the board are
-- not
abbrev pub HasOneSuspension : State → Type 0
HasOneSuspension s = (p : ℕ) → are_timers_suspended (bank_of s) p ≡ is_suspended s p

pub record HasPairedTimers (s : State) : Type 0 where
  -- at most 64 processors are on the board, each with four timers and a mark of them
  pub bound : processors s ≤ 64
  pub timers : length s.timers ≡ 4 * processors s
  pub marks : length s.suspended ≡ processors s
  pub suspended : HasOneSuspension s
