-- Suspending and resuming processors (TLFS, HvRegisterExplicitSuspend; what a suspended processor still does is a
-- choice of this profile).
use Rattle.std.specs.Prelude.{Bool, true, false, if◌then◌else◌}
use Rattle.board_terms.specs.Quantities.{Processor}
use Rattle.board_terms.specs.declared.refusal.Refusal.TheVariants.{AlreadySuspended, NotSuspended}
use Rattle.lapic_core.specs.Apic.{with_suspension as apic_with_suspension}
use Rattle.stimer_bank.specs.Bank.{with_suspension as bank_with_suspension}
use Rattle.synic_board.specs.declared.event.Reply.TheVariants.{Done}
use Rattle.synic_board.specs.State.{State, apic_of, bank_of, with_apic, with_bank}
use Rattle.synic_board.specs.Effects.{Outcome, unchanged, refused}

abbrev pub is_suspended : State → Processor → Bool
is_suspended s p = (apic_of s p).suspended

-- the suspension flag of a processor, for its local APIC and its timers
abbrev pub with_suspension : State → Processor → Bool → State
with_suspension s p mark =
    with_bank (with_apic s p (apic_with_suspension (apic_of s p) mark)) (bank_with_suspension (bank_of s) p mark)

-- neither tries a timer: one that became due during the suspension is tried at the next later tick, or when it is
-- written (profile)
abbrev pub suspended : State → Processor → Outcome
suspended s p = if is_suspended s p then refused s AlreadySuspended else unchanged (with_suspension s p true) Done

abbrev pub resumed : State → Processor → Outcome
resumed s p = if is_suspended s p then unchanged (with_suspension s p false) Done else refused s NotSuspended
