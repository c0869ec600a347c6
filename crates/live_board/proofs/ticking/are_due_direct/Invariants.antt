use Rattle.std.proofs.Common.{◌≡◌, ℕ, ◌<◌, true}
use Rattle.stimer_bank.specs.Bank.{timer_in}
use Rattle.stimer_bank.specs.Timer.{is_due, is_direct}
use Rattle.synic_board.specs.State.{bank_of}
use Rattle.live_board.proofs.ticking.are_due_direct.Given as goal

abbrev pub invariant-loop-index : goal.invariant-loop-index
invariant-loop-index l =
    (i : ℕ) → i < l.index → is_due (timer_in (bank_of l.board.state) (l.vp, i)) l.moment ≡ true
    → is_direct (timer_in (bank_of l.board.state) (l.vp, i)).config ≡ true
