use Rattle.std.proofs.Common.{◌≡◌, ◌<◌, ℕ, None}
use Rattle.synic_board.specs.State.{slot_of}
use Rattle.synic_board.proofs.machine.Machine.has_no_tickets.Given as goal

abbrev pub invariant-loop-number : goal.invariant-loop-number
invariant-loop-number l = (i : ℕ) → i < l.number → slot_of l.self.state l.vp i ≡ None
