-- A late timer that the next deadline hides.
use Rattle.std.proofs.Common.{◌≡◌, refl}
use Rattle.std.specs.Prelude.{None, Some}
use Rattle.board_terms.specs.Dues.{least, least_below}
use Rattle.stimer_bank.specs.Bank.{dues}
use Rattle.synic_board.specs.Alarm.{ready_dues, alarm}
use Rattle.law_alarm.specs.Alarm.{late_board, deadline_after}

pub hidden : (alarm late_board ≡ Some 651) × (deadline_after late_board ≡ None)
unfolding ready_dues dues least least_below
hidden = (refl, refl)
