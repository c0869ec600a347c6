use Rattle.live_board.proofs.Remembered.{was-marked, never-missed}
use Rattle.live_board.proofs.Woken.{post-marked, eom-marked}
use Rattle.live_board.proofs.WokenTicks.{tick-marked}
use Rattle.live_board.proofs.WokenTimers.{timer-marked}
use Rattle.live_board.proofs.WokenPaid.{timer-paid-marked}
use Rattle.live_board.proofs.laws.a_waiting_message_is_marked.Goals as goal

pub returns-clause-post : goal.returns-clause-post
returns-clause-post c = post-marked

pub returns-clause-eom : goal.returns-clause-eom
returns-clause-eom c = eom-marked

pub returns-clause-memory : goal.returns-clause-memory
returns-clause-memory c = was-marked

pub returns-clause-protocol : goal.returns-clause-protocol
returns-clause-protocol c = never-missed

pub returns-clause-timer : goal.returns-clause-timer
returns-clause-timer c = timer-marked

pub returns-clause-paid : goal.returns-clause-paid
returns-clause-paid c = timer-paid-marked

pub returns-clause-tick : goal.returns-clause-tick
returns-clause-tick c = tick-marked
