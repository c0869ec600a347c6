use Rattle.law_live.proofs.Kept.{posts-keep-slots, eoms-keep-slots, timers-keep-slots, ticks-keep-slots}
use Rattle.law_live.proofs.a_call_leaves_a_message_alone_that_a_guest_reads.Goals as goal

pub returns-clause-post : goal.returns-clause-post
returns-clause-post c = posts-keep-slots

pub returns-clause-eom : goal.returns-clause-eom
returns-clause-eom c = eoms-keep-slots

pub returns-clause-timer : goal.returns-clause-timer
returns-clause-timer c = timers-keep-slots

pub returns-clause-tick : goal.returns-clause-tick
returns-clause-tick c = ticks-keep-slots
