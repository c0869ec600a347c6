use Rattle.synic_board.proofs.Alarming.{none-due, first-ready}
use Rattle.law_alarm.proofs.the_earliest_timer_has_the_alarm_if_it_is_ready.Goals as goal

pub returns-clause-none : goal.returns-clause-none
returns-clause-none c = none-due

pub returns-clause-some : goal.returns-clause-some
returns-clause-some c = first-ready
