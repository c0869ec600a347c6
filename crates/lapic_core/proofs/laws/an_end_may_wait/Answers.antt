use Rattle.lapic_core.proofs.Ends.{quiet, waits-request, waits-priority, waits-suspension}
use Rattle.lapic_core.proofs.laws.an_end_may_wait.Goals as goal

pub returns-clause-quiet : goal.returns-clause-quiet
returns-clause-quiet c = quiet

pub returns-clause-request : goal.returns-clause-request
returns-clause-request c = waits-request

pub returns-clause-priority : goal.returns-clause-priority
returns-clause-priority c = waits-priority

pub returns-clause-suspension : goal.returns-clause-suspension
returns-clause-suspension c = waits-suspension
