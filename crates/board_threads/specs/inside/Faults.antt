-- How a fault is passed on.
use Rattle.board_threads.specs.declared.actor.CallFault.{CallFault}
use Rattle.board_threads.specs.declared.actor.CallFault.TheVariants as calls
use Rattle.board_threads.specs.declared.settling.SettleFault.{SettleFault}
use Rattle.board_threads.specs.declared.settling.SettleFault.TheVariants as settling
use Rattle.board_threads.specs.declared.fault.WorkFault.{WorkFault}
use Rattle.board_threads.specs.declared.fault.WorkFault.TheVariants as works
use Rattle.board_threads.specs.declared.crew.CrewFault.{CrewFault}
use Rattle.board_threads.specs.declared.crew.CrewFault.TheVariants as crews

-- why the work of a crew stops: an allocation fails, a call fails, or its board cannot be settled
abbrev pub no_memory : WorkFault
no_memory = works.Memory

abbrev pub fault_of_call : CallFault → WorkFault
fault_of_call calls.Memory = works.Memory
fault_of_call fault = works.Unsettled

abbrev pub fault_of_settling : SettleFault → WorkFault
fault_of_settling settling.Memory = works.Memory
fault_of_settling settling.Mismatch = works.Unsettled

-- and why the crew has no result then
abbrev pub fault_of_work : WorkFault → CrewFault
fault_of_work works.Memory = crews.Memory
fault_of_work works.Unsettled = crews.Unsettled
fault_of_work works.NoThread = crews.NoThread
