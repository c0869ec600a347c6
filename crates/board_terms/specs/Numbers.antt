-- The number of each refusal.
use Rattle.std.specs.Prelude.{ℕ}
use Rattle.board_terms.specs.declared.refusal.Refusal.{Refusal}
use Rattle.board_terms.specs.declared.refusal.Refusal.TheVariants.{UnknownPort, PortOpen, WrongKind, BadTarget, BadType, BadFlag, SynicOff, NoBuffers, TicketsSpent, ClockBack, OutsideSpace, CrossesPage, BadLength, NoSuchProcessor, AlreadySuspended, NotSuspended, Elsewhere}

abbrev pub refusal_number : Refusal → ℕ
refusal_number UnknownPort = 1
refusal_number PortOpen = 2
refusal_number WrongKind = 3
refusal_number BadTarget = 4
refusal_number BadType = 5
refusal_number BadFlag = 6
refusal_number SynicOff = 7
refusal_number NoBuffers = 8
refusal_number TicketsSpent = 9
refusal_number ClockBack = 10
refusal_number OutsideSpace = 11
refusal_number CrossesPage = 12
refusal_number BadLength = 13
refusal_number NoSuchProcessor = 14
refusal_number AlreadySuspended = 15
refusal_number NotSuspended = 16
refusal_number Elsewhere = 17
