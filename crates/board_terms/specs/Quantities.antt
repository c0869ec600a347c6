-- Names for the numbers in the definitions, so that a signature says what it takes.
use Rattle.std.specs.Prelude.{ℕ}

-- a virtual processor, 0 to 63
abbrev pub Processor : Type 0
Processor = ℕ

-- a synthetic interrupt source of a processor, 0 to 15 (TLFS, "Synthetic Interrupt Sources")
abbrev pub Source : Type 0
Source = ℕ

-- an interrupt vector, 0 to 255; only those from 16 on can be requested (SDM volume 3, "Interrupt Priorities")
abbrev pub Vector : Type 0
Vector = ℕ

-- a timer: its processor, and its index on it, 0 to 3 (TLFS, "Synthetic Timers")
abbrev pub TimerId : Type 0
TimerId = ℕ × ℕ

-- a port, 0 to 15, and the number of an event flag within a port (TLFS, "Ports")
abbrev pub PortNumber : Type 0
PortNumber = ℕ

abbrev pub Flag : Type 0
Flag = ℕ

-- a time of the partition reference counter, in units of 100 ns; a deadline may exceed 64 bits
abbrev pub Moment : Type 0
Moment = ℕ

-- the ticket of an accepted message
abbrev pub Ticket : Type 0
Ticket = ℕ

-- the number of a page of 4096 bytes: its guest physical address divided by 4096
abbrev pub PageNumber : Type 0
PageNumber = ℕ

-- a guest physical address
abbrev pub Address : Type 0
Address = ℕ

-- the number of a register, and the 64-bit value of a register
abbrev pub RegisterNumber : Type 0
RegisterNumber = ℕ

abbrev pub Word : Type 0
Word = ℕ
