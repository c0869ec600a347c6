-- The numbers of the synthetic registers (TLFS, "Virtual Interrupt Controller" and "Synthetic Timers").
use Rattle.std.specs.Prelude.{◌≡◌, ◌↔◌, ℕ, ◌+◌, ◌-◌, ◌*◌, ◌/◌, ◌%◌, ◌==◌, ◌<◌, ◌&&◌, nat_le, Option, None, Some, if◌then◌else◌}
use Rattle.synic_regs.specs.declared.register.Register.{Register}
use Rattle.synic_regs.specs.declared.register.Register.TheVariants.{ReferenceCounter, Eoi, Tpr, Control, Version, Sief, Sim, Eom, Source, TimerConfig, TimerCount}

-- the number of each register
abbrev pub number_of_register : Register → ℕ
number_of_register ReferenceCounter = 0x40000020
number_of_register Eoi = 0x40000070
number_of_register Tpr = 0x40000072
number_of_register Control = 0x40000080
number_of_register Version = 0x40000081
number_of_register Sief = 0x40000082
number_of_register Sim = 0x40000083
number_of_register Eom = 0x40000084
number_of_register (Source n) = 0x40000090 + n
number_of_register (TimerConfig n) = 0x400000b0 + 2 * n
number_of_register (TimerCount n) = 0x400000b1 + 2 * n

-- a source below 16, or a timer below 4
abbrev pub Exists : Register → Type 0
Exists (Source n) = n < 16
Exists (TimerConfig n) = n < 4
Exists (TimerCount n) = n < 4
Exists _ = Unit {0}

-- the two registers of each timer, in alternation
abbrev pub timer_register : ℕ → Register
timer_register k = if k % 2 == 0 then TimerConfig (k / 2) else TimerCount (k / 2)

-- the register with a number
abbrev pub register_of : ℕ → Option Register
register_of n =
    if n == 0x40000020 then Some ReferenceCounter
    else if n == 0x40000070 then Some Eoi
    else if n == 0x40000072 then Some Tpr
    else if n == 0x40000080 then Some Control
    else if n == 0x40000081 then Some Version
    else if n == 0x40000082 then Some Sief
    else if n == 0x40000083 then Some Sim
    else if n == 0x40000084 then Some Eom
    else if nat_le 0x40000090 n && nat_le n 0x4000009f then Some (Source (n - 0x40000090))
    else if nat_le 0x400000b0 n && nat_le n 0x400000b7 then Some (timer_register (n - 0x400000b0))
    else None

-- register_of a number is r iff r exists and has that number
abbrev pub HaveTheirNumbers : Type 0
HaveTheirNumbers = (n : ℕ) (r : Register) → (register_of n ≡ Some r) ↔ (Exists r × (number_of_register r ≡ n))
