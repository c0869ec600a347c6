-- Writes of timers, which may deliver a message to their processor.
use Rattle.std.specs.Prelude.{ℕ, ◌&&◌, Bool, true, false, nat_lt, bit_and, Option, None, Some, if◌then◌else◌}
use Rattle.std.specs.Option.{option_map_or}
use Rattle.synic_regs.specs.declared.register.Register.{Register}
use Rattle.synic_regs.specs.declared.register.Register.TheVariants.{TimerConfig, TimerCount}
use Rattle.synic_regs.specs.Registers.{register_of}
use Rattle.stimer_bank.specs.Bank.{timer_in}
use Rattle.stimer_bank.specs.Timer.{is_direct}
use Rattle.synic_board.specs.State.{State, processors, bank_of}
use Rattle.synic_board.specs.declared.event.Event.{Event}
use Rattle.synic_board.specs.declared.event.Event.TheVariants.{Write}

abbrev pub is_timer_register : Register → Bool
is_timer_register (TimerConfig n) = true
is_timer_register (TimerCount n) = true
is_timer_register _ = false

-- a write of a timer's CONFIG or COUNT
abbrev pub is_timer_write : Event → Bool
is_timer_write (Write p number value) = option_map_or is_timer_register (register_of number) false
is_timer_write _ = false

-- the processor whose timer is written, if it is on the board
abbrev pub timer_of : State → Event → Option ℕ
timer_of s (Write p number value) =
    if option_map_or is_timer_register (register_of number) false && nat_lt p (processors s) then Some p else None
timer_of s _ = None

-- a write of a timer that is in direct mode then, and sends no message
abbrev pub is_direct_by : State → ℕ → ℕ → Option Register → Bool
is_direct_by s p value (Some (TimerConfig n)) = is_direct (bit_and value 0xf1fff)
is_direct_by s p value (Some (TimerCount n)) = is_direct (timer_in (bank_of s) (p, n)).config
is_direct_by s p value _ = false

abbrev pub is_direct_write : State → Event → Bool
is_direct_write s (Write p number value) = is_direct_by s p value (register_of number)
is_direct_write s _ = false
