-- The events that change no own page of a board, and those that may deliver messages to one processor. Callers need
-- neither.
use Rattle.std.specs.Prelude.{◌≡◌, ℕ, ◌&&◌, Bool, true, false, nat_lt, Option, None, Some, if◌then◌else◌}
use Rattle.std.specs.Option.{option_map_or}
use Rattle.synic_regs.specs.declared.register.Register.{Register}
use Rattle.synic_regs.specs.declared.register.Register.TheVariants.{Eom, TimerConfig, TimerCount}
use Rattle.synic_regs.specs.Registers.{register_of}
use Rattle.synic_board.specs.State.{State, processors}
use Rattle.synic_board.specs.declared.event.Event.{Event}
use Rattle.synic_board.specs.declared.event.Event.TheVariants.{Write, Post, Signal, Store, Load, Tick, Reset}
use Rattle.live_board.specs.Timers.{is_timer_register}

-- a write of EOM or of a timer may deliver messages
abbrev pub is_quiet_register : Register → Bool
is_quiet_register Eom = false
is_quiet_register (TimerConfig n) = false
is_quiet_register (TimerCount n) = false
is_quiet_register _ = true

-- a guest's loads and stores may be of a page that is live
abbrev pub is_quiet : Event → Bool
is_quiet (Write p number value) = option_map_or is_quiet_register (register_of number) true
is_quiet (Post port kind payload) = false
is_quiet (Signal port flag) = false
is_quiet (Store address bytes) = false
is_quiet (Load address length) = false
is_quiet (Tick moment) = false
is_quiet (Reset p) = false
is_quiet _ = true

-- an event after which no processor is owed an EOM: neither a write of a register nor a tick
abbrev pub owes_nothing : Event → Bool
owes_nothing (Write p number value) = false
owes_nothing (Tick moment) = false
owes_nothing _ = true

-- a write of a register of a processor
abbrev pub IsWriteTo : ℕ → ℕ → Event → Type 0
IsWriteTo p number (Write q other value) = (q ≡ p) × (other ≡ number)
IsWriteTo p number _ = ⊥

abbrev pub is_eom_register : Register → Bool
is_eom_register Eom = true
is_eom_register _ = false

abbrev pub is_eom : Event → Bool
is_eom (Write p number value) = option_map_or is_eom_register (register_of number) false
is_eom _ = false

-- the processor that writes EOM, if it is on the board
abbrev pub eom_of : State → Event → Option ℕ
eom_of s (Write p number value) =
    if option_map_or is_eom_register (register_of number) false && nat_lt p (processors s) then Some p else None
eom_of s _ = None

-- a write of a timer of a processor, on the board or not
abbrev pub IsTimerWriteBy : ℕ → Event → Type 0
IsTimerWriteBy p (Write q number value) = (q ≡ p) × (option_map_or is_timer_register (register_of number) false ≡ true)
IsTimerWriteBy p _ = ⊥

-- the address of an access of the guest to memory
abbrev pub accessed_at : Event → Option ℕ
accessed_at (Store address bytes) = Some address
accessed_at (Load address length) = Some address
accessed_at _ = None
