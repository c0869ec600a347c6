-- Reads and writes of the registers of one processor (TLFS, "Virtual Interrupt Controller").
use Rattle.std.specs.Prelude.{if◌then◌else◌}
use Rattle.std.specs.Option.{option_map_or}
use Rattle.board_terms.specs.Quantities.{Processor, RegisterNumber, Word}
use Rattle.synic_regs.specs.declared.register.Register.{Register}
use Rattle.synic_regs.specs.declared.register.Register.TheVariants.{ReferenceCounter, Eoi, Tpr, Control, Version, Sief, Sim, Eom, Source, TimerConfig, TimerCount}
use Rattle.synic_regs.specs.Registers.{register_of}
use Rattle.synic_regs.specs.Regs.{is_refused, with_value, value_of}
use Rattle.stimer_bank.specs.Bank.{timer_in, with_config, with_count}
use Rattle.synic_board.specs.declared.event.Reply.{Reply}
use Rattle.synic_board.specs.declared.event.Reply.TheVariants.{Done, Value, GeneralProtection}
use Rattle.synic_board.specs.State.{State, apic_of, regs_of, bank_of, with_regs}
use Rattle.synic_board.specs.Effects.{Outcome, answered, unchanged}
use Rattle.synic_board.specs.Interrupts.{ended, with_priority}
use Rattle.synic_board.specs.Delivery.{tried_below}
use Rattle.synic_board.specs.Timers.{written_timer}

-- a register that stores what is written; a source with a vector below 16 must be masked
abbrev pub stored : State → Processor → Register → Word → Outcome
stored s p r value =
    if is_refused r value then unchanged s GeneralProtection
    else unchanged (with_regs s p (with_value (regs_of s p) r value)) Done

-- EOM tries each source, in order
abbrev pub scanned : State → Processor → Outcome
scanned s p = answered Done (tried_below s p 16)

-- a write of each register
abbrev pub written_register : State → Processor → Register → Word → Outcome
written_register s p ReferenceCounter value = unchanged s GeneralProtection
written_register s p Eoi value = unchanged (ended s p) Done
written_register s p Tpr value = unchanged (with_priority s p value) Done
written_register s p Control value = stored s p Control value
written_register s p Version value = unchanged s GeneralProtection
written_register s p Sief value = stored s p Sief value
written_register s p Sim value = stored s p Sim value
written_register s p Eom value = scanned s p
written_register s p (Source n) value = stored s p (Source n) value
written_register s p (TimerConfig n) value = written_timer s (with_config (bank_of s) (p, n) value s.moment) (p, n)
written_register s p (TimerCount n) value = written_timer s (with_count (bank_of s) (p, n) value s.moment) (p, n)

abbrev pub written : State → Processor → RegisterNumber → Word → Outcome
written s p number value =
    option_map_or (λ r. written_register s p r value) (register_of number) (unchanged s GeneralProtection)

-- a read of each register
abbrev pub read_register : State → Processor → Register → Reply
read_register s p ReferenceCounter = Value s.moment
read_register s p Eoi = GeneralProtection
read_register s p Tpr = Value (apic_of s p).task_priority
read_register s p Control = Value (value_of (regs_of s p) Control)
read_register s p Version = Value 1
read_register s p Sief = Value (value_of (regs_of s p) Sief)
read_register s p Sim = Value (value_of (regs_of s p) Sim)
read_register s p Eom = Value 0
read_register s p (Source n) = Value (value_of (regs_of s p) (Source n))
read_register s p (TimerConfig n) = Value (timer_in (bank_of s) (p, n)).config
read_register s p (TimerCount n) = Value (timer_in (bank_of s) (p, n)).count

abbrev pub read : State → Processor → RegisterNumber → Reply
read s p number = option_map_or (read_register s p) (register_of number) GeneralProtection
