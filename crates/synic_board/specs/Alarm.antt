-- When a host must tick next (the rules of a tick: MACHINE.md, "The clock").
use Rattle.std.specs.Prelude.{◌+◌, ◌^◌, ℕ, nat_le, nat_lt, length, map, Option, None, Some, if◌then◌else◌}
use Rattle.std.specs.List.{range_with_len}
use Rattle.std.specs.Option.{option_map, option_map_or}
use Rattle.board_terms.specs.Quantities.{Moment}
use Rattle.board_terms.specs.Dues.{Dues, timer_of, least}
use Rattle.stimer_bank.specs.Bank.{active_due}
use Rattle.synic_board.specs.State.{State, bank_of}
use Rattle.synic_board.specs.Timers.{mode_at, is_ready_for}

-- the deadline of timer n if it could expire now: none if its processor is suspended, or if it is not ready for its
-- mode (SCONTROL, its message, the tickets)
abbrev pub ready_due : State → ℕ → Option Moment
ready_due s n =
    if is_ready_for s (timer_of n) (mode_at s (timer_of n)) then active_due (bank_of s) n else None

unfoldable pub ready_dues : State → Dues
ready_dues s = map (ready_due s) (range_with_len 0 (length s.timers))

-- the least deadline of those timers, but later than the present
abbrev pub alarm_after : Moment → Moment → Moment
alarm_after moment d = if nat_le d moment then moment + 1 else d

abbrev pub alarm : State → Option Moment
alarm s = option_map (λ r. alarm_after s.moment r.0) (least (ready_dues s))

-- a board's clock has 64 bits
abbrev pub within : ℕ → Option ℕ → Option ℕ
within bound o = option_map_or (λ m. if nat_lt m bound then Some m else None) o None

abbrev pub alarm_in_word : State → Option Moment
alarm_in_word s = within (2 ^ 64) (alarm s)
