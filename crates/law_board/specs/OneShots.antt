-- The expiries of a one-shot timer (TLFS, "Synthetic Timers"). Timers are compared by their numbers, which are
-- distinct on a board.
use Rattle.std.specs.Prelude.{◌≡◌, ℕ, ◌==◌, ◌&&◌, ◌||◌, Bool, false, is_some, List, count_by, if◌then◌else◌}
use Rattle.std.specs.Option.{option_map_or}
use Rattle.board_terms.specs.Dues.{number_of}
use Rattle.board_terms.specs.declared.notices.Notice.{Notice}
use Rattle.board_terms.specs.declared.notices.Notice.TheVariants.{Expired}
use Rattle.synic_regs.specs.declared.register.Register.{Register}
use Rattle.synic_regs.specs.declared.register.Register.TheVariants.{TimerConfig, TimerCount}
use Rattle.synic_regs.specs.Registers.{register_of}
use Rattle.stimer_bank.specs.Timer.{is_periodic}
use Rattle.stimer_bank.specs.Bank.{timer_in}
use Rattle.synic_board.specs.declared.event.Event.{Event}
use Rattle.synic_board.specs.declared.event.Event.TheVariants.{Write}
use Rattle.synic_board.specs.State.{State, bank_of}

-- the notice is an Expired of that timer
abbrev pub is_expiry_of : ℕ × ℕ → Notice → Bool
is_expiry_of t (Expired p i due) = number_of (p, i) == number_of t
is_expiry_of t notice = false

abbrev pub expiries : ℕ × ℕ → List Notice → ℕ
expiries t notices = count_by (is_expiry_of t) notices

-- 1 if the timer has a deadline, else 0
abbrev pub armed : State → ℕ × ℕ → ℕ
armed s t = if is_some (timer_in (bank_of s) t).due then 1 else 0

-- a register of processor p is the timer's configuration, or its count
abbrev pub is_config_of : ℕ × ℕ → ℕ → Register → Bool
is_config_of t p (TimerConfig n) = number_of (p, n) == number_of t
is_config_of t p register = false

abbrev pub is_count_of : ℕ × ℕ → ℕ → Register → Bool
is_count_of t p (TimerCount n) = number_of (p, n) == number_of t
is_count_of t p register = false

-- an event writes the timer
abbrev pub writes_timer : ℕ × ℕ → Event → Bool
writes_timer t (Write p number value) =
    option_map_or (λ r. is_config_of t p r || is_count_of t p r) (register_of number) false
writes_timer t event = false

abbrev pub writes : ℕ × ℕ → List Event → ℕ
writes t events = count_by (writes_timer t) events

-- and makes it periodic
abbrev pub makes_periodic : ℕ × ℕ → Event → Bool
makes_periodic t (Write p number value) =
    option_map_or (is_config_of t p) (register_of number) false && is_periodic value
makes_periodic t event = false

-- it is a one-shot
abbrev pub IsOneShot : State → ℕ × ℕ → Type 0
IsOneShot s t = is_periodic (timer_in (bank_of s) t).config ≡ false
