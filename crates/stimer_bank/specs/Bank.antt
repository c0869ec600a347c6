-- The timers of all processors (TLFS, "Synthetic Timers").
use Rattle.std.specs.Prelude.{ℕ, zero, suc, ◌*◌, ◌/◌, Bool, false, nat_lt, nat_le, List, [], length, map, replicate, slice_index_or, slice_set, Option, None, if◌then◌else◌}
use Rattle.std.specs.List.{insert, position_or_len, range_with_len}
use Rattle.std.specs.Option.{option_map_or}
use Rattle.board_terms.specs.Quantities.{Processor, TimerId, Moment, Word}
use Rattle.board_terms.specs.Dues.{Dues, number_of, timer_of, due_of}
use Rattle.deadline_tree.specs.Deadlines.{is_due_by}
use Rattle.stimer_bank.specs.declared.timer.Timer.{Timer}
use Rattle.stimer_bank.specs.declared.timer.Expiry.{Expiry}
use Rattle.stimer_bank.specs.Timer.{after_config, after_count, after_expiry}

pub record Bank : Type 0 where
  -- by number
  pub timers : List Timer
  -- whether each processor is suspended, by its number
  pub suspended : List Bool

abbrev pub idle_timer : Timer
idle_timer = record { config = 0; count = 0; due = None }

-- the bank of n processors
abbrev pub opened : ℕ → Bank
opened n = record { timers = replicate (4 * n) idle_timer; suspended = replicate n false }

abbrev pub timer_in : Bank → TimerId → Timer
timer_in b t = slice_index_or b.timers (number_of t) idle_timer

abbrev pub with_timer : Bank → TimerId → Timer → Bank
with_timer b t x = record b { timers = slice_set b.timers (number_of t) x }

-- the bank after a write of a timer's configuration, or of its count, at a time
abbrev pub with_config : Bank → TimerId → Word → Moment → Bank
with_config b t value moment = with_timer b t (after_config (timer_in b t) value moment)

abbrev pub with_count : Bank → TimerId → Word → Moment → Bank
with_count b t value moment = with_timer b t (after_count (timer_in b t) value moment)

-- processor p is suspended
abbrev pub is_suspended : Bank → Processor → Bool
is_suspended b p = slice_index_or b.suspended p false

abbrev pub with_suspension : Bank → Processor → Bool → Bank
with_suspension b p mark = record b { suspended = slice_set b.suspended p mark }

-- the timers of processor p are idle, and it is not suspended
abbrev pub reset : Bank → Processor → Bank
reset b p = with_suspension
    (with_timer (with_timer (with_timer (with_timer b (p, 0) idle_timer) (p, 1) idle_timer) (p, 2) idle_timer)
    (p, 3) idle_timer) p false

-- the deadline of timer n, or none if its processor is suspended
abbrev pub active_due : Bank → ℕ → Option Moment
active_due b n = if is_suspended b (n / 4) then None else (slice_index_or b.timers n idle_timer).due

-- the deadlines of all timers
unfoldable pub dues : Bank → Dues
dues b = map (active_due b) (range_with_len 0 (length b.timers))

-- a timer is due at a time
abbrev pub is_due_in : Bank → TimerId → Moment → Bool
is_due_in b t moment = is_due_by (dues b) moment (number_of t)

abbrev pub after_expiry_of : Bank → TimerId → Moment → Bank × Expiry
after_expiry_of b t moment = let r = after_expiry (timer_in b t) moment in (with_timer b t r.0, r.1)

-- the deadline of a timer is later than d
abbrev pub is_later : Dues → Moment → TimerId → Bool
is_later m d t = option_map_or (λ e. nat_lt d e) (due_of m t) false

-- timer n is inserted into a list if it is due, before the first timer with a later deadline
abbrev pub listed : Dues → Moment → ℕ → List TimerId → List TimerId
listed m moment n ts =
    option_map_or (λ d. if nat_le d moment then insert ts (position_or_len (is_later m d) ts) (timer_of n) else ts)
    (slice_index_or m n None) ts

-- the timers with numbers below n that are due at a time, by (deadline, processor, index)
unfoldable pub due_below : Dues → Moment → ℕ → List TimerId
due_below m moment zero = []
due_below m moment (suc n) = listed m moment n (due_below m moment n)

unfoldable pub due_list : Dues → Moment → List TimerId
due_list m moment = due_below m moment (length m)
