-- The periods of a periodic timer: each has one Expired notice, or is counted in a Skipped notice. Timers are
-- compared by their numbers.
use Rattle.std.specs.Prelude.{◌≡◌, ◌<◌, ◌+◌, ◌*◌, ◌/◌, ℕ, Bool, ◌==◌, true, Some, List, if◌then◌else◌}
use Rattle.std.specs.List.{sum_by}
use Rattle.board_terms.specs.Dues.{number_of}
use Rattle.board_terms.specs.declared.notices.Notice.{Notice}
use Rattle.board_terms.specs.declared.notices.Notice.TheVariants.{Skipped}
use Rattle.stimer_bank.specs.declared.timer.Timer.{Timer}
use Rattle.stimer_bank.specs.Timer.{is_periodic}
use Rattle.synic_board.specs.declared.event.Event.{Event}
use Rattle.synic_board.specs.declared.event.Event.TheVariants.{Reset}
use Rattle.law_board.specs.OneShots.{writes_timer}

-- an event writes the timer, or resets its processor
abbrev pub sets_timer : ℕ × ℕ → Event → Bool
sets_timer t (Reset p) = number_of t / 4 == p
sets_timer t event = writes_timer t event

-- how many skipped periods of the timer a notice reports
abbrev pub skips_of : ℕ × ℕ → Notice → ℕ
skips_of t (Skipped p i count) = if number_of (p, i) == number_of t then count else 0
skips_of t notice = 0

-- and several notices together
abbrev pub skips : ℕ × ℕ → List Notice → ℕ
skips t notices = sum_by (skips_of t) notices

-- a timer is periodic, with a period above 0 (as each sound timer with a deadline has), and is due at a time
pub record IsPeriodic (x : Timer) (moment : ℕ) : Type 0 where
  pub periodic : is_periodic x.config ≡ true
  pub some : 0 < x.count
  pub due : x.due ≡ Some moment

-- a timer that was due at a time, that many periods later
abbrev pub after_periods : Timer → ℕ → ℕ → Timer
after_periods x moment periods = record { config = x.config; count = x.count; due = Some (moment + x.count * periods) }
