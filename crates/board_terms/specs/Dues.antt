-- The deadlines of all timers, and the earliest one (TLFS, "Synthetic Timers").
use Rattle.std.specs.Prelude.{◌≡◌, ◌≤◌, ℕ, zero, suc, ◌<◌, ◌+◌, ◌*◌, ◌/◌, ◌%◌, nat_lt, List, Option, None, Some, length, map, slice_index_or, if◌then◌else◌}
use Rattle.std.specs.Option.{option_map_or, option_map}
use Rattle.board_terms.specs.Quantities.{TimerId, Moment}

-- the deadline of each timer, by its number, or none
abbrev pub Dues : Type 0
Dues = List (Option Moment)

-- the number of a timer: 4 * processor + index
abbrev pub number_of : TimerId → ℕ
number_of t = 4 * t.0 + t.1

abbrev pub timer_of : ℕ → TimerId
timer_of n = (n / 4, n % 4)

-- the deadline of a timer
abbrev pub due_of : Dues → TimerId → Option Moment
due_of m t = slice_index_or m (number_of t) None

-- the lesser of a timer that is due at d and the least so far; on a tie, the least so far
abbrev pub earlier : Option (ℕ × ℕ) → ℕ × ℕ → ℕ × ℕ
earlier o x = option_map_or (λ r. if nat_lt x.0 r.0 then x else r) o x

-- the least deadline and its number, among the numbers below n
unfoldable pub least_below : Dues → ℕ → Option (ℕ × ℕ)
least_below m zero = None
least_below m (suc n) =
    option_map_or (λ d. Some (earlier (least_below m n) (d, n))) (slice_index_or m n None) (least_below m n)

-- the least (due, processor, index)
unfoldable pub least : Dues → Option (Moment × TimerId)
least m = option_map (λ r. (r.0, timer_of r.1)) (least_below m (length m))

-- timer n is due at d, and no timer is before it in the order (due, processor, index)
pub record IsLeast (m : Dues) (d n : ℕ) : Type 0 where
  pub low : n < length m
  pub due : slice_index_or m n None ≡ Some d
  pub first : (k e : ℕ) → slice_index_or m k None ≡ Some e → (d ≤ e) × (e ≡ d → n ≤ k)

-- the deadlines that are later than a time
abbrev pub if_later : Moment → Option Moment → Option Moment
if_later moment due = option_map_or (λ d. if nat_lt moment d then Some d else None) due None

abbrev pub later_than : Moment → Dues → Dues
later_than moment m = map (if_later moment) m
