-- The deadlines in the contracts of the tree.
use Rattle.std.specs.Prelude.{ℕ, zero, suc, ◌+◌, ◌*◌, ◌^◌, Bool, false, ◌||◌, nat_le, nat_lt, None, slice_index_or, slice_set, replicate, if◌then◌else◌}
use Rattle.std.specs.Option.{option_map_or}
use Rattle.board_terms.specs.Dues.{Dues, number_of}

-- the deadlines of the timers, and the number of comparisons since the tree was created
pub record TreeModel : Type 0 where
  pub dues : Dues
  pub compared : ℕ

-- no timer of so many processors has a deadline
abbrev pub no_dues : ℕ → Dues
no_dues processors = replicate (4 * processors) None

-- the timers of a processor have no deadline
abbrev pub without_processor : Dues → ℕ → Dues
without_processor m p =
    slice_set (slice_set (slice_set (slice_set m (number_of (p, 0)) None) (number_of (p, 1)) None)
    (number_of (p, 2)) None) (number_of (p, 3)) None

-- timer n is due by a time
abbrev pub is_due_by : Dues → ℕ → ℕ → Bool
is_due_by m moment n = option_map_or (λ d. nat_le d moment) (slice_index_or m n None) false

-- a timer of processor p is due by a time
abbrev pub has_due : Dues → ℕ → ℕ → Bool
has_due m moment p =
    is_due_by m moment (number_of (p, 0)) || is_due_by m moment (number_of (p, 1))
    || is_due_by m moment (number_of (p, 2)) || is_due_by m moment (number_of (p, 3))

-- how many of the first k powers of two, from 1 on, are less than n
unfoldable pub powers_below : ℕ → ℕ → ℕ
powers_below zero n = 0
powers_below (suc k) n = powers_below k n + (if nat_lt (2 ^ k) n then 1 else 0)

-- how often n timers are halved, rounding up, until one is left: the levels of a tree of n timers, of which each
-- compares two
unfoldable pub levels : ℕ → ℕ
levels n = powers_below n n
