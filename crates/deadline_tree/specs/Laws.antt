-- The definition of the earliest timer.
use Rattle.std.specs.Prelude.{◌≡◌, ◌↔◌, ℕ, None, Some, slice_index_or}
use Rattle.board_terms.specs.Dues.{Dues, least, timer_of, IsLeast}

-- `least` is the least by deadline, processor and index; it is none iff no timer has a deadline
pub record FindsLeast (m : Dues) : Type 0 where
  pub some : (d n : ℕ) → IsLeast m d n ↔ (least m ≡ Some (d, timer_of n))
  pub none : ((n : ℕ) → slice_index_or m n None ≡ None) ↔ (least m ≡ None)
