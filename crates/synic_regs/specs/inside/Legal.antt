-- The invariant of the registers.
use Rattle.std.specs.Prelude.{ℕ, ◌<◌, List, IsTrue, slice_index_or}
use Rattle.synic_regs.specs.Regs.{is_legal}

-- no source has a vector below 16 unless it is masked
abbrev pub AreLegal : List ℕ → Type 0
AreLegal sints = (n : ℕ) → n < 16 → IsTrue (is_legal (slice_index_or sints n 0))
