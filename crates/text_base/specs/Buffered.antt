-- The abstract state of a source.
use Rattle.std.specs.Prelude.{ℕ, List, []}

-- the line found last, the bytes read but not yet taken, and how many more may be read
pub record Buffered : Type 0 where
  pub line : List ℕ
  pub waiting : List ℕ
  pub budget : ℕ

abbrev pub at_start : Buffered
at_start = record { line = []; waiting = []; budget = 1073741824 }
