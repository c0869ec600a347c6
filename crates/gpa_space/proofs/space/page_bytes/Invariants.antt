use Rattle.std.proofs.Common.{◌<◌, ℕ, List}
use Rattle.std.specs.Prelude.{slice_index_or}
use Rattle.board_terms.specs.Ranges.{AreBytes}
use Rattle.gpa_space.proofs.space.page_bytes.Given as goal

abbrev pub invariant-loop-page : goal.invariant-loop-page
invariant-loop-page l = (k : ℕ) (d : List ℕ) → k < l.page-index → AreBytes (slice_index_or l.pages k d)
