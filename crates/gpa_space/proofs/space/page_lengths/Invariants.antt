use Rattle.std.proofs.Common.{◌≡◌, ◌<◌, ℕ, List, length}
use Rattle.std.specs.Prelude.{slice_index_or}
use Rattle.gpa_space.proofs.space.page_lengths.Given as goal

abbrev pub invariant-loop-page : goal.invariant-loop-page
invariant-loop-page l = (k : ℕ) (d : List ℕ) → k < l.page-index → length (slice_index_or l.pages k d) ≡ 4096
