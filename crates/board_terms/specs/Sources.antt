-- The synthetic interrupt sources of all processors (TLFS, "Synthetic Interrupt Sources").
use Rattle.std.specs.Prelude.{ℕ, ◌+◌, ◌*◌}
use Rattle.board_terms.specs.Quantities.{Processor, Source}

-- the number of source i of processor p: 16 * p + i
abbrev pub source_number : Processor → Source → ℕ
source_number p i = 16 * p + i
