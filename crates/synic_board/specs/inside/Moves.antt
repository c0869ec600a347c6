-- Moving overlays, and the effect on the summary.
use Rattle.std.specs.Prelude.{ℕ, nat_lt, List, length, slice_set, if◌then◌else◌}
use Rattle.board_terms.specs.declared.pages.Owner.{Owner}
use Rattle.gpa_space.specs.Space.{Space, owner_of}
use Rattle.synic_board.specs.Summaries.{Values}

-- the owner of one page is recomputed, if there is such a page
abbrev pub looked_up : Space → List Owner → ℕ → List Owner
looked_up s owners page = if nat_lt page (length s.pages) then slice_set owners page (owner_of s page) else owners

abbrev pub with_owners : Values → List Owner → Values
with_owners v owners = record v { owners = owners }
