-- One value of the summary.
use Rattle.std.specs.Prelude.{◌<◌, ◌≤◌, length, slice_set}
use Rattle.synic_board.specs.Summaries.{Values}
use Rattle.synic_board.specs.declared.summary.Entry.{Entry}
use Rattle.synic_board.specs.declared.summary.Entry.TheVariants.{Next, Auto, Owns, Appended, Reduced, Earliest}
use Rattle.board_terms.specs.Sources.{source_number}
use Rattle.synic_board.specs.inside.Waiting.{count_at}

-- there is such a value; a queue that a message was appended to has one, and one that was reduced has at most as many
-- as before
abbrev pub HasEntry : Values → Entry → Type 0
HasEntry v (Next p next) = p < length v.nexts
HasEntry v (Auto p auto) = p < length v.autos
HasEntry v (Owns page owner) = page < length v.owners
HasEntry v (Appended p i count) = (source_number p i < length v.queued) × (0 < count)
HasEntry v (Reduced p i count) = (source_number p i < length v.queued) × (count ≤ count_at v.queued p i)
HasEntry v (Earliest timer) = Unit {0}

-- the summary with another value there
abbrev pub with_entry : Values → Entry → Values
with_entry v (Next p next) = record v { nexts = slice_set v.nexts p next }
with_entry v (Auto p auto) = record v { autos = slice_set v.autos p auto }
with_entry v (Owns page owner) = record v { owners = slice_set v.owners page owner }
with_entry v (Appended p i count) = record v { queued = slice_set v.queued (source_number p i) count }
with_entry v (Reduced p i count) = record v { queued = slice_set v.queued (source_number p i) count }
with_entry v (Earliest timer) = record v { earliest = timer }
