-- The abstract view of the fields of a log.
use Rattle.std.specs.Prelude.{◌≡◌, ◌+◌, ◌&&◌, Bool, All, length, nat_lt, nat_le, vec_len, vec_capacity}
use Rattle.std.specs.List.{sum_by}
use Rattle.entry_log.specs.inside.Compact.{Fits, size, entries_in}
use Rattle.entry_log.specs.Log.{Log}
use Rattle.entry_log.specs.declared.log.EntryLog.TheInside.{Inside}

-- capacity for the numbers of one more entry, for 240 bytes of its event and 8 of its reply
abbrev pub has_room : Inside → Bool
has_room a =
    nat_lt (vec_len a.compact) (vec_capacity a.compact) && nat_le (vec_len a.bytes + 248) (vec_capacity a.bytes)

abbrev pub log_of : Inside → Log
log_of a = record { entries = entries_in a.bytes.items a.compact.items; has_room = has_room a }

-- the bytes are exactly those of the entries
pub record LogInvariant (a : Inside) : Type 0 where
  pub whole : sum_by size a.compact.items ≡ length a.bytes.items
  pub fit : All Fits a.compact.items
