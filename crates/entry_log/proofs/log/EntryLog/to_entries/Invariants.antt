use Rattle.std.proofs.Common.{◌≡◌, ◌++◌, length, drop}
use Rattle.std.specs.List.{sum_by}
use Rattle.entry_log.specs.inside.Compact.{size, entries_in}
use Rattle.entry_log.proofs.log.EntryLog.to_entries.Given as goal

abbrev pub invariant-loop-compact : goal.invariant-loop-compact
invariant-loop-compact l =
    record {
      read : l.entries.items ++ entries_in l.bytes (drop l.compact-index l.compact-items) ≡ l.self.entries;
      left : sum_by size (drop l.compact-index l.compact-items) ≡ length l.bytes;
    }
