use Rattle.std.proofs.Common.{length, ap, arith}
use Rattle.entry_log.specs.Log.{Log}
use Rattle.entry_log.proofs.Reading.{entries-length}
use Rattle.entry_log.proofs.log.EntryLog.len.Goals as goal

pub returns : goal.returns
returns c = omega (
  arith,
  c.len.ensures,
  entries-length c.self.inside.bytes.items c.self.inside.compact.items,
  ap (λ (l : Log). length l.entries) c.self.view_is,
)
