use Rattle.std.proofs.Common.{arith}
use Rattle.lapic_core.proofs.Bits.{word-is}
use Rattle.lapic_core.proofs.vector_set.VectorSet.word.Goals as goal

pub returns : goal.returns
returns c = word-is c.self.inside.words _ c.args.part c.self.view_is c.requires (omega arith)
