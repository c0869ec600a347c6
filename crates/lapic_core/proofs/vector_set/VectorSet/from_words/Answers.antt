use Rattle.std.proofs.Common.{arith}
use Rattle.lapic_core.proofs.FromWords.{made, none-low}
use Rattle.lapic_core.proofs.vector_set.VectorSet.from_words.Goals as goal

pub returns : goal.returns
returns c = made c.args.words (omega (arith, c.if-words-ne0.false))

pub invariant_of-result : goal.invariant_of-result
invariant_of-result c = none-low c.args.words (omega (arith, c.if-words-ne0.false))
