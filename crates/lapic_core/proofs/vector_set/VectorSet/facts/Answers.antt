use Rattle.lapic_core.proofs.Words.{members_in_range}
use Rattle.lapic_core.proofs.vector_set.VectorSet.facts.Goals as goal

pub returns : goal.returns
returns c = members_in_range c.self.inside.words _ c.self.view_is c.self.invariant
