use Rattle.std.proofs.Common.{refl}
use Rattle.lapic_core.proofs.Priority.{above_none}
use Rattle.lapic_core.proofs.lapic.next_above.Goals as goal

pub returns-then-is_empty-clause-greatest : goal.returns-then-is_empty-clause-greatest
returns-then-is_empty-clause-greatest c = above_none _ _ _ (c.is_empty.ensures.0 c.if-is_empty.true) refl
