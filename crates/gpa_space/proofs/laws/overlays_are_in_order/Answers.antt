use Rattle.std.proofs.Common.{refl}
use Rattle.gpa_space.proofs.laws.overlays_are_in_order.Goals as goal

pub returns : goal.returns
returns c = record { none = refl; first = refl; disabled = refl; moved = refl; moved_here = refl; outside = refl }
