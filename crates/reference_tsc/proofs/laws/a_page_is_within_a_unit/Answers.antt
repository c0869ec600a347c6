use Rattle.reference_tsc.proofs.Scaling.{within}
use Rattle.reference_tsc.proofs.laws.a_page_is_within_a_unit.Goals as goal

pub returns : goal.returns
returns c = within
