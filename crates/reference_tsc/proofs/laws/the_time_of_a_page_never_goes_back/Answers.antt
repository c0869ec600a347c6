use Rattle.reference_tsc.proofs.Scaling.{never-back}
use Rattle.reference_tsc.proofs.laws.the_time_of_a_page_never_goes_back.Goals as goal

pub returns : goal.returns
returns c = never-back
