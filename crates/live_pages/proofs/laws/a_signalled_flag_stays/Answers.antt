use Rattle.live_pages.proofs.Tracing as tracing
use Rattle.live_pages.proofs.laws.a_signalled_flag_stays.Goals as goal

pub returns : goal.returns
returns c = tracing.a_signalled_flag_stays
