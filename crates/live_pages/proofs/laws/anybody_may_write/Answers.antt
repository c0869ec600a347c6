use Rattle.live_pages.proofs.Tracing as tracing
use Rattle.live_pages.proofs.laws.anybody_may_write.Goals as goal

pub returns : goal.returns
returns c = tracing.anybody_may_write
