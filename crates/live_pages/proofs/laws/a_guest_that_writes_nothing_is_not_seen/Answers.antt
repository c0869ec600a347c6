use Rattle.live_pages.proofs.Tracing as tracing
use Rattle.live_pages.proofs.laws.a_guest_that_writes_nothing_is_not_seen.Goals as goal

pub returns : goal.returns
returns c = tracing.a_guest_that_writes_nothing_is_not_seen
