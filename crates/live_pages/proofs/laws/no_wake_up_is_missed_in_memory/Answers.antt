use Rattle.live_pages.proofs.Headers.{no_wake_up_is_missed}
use Rattle.live_pages.proofs.laws.no_wake_up_is_missed_in_memory.Goals as goal

pub returns : goal.returns
returns c = no_wake_up_is_missed
