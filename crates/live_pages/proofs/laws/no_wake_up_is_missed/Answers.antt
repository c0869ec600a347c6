use Rattle.live_pages.proofs.Protocol.{no_wake_up_is_missed}
use Rattle.live_pages.proofs.laws.no_wake_up_is_missed.Goals as goal

pub returns : goal.returns
returns c = no_wake_up_is_missed
