use Rattle.live_pages.proofs.Refused as refused
use Rattle.live_pages.proofs.lies.lies_are_refused.Goals as goal

pub returns : goal.returns
returns c = refused.lies_are_refused
