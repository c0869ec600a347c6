use Rattle.text_base.proofs.LaneLemmas.{values-are}
use Rattle.text_base.proofs.lanes.values_of.Goals as goal

pub returns : goal.returns
returns c = values-are c.args.text c.fits-text.0
