use Rattle.law_images.proofs.Unique.{one-state}
use Rattle.law_images.proofs.laws.an_image_has_one_state.Goals as goal

pub returns : goal.returns
returns c = one-state
