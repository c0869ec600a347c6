use Rattle.law_images.proofs.Unique.{no-wrong-line}
use Rattle.law_images.proofs.laws.an_image_has_no_wrong_line.Goals as goal

pub returns : goal.returns
returns c = no-wrong-line
