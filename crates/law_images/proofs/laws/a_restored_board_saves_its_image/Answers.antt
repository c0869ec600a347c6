use Rattle.law_images.proofs.Reading.{saved}
use Rattle.law_images.proofs.laws.a_restored_board_saves_its_image.Goals as goal

pub returns : goal.returns
returns c = saved
