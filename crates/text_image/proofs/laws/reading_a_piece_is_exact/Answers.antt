use Rattle.text_image.proofs.PieceLemmas.{reading-means}
use Rattle.text_image.proofs.laws.reading_a_piece_is_exact.Goals as goal

pub returns : goal.returns
returns c = reading-means
