use Rattle.text_image.proofs.PieceLemmas.{piece-means}
use Rattle.text_image.proofs.laws.some_piece_line.Goals as goal

pub returns : goal.returns
returns c = piece-means
