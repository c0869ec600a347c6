use Rattle.text_image.proofs.PieceLemmas.{means-one_piece}
use Rattle.text_image.proofs.laws.one_piece.Goals as goal

pub returns : goal.returns
returns c = means-one_piece
