use Rattle.text_image.proofs.PieceLemmas.{means-one_line}
use Rattle.text_image.proofs.laws.one_piece_line.Goals as goal

pub returns : goal.returns
returns c = means-one_line
