use Rattle.text_lines.proofs.WrittenLemmas.{item-means}
use Rattle.text_lines.proofs.laws.some_line.Goals as goal

pub returns : goal.returns
returns c = item-means
