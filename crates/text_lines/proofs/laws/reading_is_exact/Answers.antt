use Rattle.text_lines.proofs.ReadLemmas.{reading-means}
use Rattle.text_lines.proofs.laws.reading_is_exact.Goals as goal

pub returns : goal.returns
returns c = reading-means
