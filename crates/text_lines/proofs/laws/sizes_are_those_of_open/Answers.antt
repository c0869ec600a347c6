use Rattle.text_lines.proofs.SizeLemmas.{sizes-are}
use Rattle.text_lines.proofs.laws.sizes_are_those_of_open.Goals as goal

pub returns : goal.returns
returns c = sizes-are
