use Rattle.text_lines.proofs.ReadLemmas.{means-one_item}
use Rattle.text_lines.proofs.laws.one_item.Goals as goal

pub returns : goal.returns
returns c = means-one_item
