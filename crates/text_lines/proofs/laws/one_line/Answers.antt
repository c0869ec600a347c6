use Rattle.text_lines.proofs.ReadLemmas.{means-one_line}
use Rattle.text_lines.proofs.laws.one_line.Goals as goal

pub returns : goal.returns
returns c = means-one_line
