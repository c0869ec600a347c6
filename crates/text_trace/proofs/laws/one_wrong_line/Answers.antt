use Rattle.text_trace.proofs.LawLemmas.{wrong-once}
use Rattle.text_trace.proofs.laws.one_wrong_line.Goals as goal

pub returns : goal.returns
returns c = wrong-once
