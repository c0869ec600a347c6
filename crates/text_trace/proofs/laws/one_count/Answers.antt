use Rattle.text_trace.proofs.LawLemmas.{count-once}
use Rattle.text_trace.proofs.laws.one_count.Goals as goal

pub returns : goal.returns
returns c = count-once
