use Rattle.text_history.proofs.BeginningLemmas.{trace-is}
use Rattle.text_trace.proofs.laws.written_is_legal.Goals as goal

pub returns : goal.returns
returns c = trace-is
