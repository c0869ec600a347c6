use Rattle.text_trace.proofs.Histories.{history-once}
use Rattle.text_trace.proofs.laws.one_history.Goals as goal

pub returns : goal.returns
returns c = history-once
