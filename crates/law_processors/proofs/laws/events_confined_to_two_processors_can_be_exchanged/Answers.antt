use Rattle.law_processors.proofs.Exchanging.{end-alike}
use Rattle.law_processors.proofs.laws.events_confined_to_two_processors_can_be_exchanged.Goals as goal

pub returns : goal.returns
returns c = end-alike
