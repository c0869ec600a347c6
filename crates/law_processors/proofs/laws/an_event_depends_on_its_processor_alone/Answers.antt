use Rattle.law_processors.proofs.AgreeingEvents.{acts-alike}
use Rattle.law_processors.proofs.laws.an_event_depends_on_its_processor_alone.Goals as goal

pub returns : goal.returns
returns c = acts-alike
