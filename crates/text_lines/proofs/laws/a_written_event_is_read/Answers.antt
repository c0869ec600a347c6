use Rattle.text_lines.proofs.WrittenLemmas.{event-read}
use Rattle.text_lines.proofs.laws.a_written_event_is_read.Goals as goal

pub returns : goal.returns
returns c = event-read
