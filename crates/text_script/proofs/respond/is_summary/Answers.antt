use Rattle.text_base.specs.Fields.{fields_of}
use Rattle.text_script.proofs.ScriptLemmas.{later-other}
use Rattle.text_script.proofs.respond.is_summary.Goals as goal

pub returns-in-None : goal.returns-in-None
returns-in-None c = later-other (fields_of c.args.line.now) c.requires (rw c.new.ensures at c.in-None.ensures.none)
