use Rattle.text_base.specs.Fields.{fields_of}
use Rattle.text_script.proofs.ScriptLemmas.{first-other}
use Rattle.text_script.proofs.respond.open.Goals as goal

pub returns-in-None : goal.returns-in-None
returns-in-None c = first-other (fields_of c.args.line.now) (rw c.new.ensures at c.in-None.ensures.none)
