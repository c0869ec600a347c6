use Rattle.std.proofs.Common.{rules}
use Rattle.text_base.proofs.source.Source.open.Goals as goal

pub returns : goal.returns
returns c = search rules
