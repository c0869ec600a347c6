use Rattle.std.proofs.Common.{arith, ◌∙◌}
use Rattle.stimer_bank.proofs.ConfigBits.{has-bit}
use Rattle.stimer_bank.proofs.config.ConfigWord.is_periodic.Goals as goal

pub returns : goal.returns
returns c = c.contains.ensures tt ∙ has-bit c.args.self.0 1 (omega arith)
