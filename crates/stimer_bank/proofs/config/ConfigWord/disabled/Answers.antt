use Rattle.stimer_bank.proofs.ConfigBits.{stored-disabled}
use Rattle.stimer_bank.proofs.config.ConfigWord.disabled.Goals as goal

pub returns-clause-stored : goal.returns-clause-stored
returns-clause-stored c stored = stored-disabled c.args.self.0 stored
