use Rattle.stimer_bank.proofs.ConfigBits.{stored-written}
use Rattle.stimer_bank.proofs.config.ConfigWord.stored.Goals as goal

pub returns-clause-stored : goal.returns-clause-stored
returns-clause-stored c = stored-written c.args.value
