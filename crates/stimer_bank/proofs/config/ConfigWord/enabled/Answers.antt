use Rattle.std.proofs.Common.{◌+◌, subst, sym}
use Rattle.stimer_bank.specs.Timer.{IsStored}
use Rattle.stimer_bank.proofs.ConfigBits.{stored-enabled}
use Rattle.stimer_bank.proofs.config.ConfigWord.enabled.Goals as goal

pub returns-clause-stored : goal.returns-clause-stored
returns-clause-stored c stored =
    subst (λ config. IsStored (config + 1)) (sym c.disabled.ensures.value) (stored-enabled c.args.self.0 stored)
