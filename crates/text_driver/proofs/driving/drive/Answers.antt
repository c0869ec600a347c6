use Rattle.text_driver.proofs.Progress.{nothing-taken}
use Rattle.text_driver.proofs.driving.drive.Goals as goal

pub returns-in_default-clause-lines : goal.returns-in_default-clause-lines
returns-in_default-clause-lines g c = nothing-taken _ _ _
