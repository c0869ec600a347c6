-- The result of a restore when reading ends.
use Rattle.std.specs.Prelude.{◌≡◌, ℕ}
use Rattle.synic_board.specs.State.{State}
use Rattle.text_driver.specs.declared.driving.End.{End}
use Rattle.text_driver.specs.declared.driving.End.TheVariants as ends
use Rattle.text_restore.specs.Restoring.{Stage, IsComplete}
use Rattle.text_restore.specs.declared.restoring.RestoreEnd.{RestoreEnd}
use Rattle.text_restore.specs.declared.restoring.RestoreEnd.TheVariants as results

-- all lines were read, and the next one would be this one: the image is complete, or that line is missing
abbrev pub Finishes : ℕ → Stage → RestoreEnd → Type 0
Finishes line stage (results.Restored board) = IsComplete stage board.state
Finishes line stage (results.Refused k) = (k ≡ line) × ((s : State) → IsComplete stage s → ⊥)
Finishes line stage results.Memory = ⊥
Finishes line stage results.Reading = ⊥

abbrev pub Concludes : End (Unit {0}) → Stage → RestoreEnd → Type 0
Concludes (ends.Last line) stage result = Finishes line stage result
Concludes (ends.Wrong line fault) stage result = result ≡ results.Refused line
Concludes (ends.Long line) stage result = result ≡ results.Refused line
Concludes (ends.Cut line) stage result = result ≡ results.Refused line
Concludes ends.Memory stage result = result ≡ results.Memory
Concludes ends.Reading stage result = result ≡ results.Reading
Concludes ends.Writing stage result = result ≡ results.Memory
