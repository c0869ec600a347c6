-- The greatest number of bytes read.
use Rattle.std.proofs.Common.{ℕ, List, Option, sym, subst}
use Rattle.text_base.specs.Streams.{ReadsUpTo}
use Rattle.text_driver.specs.Driving.{most_of, ReadsNear, StopsNear as DriveStopsNear}
use Rattle.text_driver.specs.declared.driving.End.{End}
use Rattle.text_driver.specs.declared.driving.End.TheVariants as ends
use Rattle.text_restore.specs.Restoring.{Stage}
use Rattle.text_restore.specs.Images.{most_read, StopsNear}
use Rattle.text_restore.specs.inside.Concluding.{Concludes, Finishes}
use Rattle.text_restore.specs.declared.restoring.RestoreEnd.{RestoreEnd}
use Rattle.text_restore.specs.declared.restoring.RestoreEnd.TheVariants as results

last-within : (line : ℕ) (stage : Stage) (result : RestoreEnd) (r0 r1 : Option (List ℕ)) → Finishes line stage result
    → ReadsUpTo 1073741824 r0 r1 → ReadsUpTo (most_read result) r0 r1
last-within line stage (results.Restored board) r0 r1 says read = read
last-within line stage (results.Refused k) r0 r1 says read = read
last-within line stage results.Memory r0 r1 says read = absurd says
last-within line stage results.Reading r0 r1 says read = absurd says

-- Only a failed read may be beyond the limit.
pub concluded-within : (end : End (Unit {0})) (stage : Stage) (result : RestoreEnd) (r0 r1 : Option (List ℕ))
    → Concludes end stage result → ReadsUpTo (most_of end) r0 r1 →
    ReadsUpTo (most_read result) r0 r1
concluded-within (ends.Last line) stage result r0 r1 says read = last-within line stage result r0 r1 says read
concluded-within (ends.Wrong line fault) stage result r0 r1 says read = rw says read
concluded-within (ends.Long line) stage result r0 r1 says read = rw says read
concluded-within (ends.Cut line) stage result r0 r1 says read = rw says read
concluded-within ends.Memory stage result r0 r1 says read = rw says read
concluded-within ends.Reading stage result r0 r1 says read = rw says read
concluded-within ends.Writing stage result r0 r1 says read = rw says read

last-near : (line : ℕ) (stage : Stage) (result : RestoreEnd) (r0 r1 : Option (List ℕ)) → Finishes line stage result
    → ReadsNear line r0 r1 → StopsNear result r0 r1
last-near line stage (results.Restored board) r0 r1 says near = tt
last-near line stage (results.Refused k) r0 r1 says near = subst (λ (n : ℕ). ReadsNear n r0 r1) (sym says.0) near
last-near line stage results.Memory r0 r1 says near = tt
last-near line stage results.Reading r0 r1 says near = tt

-- The reported line is the one near which reading stopped.
pub concluded-near : (end : End (Unit {0})) (stage : Stage) (result : RestoreEnd) (r0 r1 : Option (List ℕ))
    → Concludes end stage result → DriveStopsNear end r0 r1 → StopsNear result r0 r1
concluded-near (ends.Last line) stage result r0 r1 says near = last-near line stage result r0 r1 says near
concluded-near (ends.Wrong line fault) stage result r0 r1 says near = rw says near
concluded-near (ends.Long line) stage result r0 r1 says near = rw says near
concluded-near (ends.Cut line) stage result r0 r1 says near = rw says near
concluded-near ends.Memory stage result r0 r1 says near = rw says tt
concluded-near ends.Reading stage result r0 r1 says near = rw says tt
concluded-near ends.Writing stage result r0 r1 says near = rw says tt
