-- The greatest number of bytes read.
use Rattle.std.proofs.Common.{◌≡◌, ℕ, List, Option, refl, sym, subst}
use Rattle.text_base.specs.Streams.{ReadsUpTo}
use Rattle.synic_board.specs.State.{State}
use Rattle.text_driver.specs.Driving.{ReadsNear}
use Rattle.text_lines.specs.declared.fault.ScriptFault.{ScriptFault}
use Rattle.text_crew.specs.Crew.{Crew}
use Rattle.text_crew.specs.Running.{Writes, most_read, StopsNear}
use Rattle.text_crew.specs.inside.Reporting.{Refusal, Report}
use Rattle.text_crew.specs.declared.running.CrewRun.{CrewRun}
use Rattle.text_crew.specs.declared.running.CrewRun.TheVariants.{Script, Reading}

-- an end with a report is not a failed read
said-within : (result : CrewRun) (tells : CrewRun → List ℕ → Type 0) (w0 w1 : Option (List ℕ))
    → ((text : List ℕ) → tells Reading text → ⊥) → Writes tells result w0 w1 → most_read result ≡ 1073741824
said-within Reading tells w0 w1 never says = absurd (never says.sent says.is)
said-within end tells w0 w1 never says = refl

-- If something is reported about the whole script, the limit is not exceeded.
pub within : (result : CrewRun) (tells : CrewRun → List ℕ → Type 0) (r0 r1 w0 w1 : Option (List ℕ))
    → ((text : List ℕ) → tells Reading text → ⊥) →
    Writes tells result w0 w1 → ReadsUpTo 1073741824 r0 r1 → ReadsUpTo (most_read result) r0 r1
within result tells r0 r1 w0 w1 never says =
    subst (λ n. ReadsUpTo n r0 r1) (sym (said-within result tells w0 w1 never says))

-- No line is reported if a crew is run.
pub run-near : (board : Option State) (result : CrewRun) (crew : Crew) (r0 r1 w0 w1 : Option (List ℕ))
    → Writes (Report board crew) result w0 w1 → StopsNear result r0 r1
run-near board (Script line fault) crew r0 r1 w0 w1 runs = absurd runs.is
run-near board result crew r0 r1 w0 w1 runs = tt

-- The reported line is the one near which reading stopped.
pub fault-near : (result : CrewRun) (line : ℕ) (fault : ScriptFault) (r0 r1 w0 w1 : Option (List ℕ))
    → Writes (Refusal line fault) result w0 w1 → ReadsNear line r0 r1 → StopsNear result r0 r1
fault-near (Script l f) line fault r0 r1 w0 w1 refuses near = subst (λ n. ReadsNear n r0 r1) (sym refuses.is.0) near
fault-near result line fault r0 r1 w0 w1 refuses near = tt
