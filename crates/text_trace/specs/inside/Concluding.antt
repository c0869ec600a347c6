-- The verdict that is written when reading ends.
use Rattle.std.specs.Prelude.{◌≡◌, ℕ, List, ◌++◌, Option, None, Some, Result, Ok, Err}
use Rattle.std.specs.Io.KnownBytes.{Appends}
use Rattle.text_driver.specs.declared.driving.End.{End}
use Rattle.text_driver.specs.declared.driving.End.TheVariants as ends
use Rattle.text_trace.specs.declared.check.Verdict.{Verdict}
use Rattle.text_trace.specs.declared.check.Verdict.TheVariants as verdicts
use Rattle.text_trace.specs.declared.check.CheckEnd.{CheckEnd}
use Rattle.text_trace.specs.declared.check.CheckEnd.TheVariants.{Legal, Refused, Memory, Reading, Writing}
use Rattle.text_trace.specs.Verdicts.{verdict_text}

-- the verdict was written, or a prefix of it
abbrev pub WritesVerdict : CheckEnd → Verdict → Option (List ℕ) → Option (List ℕ) → Type 0
WritesVerdict (Legal n) verdict w0 w1 = (verdict ≡ verdicts.Legal n) × Appends w0 w1 (verdict_text verdict)
WritesVerdict (Refused k) verdict w0 w1 = (verdict ≡ verdicts.Refused k) × Appends w0 w1 (verdict_text verdict)
WritesVerdict Memory verdict w0 w1 = w1 ≡ w0
WritesVerdict Reading verdict w0 w1 = ⊥
WritesVerdict Writing verdict w0 w1 = (sent rest : List ℕ) × Appends w0 w1 sent × (verdict_text verdict ≡ sent ++ rest)

-- the verdict when reading ends so, given the number of entries if the trace is complete; or the end without a verdict
abbrev pub conclusion : End (Unit {0}) → Option ℕ → Result Verdict CheckEnd
conclusion (ends.Last line) (Some n) = Ok (verdicts.Legal n)
conclusion (ends.Last line) None = Ok (verdicts.Refused line)
conclusion (ends.Wrong line fault) entries = Ok (verdicts.Refused line)
conclusion (ends.Long line) entries = Ok (verdicts.Refused line)
conclusion (ends.Cut line) entries = Ok (verdicts.Refused line)
conclusion ends.Memory entries = Err Memory
conclusion ends.Reading entries = Err Reading
conclusion ends.Writing entries = Err Writing

-- the verdict was written, or nothing was
abbrev pub Concludes : Result Verdict CheckEnd → CheckEnd → Option (List ℕ) → Option (List ℕ) → Type 0
Concludes (Ok verdict) result w0 w1 = WritesVerdict result verdict w0 w1
Concludes (Err end) result w0 w1 = (result ≡ end) × (w1 ≡ w0)
