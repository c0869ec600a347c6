-- The greatest number of bytes read.
use Rattle.std.proofs.Common.{◌≡◌, ℕ, List, Option, None, Some, refl, sym, subst}
use Rattle.text_base.specs.Streams.{ReadsUpTo}
use Rattle.text_driver.specs.Driving.{most_of, ReadsNear, StopsNear as DriveStopsNear}
use Rattle.text_driver.specs.declared.driving.End.{End}
use Rattle.text_driver.specs.declared.driving.End.TheVariants as ends
use Rattle.text_trace.specs.Verdicts.{most_read, StopsNear}
use Rattle.text_trace.specs.inside.Concluding.{conclusion, Concludes, WritesVerdict}
use Rattle.text_trace.specs.declared.check.Verdict.{Verdict}
use Rattle.text_trace.specs.declared.check.Verdict.TheVariants as verdicts
use Rattle.text_trace.specs.declared.check.CheckEnd.{CheckEnd}
use Rattle.text_trace.specs.declared.check.CheckEnd.TheVariants.{Legal, Refused, Memory, Reading, Writing}

said-within : (result : CheckEnd) (verdict : Verdict) (w0 w1 : Option (List ℕ)) → WritesVerdict result verdict w0 w1
    → most_read result ≡ 1073741824
said-within (Legal n) verdict w0 w1 says = refl
said-within (Refused k) verdict w0 w1 says = refl
said-within Memory verdict w0 w1 says = refl
said-within Reading verdict w0 w1 says = absurd says
said-within Writing verdict w0 w1 says = refl

-- If a verdict is written, the limit is not exceeded.
said-limit : (result : CheckEnd) (verdict : Verdict) (r0 r1 w0 w1 : Option (List ℕ))
    → WritesVerdict result verdict w0 w1 → ReadsUpTo 1073741824 r0 r1 → ReadsUpTo (most_read result) r0 r1
said-limit result verdict r0 r1 w0 w1 says =
    subst (λ n. ReadsUpTo n r0 r1) (sym (said-within result verdict w0 w1 says))

-- No wrong line is reported if the trace is legal.
legal-near : (result : CheckEnd) (n : ℕ) (r0 r1 w0 w1 : Option (List ℕ))
    → WritesVerdict result (verdicts.Legal n) w0 w1 → StopsNear result r0 r1
legal-near (Refused k) n r0 r1 w0 w1 says = let off = says.0 in cc
legal-near result n r0 r1 w0 w1 says = tt

-- The reported line is the one near which reading stopped.
refused-near : (result : CheckEnd) (k : ℕ) (r0 r1 w0 w1 : Option (List ℕ))
    → WritesVerdict result (verdicts.Refused k) w0 w1 → ReadsNear k r0 r1 → StopsNear result r0 r1
refused-near (Refused j) k r0 r1 w0 w1 says near =
    let is = says.0 in let same : k ≡ j = cc in subst (λ n. ReadsNear n r0 r1) same near
refused-near result k r0 r1 w0 w1 says near = tt

pub concluded-within : (end : End (Unit {0})) (entries : Option ℕ) (result : CheckEnd) (r0 r1 w0 w1 : Option (List ℕ)) →
    Concludes (conclusion end entries) result w0 w1 → ReadsUpTo (most_of end) r0 r1 → ReadsUpTo (most_read result) r0 r1
concluded-within (ends.Last line) (Some n) result r0 r1 w0 w1 says read =
    said-limit result (verdicts.Legal n) r0 r1 w0 w1 says read
concluded-within (ends.Last line) None result r0 r1 w0 w1 says read =
    said-limit result (verdicts.Refused line) r0 r1 w0 w1 says read
concluded-within (ends.Wrong line fault) entries result r0 r1 w0 w1 says read =
    said-limit result (verdicts.Refused line) r0 r1 w0 w1 says read
concluded-within (ends.Long line) entries result r0 r1 w0 w1 says read =
    said-limit result (verdicts.Refused line) r0 r1 w0 w1 says read
concluded-within (ends.Cut line) entries result r0 r1 w0 w1 says read =
    said-limit result (verdicts.Refused line) r0 r1 w0 w1 says read
concluded-within ends.Memory entries result r0 r1 w0 w1 is read = rw is.0 read
concluded-within ends.Reading entries result r0 r1 w0 w1 is read = rw is.0 read
concluded-within ends.Writing entries result r0 r1 w0 w1 is read = rw is.0 read

pub concluded-near : (end : End (Unit {0})) (entries : Option ℕ) (result : CheckEnd) (r0 r1 w0 w1 : Option (List ℕ))
    → Concludes (conclusion end entries) result w0 w1 →
    DriveStopsNear end r0 r1 → StopsNear result r0 r1
concluded-near (ends.Last line) (Some n) result r0 r1 w0 w1 says near = legal-near result n r0 r1 w0 w1 says
concluded-near (ends.Last line) None result r0 r1 w0 w1 says near = refused-near result line r0 r1 w0 w1 says near
concluded-near (ends.Wrong line fault) entries result r0 r1 w0 w1 says near =
    refused-near result line r0 r1 w0 w1 says near
concluded-near (ends.Long line) entries result r0 r1 w0 w1 says near = refused-near result line r0 r1 w0 w1 says near
concluded-near (ends.Cut line) entries result r0 r1 w0 w1 says near = refused-near result line r0 r1 w0 w1 says near
concluded-near ends.Memory entries result r0 r1 w0 w1 is near = rw is.0 tt
concluded-near ends.Reading entries result r0 r1 w0 w1 is near = rw is.0 tt
concluded-near ends.Writing entries result r0 r1 w0 w1 is near = rw is.0 tt
