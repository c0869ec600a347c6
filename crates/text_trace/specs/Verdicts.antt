-- The verdict of a check on a text.
use Rattle.std.specs.Prelude.{◌≡◌, ◌⊎◌, ℕ, ◌+◌, ◌≤◌, ◌<◌, List, [], ◌∷◌, ◌++◌, length, take, codes, decimal, Option, IfSome}
use Rattle.std.specs.Io.KnownBytes.{Appends}
use Rattle.text_base.specs.Lines.{lines_of, joined}
use Rattle.text_base.specs.Fields.{line_of}
use Rattle.text_driver.specs.Driving.{ReadsNear}
use Rattle.text_history.specs.Trace.{IsTrace, Begins}
use Rattle.text_trace.specs.declared.check.Verdict.{Verdict}
use Rattle.text_trace.specs.declared.check.Verdict.TheVariants as verdicts
use Rattle.text_trace.specs.declared.check.CheckEnd.{CheckEnd}
use Rattle.text_trace.specs.declared.check.CheckEnd.TheVariants.{Legal, Refused, Memory, Reading, Writing}

-- the first n whole lines of a text, with their line feeds
abbrev pub first_lines : ℕ → List ℕ → List ℕ
first_lines n text = joined (take n (lines_of text))

-- Line k is the first wrong line of a text that is no trace: the lines before it begin a legal trace, and with it
-- they begin none. If the text
-- has no whole line k, it ends too early, in the middle of line k or before it.
pub record FirstIllegal (text : List ℕ) (k : ℕ) : Type 0 where
  pub before : ℕ
  pub number : k ≡ before + 1
  pub there : before ≤ length (lines_of text)
  pub good : Begins (first_lines before text)
  pub wrong : before < length (lines_of text) → Begins (first_lines (before + 1) text) → ⊥
  pub none : (n : ℕ) → IsTrace text n → ⊥

-- the text has this verdict
abbrev pub IsVerdict : Verdict → List ℕ → Type 0
IsVerdict (verdicts.Legal n) text = IsTrace text n
IsVerdict (verdicts.Refused k) text = FirstIllegal text k

abbrev pub verdict_text : Verdict → List ℕ
verdict_text (verdicts.Legal n) = line_of (codes "legal" ∷ decimal n ∷ [])
verdict_text (verdicts.Refused k) = line_of (codes "refused" ∷ decimal k ∷ [])

-- Nothing was written, or a prefix of the text's verdict.
pub record BegunVerdict (r0 w0 w1 : Option (List ℕ)) : Type 0 where
  pub sent : List ℕ
  pub writes : Appends w0 w1 sent
  pub begins : (sent ≡ [])
      ⊎ ((verdict : Verdict) × (rest : List ℕ) × IfSome r0 (IsVerdict verdict) × (verdict_text verdict ≡ sent ++ rest))

-- the reader before, and the writer before and after
abbrev pub Checks : CheckEnd → Option (List ℕ) → Option (List ℕ) → Option (List ℕ) → Type 0
Checks (Legal n) r0 w0 w1 = IfSome r0 (IsVerdict (verdicts.Legal n)) × Appends w0 w1 (verdict_text (verdicts.Legal n))
Checks (Refused k) r0 w0 w1 =
    IfSome r0 (IsVerdict (verdicts.Refused k)) × Appends w0 w1 (verdict_text (verdicts.Refused k))
Checks Memory r0 w0 w1 = Appends w0 w1 []
Checks Reading r0 w0 w1 = Appends w0 w1 []
Checks Writing r0 w0 w1 = BegunVerdict r0 w0 w1

-- the greatest number of bytes read: the byte beyond the limit only if reading ends there
abbrev pub most_read : CheckEnd → ℕ
most_read Reading = 1073741825
most_read end = 1073741824

-- after the first wrong line at most one block was read
abbrev pub StopsNear : CheckEnd → Option (List ℕ) → Option (List ℕ) → Type 0
StopsNear (Refused k) r0 r1 = ReadsNear k r0 r1
StopsNear end r0 r1 = Unit {0}
