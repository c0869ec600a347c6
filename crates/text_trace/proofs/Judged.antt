-- What a drive over the lines of a trace determines about the text.
use Rattle.std.proofs.Common.{◌≡◌, ◌⊎◌, inl, inr, ℕ, ◌+◌, ◌<◌, List, [], ◌∷◌, ◌++◌, length, length-append, take, append_assoc, append-nil, Option, Some, None, refl, sym, ap, subst, ◌∙◌, arith}
use Rattle.std.proofs.Math.Seq.{take-append_seam, take-append-add}
use Rattle.std.specs.Io.KnownBytes.{Appends}
use Rattle.std.proofs.KnownBytes.{Appends-trans}
use Rattle.std.specs.Option.{IfSome}
use Rattle.text_base.specs.Lines.{IsOneLine, lines_of, rest_of, joined}
use Rattle.text_base.proofs.LineLemmas.{AreLines, lines-front, lines-behind, joined-append, joined-snoc, cut}
use Rattle.text_driver.specs.Judging.{AreGoodLines}
use Rattle.text_driver.specs.Driving.{next_of, place, Ends, Stops, Sends, Drives}
use Rattle.text_driver.specs.declared.driving.End.{End}
use Rattle.text_driver.specs.declared.driving.End.TheVariants as ends
use Rattle.text_history.specs.Trace.{IsTrace, Begins}
use Rattle.text_trace.specs.inside.Stages.{Stage, Title, Over, IsOver, IsGood, IsWrong}
use Rattle.text_trace.specs.Verdicts.{FirstIllegal, IsVerdict, verdict_text, Checks}
use Rattle.text_trace.specs.inside.Concluding.{conclusion, Concludes, WritesVerdict}
use Rattle.text_trace.specs.declared.check.Verdict.{Verdict}
use Rattle.text_trace.specs.declared.check.Verdict.TheVariants as verdicts
use Rattle.text_trace.specs.declared.check.CheckEnd.{CheckEnd}
use Rattle.text_trace.specs.declared.check.CheckEnd.TheVariants.{Legal, Refused, Memory, Reading, Writing}
use Rattle.text_trace.proofs.StageLemmas.{Continues, Fits, first_line, back, forward, one-follow, not-both, reached, Starts, starts, alive}

-- A text that begins with these lines continues a trace from the old stage iff the rest of it does from the new one.
record Leads (old new : Stage) (lines : List (List ℕ)) : Type 0 where
  pub fits : Fits new
  pub must : (ys : List ℕ) (n : ℕ) → Continues old (joined lines ++ ys) n → Continues new ys n
  pub may : (ys : List ℕ) (n : ℕ) → Continues new ys n → Continues old (joined lines ++ ys) n

module _ {J : Type 0} (seen : J → Stage) where
  abbrev Good : J → List ℕ → List ℕ → J → Type 0
  Good old line answer new = IsGood (seen old) line answer (seen new)

  abbrev Wrong : J → List ℕ → Unit {0} → Type 0
  Wrong state line fault = IsWrong (seen state) line fault

  silent : (old new : J) (lines : List (List ℕ)) (answers : List ℕ) → AreGoodLines Good old lines answers new
      → answers ≡ []
  silent old new [] answers h = h.0
  silent old new (line ∷ lines) answers h = rw (h.6, h.4.1, silent h.2 new lines h.1 h.5) refl

  leads : (old new : J) (lines : List (List ℕ)) (answers : List ℕ) → Fits (seen old) → AreLines lines
      → AreGoodLines Good old lines answers new → Leads (seen old) (seen new) lines
  leads old new [] answers fits each h =
      let same = ap seen h.1 in
      record {
        fits = subst Fits (sym same) fits;
        must = λ ys n k. subst (λ (s : Stage). Continues s ys n) (sym same) k;
        may = λ ys n k. subst (λ (s : Stage). Continues s ys n) same k;
      }
  leads old new (line ∷ lines) answers fits each h =
      let next = seen h.2 in
      let w = leads h.2 new lines h.1 ((reached (seen old) next line h.4.0).fits fits) each.1 h.5 in
      let over : (ys : List ℕ) → joined (line ∷ lines) ++ ys ≡ line ++ 10 ∷ (joined lines ++ ys) =
      λ ys. append_assoc line (10 ∷ joined lines) ys in
      record {
        fits = w.fits;
        must = λ ys n k.
            let f = back (seen old) line (joined lines ++ ys) n fits each.0
            (subst (λ (x : List ℕ). Continues (seen old) x n) (over ys) k) in
            w.must ys n (subst (λ (s : Stage). Continues s (joined lines ++ ys) n)
            (one-follow (seen old) line f.next next f.is h.4.0) f.on);
        may = λ ys n k. subst (λ (x : List ℕ). Continues (seen old) x n) (sym (over ys))
            (forward (seen old) next line (joined lines ++ ys) n each.0 h.3 h.4.0 (w.may ys n k));
      }

-- The lines lead to a stage from which the rest continues no trace.
first-wrong : (text : List ℕ) (lines left : List (List ℕ)) (stage : Stage) → lines_of text ≡ lines ++ left
    → Leads Title stage lines →
    ((line : List ℕ) (later : List (List ℕ)) (rest : List ℕ) (n : ℕ) → left ≡ line ∷ later
    → Continues stage (line ++ 10 ∷ rest) n → ⊥) →
    ((n : ℕ) → Continues stage (joined left ++ rest_of text) n → ⊥) → FirstIllegal text (length lines + 1)
first-wrong text lines left stage split leads wrong none = record {
  before = length lines;
  number = refl;
  there = rw split (omega (arith, length-append lines left));
  good = rw (split, take-append_seam lines left)
      (let a = alive stage leads.fits in
      record { rest = a.rest; entries = a.entries; whole = leads.may a.rest a.entries a.on });
  wrong = rw split (λ within b.
      by left refl (subst (λ (x : List (List ℕ)). Begins (joined x)) (take-append-add lines left 1) b)
      (omega (arith, within, length-append lines left)));
  none = λ n t. none n (leads.must (joined left ++ rest_of text) n (subst (λ (x : List ℕ). IsTrace x n) whole t));
}
  where
    by : (ls : List (List ℕ)) → left ≡ ls → Begins (joined (lines ++ take 1 ls)) → 0 < length ls → ⊥
    by [] is b some = absurd (omega arith)
    by (l ∷ ls) is b some =
        wrong l ls b.rest b.entries is
        (leads.must (l ++ 10 ∷ b.rest) b.entries
        (subst (λ (x : List ℕ). IsTrace x b.entries) (joined-snoc lines l b.rest) b.whole))

    whole : text ≡ joined lines ++ (joined left ++ rest_of text)
    whole = (cut text).whole ∙ ap (λ (x : List ℕ). x ++ rest_of text) (ap joined split ∙ joined-append lines left)
        ∙ append_assoc (joined lines) (joined left) (rest_of text)

no_feed : (line l rest : List ℕ) → IsOneLine line → line ≡ l ++ 10 ∷ rest → ⊥
no_feed [] [] rest h e = cc
no_feed [] (x ∷ l) rest h e = cc
no_feed (y ∷ line) [] rest h e = let is : y ≡ 10 = cc in h.0 is
no_feed (y ∷ line) (x ∷ l) rest h e = let t : line ≡ l ++ 10 ∷ rest = cc in no_feed line l rest h.1 t

-- A part of a line continues no trace.
no_part : (stage : Stage) (part : List ℕ) (n : ℕ) → Fits stage → IsOneLine part
    → ((n : ℕ) → stage ≡ Over n → part ≡ [] → ⊥) → Continues stage part n → ⊥
no_part stage part n fits one still h = by (starts stage part n fits h)
  where
    by : ((stage ≡ Over n) × (part ≡ [])) ⊎ Starts part → ⊥
    by (inl e) = still n e.0 e.1
    by (inr s) = no_feed part s.line s.rest one s.text

-- A line that is too long continues none either.
no_long : (stage : Stage) (line rest : List ℕ) (n : ℕ) → Fits stage → IsOneLine line → 640 < length line
    → Continues stage (line ++ 10 ∷ rest) n → ⊥
no_long stage line rest n fits one long h = by (starts stage (line ++ 10 ∷ rest) n fits h)
  where
    by : ((stage ≡ Over n) × (line ++ 10 ∷ rest ≡ [])) ⊎ Starts (line ++ 10 ∷ rest) → ⊥
    by (inl e) = let none = ap length e.1 in omega (arith, length-append line (10 ∷ rest), none)
    by (inr s) =
        let same = ap length (first_line line rest s.line s.rest one s.one s.text).0 in omega (arith, s.short, same)

-- The next line is not allowed there.
wrong-line : (text : List ℕ) (lines left : List (List ℕ)) (stage : Stage) (k : ℕ) (fault : Unit {0})
    → lines_of text ≡ lines ++ left → Leads Title stage lines →
    AreLines left → Ends IsWrong (ends.Wrong k fault) (place (length lines + 1) stage left (rest_of text)) stage
    → FirstIllegal text (length lines + 1)
wrong-line text lines [] stage k fault split leads each h = absurd h
wrong-line text lines (bad ∷ later) stage k fault split leads each h =
    first-wrong text lines (bad ∷ later) stage split leads
    (λ line ls rest n is t. let same : line ≡ bad = cc in
    off rest n (subst (λ (x : List ℕ). Continues stage (x ++ 10 ∷ rest) n) same t))
    (λ n t. off (joined later ++ rest_of text) n
    (subst (λ (x : List ℕ). Continues stage x n) (append_assoc bad (10 ∷ joined later) (rest_of text)) t))
  where
    off : (rest : List ℕ) (n : ℕ) → Continues stage (bad ++ 10 ∷ rest) n → ⊥
    off rest n t = let f = back stage bad rest n leads.fits each.0 t in not-both stage bad fault f.next h.2 f.is

-- The next line is too long.
long-line : (text : List ℕ) (lines left : List (List ℕ)) (stage : Stage) → lines_of text ≡ lines ++ left
    → Leads Title stage lines → AreLines left →
    IsOneLine (rest_of text) → 640 < length (next_of left (rest_of text)) → FirstIllegal text (length lines + 1)
long-line text lines [] stage split leads each one long =
    first-wrong text lines [] stage split leads (λ line ls rest n is t. cc)
    (λ n t. no_part stage (rest_of text) n leads.fits one
    (λ m over empty. let none = ap length empty in omega (arith, long, none)) t)
long-line text lines (bad ∷ later) stage split leads each one long =
    first-wrong text lines (bad ∷ later) stage split leads
    (λ line ls rest n is t. let same : line ≡ bad = cc in
    no_long stage bad rest n leads.fits each.0 long
    (subst (λ (x : List ℕ). Continues stage (x ++ 10 ∷ rest) n) same t))
    (λ n t. no_long stage bad (joined later ++ rest_of text) n leads.fits each.0 long
    (subst (λ (x : List ℕ). Continues stage x n) (append_assoc bad (10 ∷ joined later) (rest_of text)) t))

-- No whole line is left, and the trace is not complete.
part-left : (text : List ℕ) (lines left : List (List ℕ)) (stage : Stage) → lines_of text ≡ lines ++ left
    → Leads Title stage lines → left ≡ [] →
    IsOneLine (rest_of text) → ((n : ℕ) → stage ≡ Over n → rest_of text ≡ [] → ⊥) → FirstIllegal text (length lines + 1)
part-left text lines left stage split leads none one still =
    first-wrong text lines left stage split leads
    (λ line ls rest n is t. let off : [] ≡ line ∷ ls = sym none ∙ is in cc)
    (λ n t. no_part stage (rest_of text) n leads.fits one still
    (subst (λ (x : List (List ℕ)). Continues stage (joined x ++ rest_of text) n) none t))

-- the line at which a drive ended
abbrev IsAt : End (Unit {0}) → ℕ → Type 0
IsAt (ends.Wrong line fault) k = line ≡ k
IsAt (ends.Long line) k = line ≡ k
IsAt (ends.Cut line) k = line ≡ k
IsAt end k = ⊥

some-on : (r : Option (List ℕ)) (P Q : List ℕ → Type 0) → ((text : List ℕ) → P text → Q text) → IfSome r P → IfSome r Q
some-on None P Q f h = tt
some-on (Some text) P Q f h = f text h

nothing-sent : (end : End (Unit {0})) (answers sent : List ℕ) → answers ≡ [] → Sends end answers sent → sent ≡ []
nothing-sent ends.Writing answers [] none h = refl
nothing-sent ends.Writing answers (b ∷ sent) none h = let off : [] ≡ b ∷ (sent ++ h.0) = sym none ∙ h.1 in cc
nothing-sent end answers sent none h = sym h ∙ none

-- A verdict that was reached is written.
checks-said : (end : CheckEnd) (verdict : Verdict) (r0 w0 w w1 : Option (List ℕ)) → IfSome r0 (IsVerdict verdict)
    → Appends w0 w [] → WritesVerdict end verdict w w1 → Checks end r0 w0 w1
checks-said (Legal n) verdict r0 w0 w w1 is silent says = (
  subst (λ (v : Verdict). IfSome r0 (IsVerdict v)) says.0 is,
  subst (λ (v : Verdict). Appends w0 w1 (verdict_text v)) says.0
      (Appends-trans w0 w w1 [] (verdict_text verdict) silent says.1),
)
checks-said (Refused k) verdict r0 w0 w w1 is silent says = (
  subst (λ (v : Verdict). IfSome r0 (IsVerdict v)) says.0 is,
  subst (λ (v : Verdict). Appends w0 w1 (verdict_text v)) says.0
      (Appends-trans w0 w w1 [] (verdict_text verdict) silent says.1),
)
checks-said Memory verdict r0 w0 w w1 is silent says = rw says silent
checks-said Reading verdict r0 w0 w w1 is silent says = absurd says
checks-said Writing verdict r0 w0 w w1 is silent says =
    record {
      sent = says.0;
      writes = Appends-trans w0 w w1 [] says.0 silent says.2;
      begins = inr (verdict, says.1, is, says.3);
    }

module _ {J : Type 0} (seen : J → Stage) (old new : J) (start : seen old ≡ Title) where
  abbrev Ended : End (Unit {0}) → List ℕ → List ℕ → Type 0
  Ended end answers text = Stops (Good seen) (Wrong seen) end old new answers text

  abbrev Driven : End (Unit {0}) → Option (List ℕ) → Option (List ℕ) → Option (List ℕ) → Option (List ℕ) → Type 0
  Driven end r0 r1 w0 w1 = Drives (Good seen) (Wrong seen) end old new r0 r1 w0 w1

  led : (end : End (Unit {0})) (answers text : List ℕ) (h : Ended end answers text) → Leads Title (seen h.state) h.lines
  led end answers text h =
      let each = lines-front h.lines h.left (subst AreLines h.split (cut text).each) in
      subst (λ (s : Stage). Leads s (seen h.state) h.lines) start
      (leads seen old h.state h.lines answers (subst Fits (sym start) tt) each h.follows)

  refused : (end : End (Unit {0})) (k : ℕ) (answers text : List ℕ) → IsAt end k → Ended end answers text
      → FirstIllegal text k
  refused (ends.Wrong line fault) k answers text is h =
      let each = lines-behind h.lines h.left (subst AreLines h.split (cut text).each) in
      at_line h.left h.ends (λ e.
      wrong-line text h.lines h.left (seen h.state) line fault h.split
      (led (ends.Wrong line fault) answers text h) each e)
    where
      at_line : (left : List (List ℕ))
          → Ends (Wrong seen) (ends.Wrong line fault) (place (length h.lines + 1) h.state left (rest_of text)) new →
          (Ends IsWrong (ends.Wrong line fault) (place (length h.lines + 1) (seen h.state) left (rest_of text))
          (seen h.state) → FirstIllegal text (length h.lines + 1)) → FirstIllegal text k
      at_line [] e f = absurd e
      at_line (bad ∷ later) e f = subst (λ (n : ℕ). FirstIllegal text n) (sym e.0 ∙ is) (f e)
  refused (ends.Long line) k answers text is h =
      let each = lines-behind h.lines h.left (subst AreLines h.split (cut text).each) in
      subst (λ (n : ℕ). FirstIllegal text n) (sym h.ends.0 ∙ is)
      (long-line text h.lines h.left (seen h.state) h.split (led (ends.Long line) answers text h) each
      (cut text).one h.ends.2)
  refused (ends.Cut line) k answers text is h =
      let some = h.ends.3 in
      subst (λ (n : ℕ). FirstIllegal text n) (sym h.ends.0 ∙ is)
      (part-left text h.lines h.left (seen h.state) h.split (led (ends.Cut line) answers text h) h.ends.2
      (cut text).one (λ n over empty. let none = ap length empty in omega (arith, some, none)))
  refused end k answers text is h = absurd is

  unfinished : (line : ℕ) (answers text : List ℕ) → ((n : ℕ) → seen new ≡ Over n → ⊥)
      → Ended (ends.Last line) answers text → FirstIllegal text line
  unfinished line answers text still h =
      subst (λ (n : ℕ). FirstIllegal text n) (sym h.ends.0)
      (part-left text h.lines h.left (seen h.state) h.split (led (ends.Last line) answers text h) h.ends.2
      (cut text).one (λ n over empty. still n (ap seen h.ends.1 ∙ over)))

  finished : (line n : ℕ) (answers text : List ℕ) → seen new ≡ Over n → Ended (ends.Last line) answers text
      → IsTrace text n
  finished line n answers text over h =
      let stage : Over n ≡ seen h.state = sym over ∙ ap seen h.ends.1 in
      let whole : joined h.lines ++ [] ≡ text =
      sym ((cut text).whole ∙ ap (λ (x : List ℕ). joined (lines_of text) ++ x) h.ends.3
      ∙ ap (λ (x : List (List ℕ)). joined x ++ [])
      (h.split ∙ ap (λ (x : List (List ℕ)). h.lines ++ x) h.ends.2 ∙ append-nil h.lines)) in
      subst (λ (x : List ℕ). IsTrace x n) whole
      ((led (ends.Last line) answers text h).may [] n (subst (λ (s : Stage). Continues s [] n) stage (refl, refl)))

  -- A drive over the lines of a trace writes nothing.
  quiet : (end : End (Unit {0})) (r0 r1 w0 w1 : Option (List ℕ)) → Driven end r0 r1 w0 w1 → Appends w0 w1 []
  quiet end r0 r1 w0 w1 d =
      subst (λ (x : List ℕ). Appends w0 w1 x)
      (nothing-sent end d.answers d.sent (silent seen old d.read.state d.read.lines d.answers d.read.follows) d.sends)
      d.writes

  refused-said : (end : End (Unit {0})) (result : CheckEnd) (k : ℕ) (r0 r1 w0 w w1 : Option (List ℕ)) → IsAt end k
      → Driven end r0 r1 w0 w →
      WritesVerdict result (verdicts.Refused k) w w1 → Checks result r0 w0 w1
  refused-said end result k r0 r1 w0 w w1 is d says = checks-said result (verdicts.Refused k) r0 w0 w w1
      (some-on r0 (Ended end d.answers) (λ text. FirstIllegal text k)
      (λ text h. refused end k d.answers text is h) d.whole) (quiet end r0 r1 w0 w d) says

  unfinished-said : (result : CheckEnd) (line : ℕ) (r0 r1 w0 w w1 : Option (List ℕ))
      → ((n : ℕ) → seen new ≡ Over n → ⊥) → Driven (ends.Last line) r0 r1 w0 w →
      WritesVerdict result (verdicts.Refused line) w w1 → Checks result r0 w0 w1
  unfinished-said result line r0 r1 w0 w w1 still d says = checks-said result (verdicts.Refused line) r0 w0 w w1
      (some-on r0 (Ended (ends.Last line) d.answers) (λ text. FirstIllegal text line)
      (λ text h. unfinished line d.answers text still h) d.whole) (quiet (ends.Last line) r0 r1 w0 w d) says

  finished-said : (result : CheckEnd) (line n : ℕ) (r0 r1 w0 w w1 : Option (List ℕ)) → seen new ≡ Over n
      → Driven (ends.Last line) r0 r1 w0 w →
      WritesVerdict result (verdicts.Legal n) w w1 → Checks result r0 w0 w1
  finished-said result line n r0 r1 w0 w w1 over d says = checks-said result (verdicts.Legal n) r0 w0 w w1
      (some-on r0 (Ended (ends.Last line) d.answers) (λ text. IsTrace text n)
      (λ text h. finished line n d.answers text over h) d.whole) (quiet (ends.Last line) r0 r1 w0 w d) says

  -- A drive, and what is written after it.
  pub checks-concluded : (end : End (Unit {0})) (entries : Option ℕ) (result : CheckEnd)
      (r0 r1 w0 w w1 : Option (List ℕ)) → IsOver entries (seen new) →
      Driven end r0 r1 w0 w → Concludes (conclusion end entries) result w w1 → Checks result r0 w0 w1
  checks-concluded (ends.Last line) (Some n) result r0 r1 w0 w w1 over d says =
      finished-said result line n r0 r1 w0 w w1 over d says
  checks-concluded (ends.Last line) None result r0 r1 w0 w w1 still d says =
      unfinished-said result line r0 r1 w0 w w1 still d says
  checks-concluded (ends.Wrong line fault) entries result r0 r1 w0 w w1 over d says =
      refused-said (ends.Wrong line fault) result line r0 r1 w0 w w1 refl d says
  checks-concluded (ends.Long line) entries result r0 r1 w0 w w1 over d says =
      refused-said (ends.Long line) result line r0 r1 w0 w w1 refl d says
  checks-concluded (ends.Cut line) entries result r0 r1 w0 w w1 over d says =
      refused-said (ends.Cut line) result line r0 r1 w0 w w1 refl d says
  checks-concluded ends.Memory entries result r0 r1 w0 w w1 over d is = rw (is.0, is.1) (quiet ends.Memory r0 r1 w0 w d)
  checks-concluded ends.Reading entries result r0 r1 w0 w w1 over d is =
      rw (is.0, is.1) (quiet ends.Reading r0 r1 w0 w d)
  checks-concluded ends.Writing entries result r0 r1 w0 w w1 over d is =
      rw (is.0, is.1) (record { sent = []; writes = quiet ends.Writing r0 r1 w0 w d; begins = inl refl })
