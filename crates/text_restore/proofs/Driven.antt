-- What a drive over the lines of an image determines about the text.
use Rattle.std.proofs.Common.{◌≡◌, ℕ, ◌+◌, ◌<◌, ◌≤◌, List, [], ◌∷◌, ◌++◌, length, append-nil, Option, Some, None, refl, sym, ap, subst, ◌∙◌, arith}
use Rattle.std.specs.Option.{IfSome}
use Rattle.text_base.specs.Lines.{lines_of, rest_of}
use Rattle.text_driver.specs.Judging.{AreGoodLines as LinesFollow}
use Rattle.text_driver.specs.Driving.{next_of, NextLine, Stops, Drives}
use Rattle.text_driver.specs.declared.driving.End.{End}
use Rattle.text_driver.specs.declared.driving.End.TheVariants as ends
use Rattle.synic_board.specs.State.{State}
use Rattle.text_restore.specs.Restoring.{Stage, Untitled, IsComplete}
use Rattle.text_restore.specs.Images.{Leads, IsImage, IsStuck, FirstWrong, EndsRestore}
use Rattle.text_restore.specs.declared.restoring.RestoreEnd.{RestoreEnd}
use Rattle.text_restore.specs.declared.restoring.RestoreEnd.TheVariants as results
use Rattle.text_restore.specs.Taking.{IsGood, IsWrong}
use Rattle.text_restore.specs.inside.Concluding.{Concludes, Finishes}

-- the line at which a drive ended
abbrev IsAt : End (Unit {0}) → ℕ → Type 0
IsAt (ends.Wrong line fault) k = line ≡ k
IsAt (ends.Long line) k = line ≡ k
IsAt (ends.Cut line) k = line ≡ k
IsAt end k = ⊥

long-stuck : (stage : Stage) (left : List (List ℕ)) (rest : List ℕ) → 640 < length (next_of left rest)
    → IsStuck stage left rest
long-stuck stage [] rest long = λ s complete none. let empty = ap length none in omega (arith, long, empty)
long-stuck stage (line ∷ left) rest long = λ next short follows. omega (arith, long, short)

cut-stuck : (stage : Stage) (left : List (List ℕ)) (rest : List ℕ) → left ≡ [] → 0 < length rest
    → IsStuck stage left rest
cut-stuck stage [] rest e some = λ s complete none. let empty = ap length none in omega (arith, some, empty)
cut-stuck stage (line ∷ left) rest e some = cc

missing-stuck : (stage : Stage) (left : List (List ℕ)) (rest : List ℕ) → left ≡ []
    → ((s : State) → IsComplete stage s → ⊥) → IsStuck stage left rest
missing-stuck stage [] rest e incomplete = λ s complete none. incomplete s complete
missing-stuck stage (line ∷ left) rest e incomplete = cc

at-wrong : (stage : Stage) (line n : ℕ) (fault : Unit {0}) (left : List (List ℕ)) (rest : List ℕ)
    → NextLine left (λ bad. (line ≡ n) × (length bad ≤ 640) × IsWrong stage bad fault) →
    (line ≡ n) × IsStuck stage left rest
at-wrong stage line n fault [] rest e = absurd e
at-wrong stage line n fault (bad ∷ left) rest e = (e.0, λ next short follows. e.2 next follows)

some-on : (r : Option (List ℕ)) (P Q : List ℕ → Type 0) → ((text : List ℕ) → P text → Q text) → IfSome r P → IfSome r Q
some-on None P Q f h = tt
some-on (Some text) P Q f h = f text h

module _ {J : Type 0} (seen : J → Stage) where
  abbrev Good : J → List ℕ → List ℕ → J → Type 0
  Good old line answer new = IsGood (seen old) line answer (seen new)

  abbrev Wrong : J → List ℕ → Unit {0} → Type 0
  Wrong state line fault = IsWrong (seen state) line fault

  leads : (old new : J) (lines : List (List ℕ)) (answers : List ℕ) → LinesFollow Good old lines answers new
      → Leads (seen old) lines (seen new)
  leads old new [] answers h = ap seen h.1
  leads old new (line ∷ lines) answers h = (seen h.2, h.3, h.4.0, leads h.2 new lines h.1 h.5)

module _ {J : Type 0} (seen : J → Stage) (old new : J) (start : seen old ≡ Untitled) where
  abbrev Ended : End (Unit {0}) → List ℕ → List ℕ → Type 0
  Ended end answers text = Stops (Good seen) (Wrong seen) end old new answers text

  led : (end : End (Unit {0})) (answers text : List ℕ) (h : Ended end answers text)
      → Leads Untitled h.lines (seen h.state)
  led end answers text h =
      subst (λ (s : Stage). Leads s h.lines (seen h.state)) start (leads seen old h.state h.lines answers h.follows)

  wrong-at : (end : End (Unit {0})) (k : ℕ) (answers text : List ℕ) (h : Ended end answers text)
      → k ≡ length h.lines + 1 → IsStuck (seen h.state) h.left (rest_of text) → FirstWrong text k
  wrong-at end k answers text h number stuck =
      record {
        lines = h.lines;
        left = h.left;
        stage = seen h.state;
        split = h.split;
        number = number;
        leads = led end answers text h;
        stuck = stuck;
      }

  at-line : (end : End (Unit {0})) (k : ℕ) (answers text : List ℕ) → IsAt end k → Ended end answers text
      → FirstWrong text k
  at-line (ends.Wrong line fault) k answers text is h =
      let at = at-wrong (seen h.state) line (length h.lines + 1) fault h.left (rest_of text) h.ends in
      wrong-at (ends.Wrong line fault) k answers text h (sym is ∙ at.0) at.1
  at-line (ends.Long line) k answers text is h =
      wrong-at (ends.Long line) k answers text h (sym is ∙ h.ends.0)
      (long-stuck (seen h.state) h.left (rest_of text) h.ends.2)
  at-line (ends.Cut line) k answers text is h =
      wrong-at (ends.Cut line) k answers text h (sym is ∙ h.ends.0)
      (cut-stuck (seen h.state) h.left (rest_of text) h.ends.2 h.ends.3)
  at-line end k answers text is h = absurd is

  missing : (line : ℕ) (answers text : List ℕ) → ((s : State) → IsComplete (seen new) s → ⊥)
      → Ended (ends.Last line) answers text → FirstWrong text line
  missing line answers text incomplete h =
      wrong-at (ends.Last line) line answers text h h.ends.0
      (missing-stuck (seen h.state) h.left (rest_of text) h.ends.2
      (λ s complete. incomplete s (subst (λ (x : Stage). IsComplete x s) (sym (ap seen h.ends.1)) complete)))

  whole : (line : ℕ) (answers text : List ℕ) (s : State) → IsComplete (seen new) s
      → Ended (ends.Last line) answers text → IsImage text s
  whole line answers text s complete h =
      let all : h.lines ≡ lines_of text =
      sym (h.split ∙ ap (λ (x : List (List ℕ)). h.lines ++ x) h.ends.2 ∙ append-nil h.lines) in
      record {
        stage = seen h.state;
        leads = subst (λ (ls : List (List ℕ)). Leads Untitled ls (seen h.state)) all
            (led (ends.Last line) answers text h);
        complete = subst (λ (x : Stage). IsComplete x s) (ap seen h.ends.1) complete;
        whole = h.ends.3;
      }

  at-last : (line : ℕ) (result : RestoreEnd) (answers text : List ℕ) → Finishes line (seen new) result
      → Ended (ends.Last line) answers text → EndsRestore result text
  at-last line (results.Restored board) answers text says h = whole line answers text board.state says h
  at-last line (results.Refused k) answers text says h =
      subst (λ (n : ℕ). FirstWrong text n) (sym says.0) (missing line answers text says.1 h)
  at-last line results.Memory answers text says h = absurd says
  at-last line results.Reading answers text says h = absurd says

  concluded : (end : End (Unit {0})) (result : RestoreEnd) (answers text : List ℕ) → Concludes end (seen new) result
      → Ended end answers text → EndsRestore result text
  concluded (ends.Last line) result answers text says h = at-last line result answers text says h
  concluded (ends.Wrong line fault) result answers text says h =
      subst (λ (r : RestoreEnd). EndsRestore r text) (sym says)
      (at-line (ends.Wrong line fault) line answers text refl h)
  concluded (ends.Long line) result answers text says h =
      subst (λ (r : RestoreEnd). EndsRestore r text) (sym says) (at-line (ends.Long line) line answers text refl h)
  concluded (ends.Cut line) result answers text says h =
      subst (λ (r : RestoreEnd). EndsRestore r text) (sym says) (at-line (ends.Cut line) line answers text refl h)
  concluded ends.Memory result answers text says h = subst (λ (r : RestoreEnd). EndsRestore r text) (sym says) tt
  concluded ends.Reading result answers text says h = subst (λ (r : RestoreEnd). EndsRestore r text) (sym says) tt
  concluded ends.Writing result answers text says h = subst (λ (r : RestoreEnd). EndsRestore r text) (sym says) tt

  -- the result of a restore says of the whole input what it is to say
  pub restored : (end : End (Unit {0})) (result : RestoreEnd) (r0 r1 w0 w1 : Option (List ℕ))
      → Concludes end (seen new) result → Drives (Good seen) (Wrong seen) end old new r0 r1 w0 w1 →
      IfSome r0 (EndsRestore result)
  restored end result r0 r1 w0 w1 says d =
      some-on r0 (Ended end d.answers) (EndsRestore result)
      (λ text h. concluded end result d.answers text says h) d.whole
