-- From the end of a drive over the lines to the crew of the script.
use Rattle.std.proofs.Common.{◌≡◌, ℕ, ◌+◌, ◌<◌, ◌≤◌, List, [], ◌∷◌, ◌++◌, length, refl, sym, ap, ◌∙◌, arith, Bool, Option, None, Some, Ok, Err, le-ltb}
use Rattle.std.proofs.lemmas.Bool.Decides.{Decides-ltb}
use Rattle.text_base.specs.Lines.{rest_of}
use Rattle.text_driver.specs.Judging.{AreGoodLines}
use Rattle.text_driver.specs.Driving.{Stops, place, Ends, next_of}
use Rattle.text_driver.specs.declared.driving.End.{End}
use Rattle.text_driver.specs.declared.driving.End.TheVariants as ends
use Rattle.text_lines.specs.Faults.{rest_fault}
use Rattle.text_lines.specs.declared.fault.ScriptFault.{ScriptFault}
use Rattle.text_lines.specs.declared.fault.ScriptFault.TheVariants as faults
use Rattle.text_crew.specs.Crew.{Crew}
use Rattle.text_crew.specs.Reading.{Read, parse_line, at_rest, is_open, continue_with, parse_lines, parse_from}

module _ {J : Type 0} (seen : J → Option Crew) where
  abbrev pub Good : J → List ℕ → List ℕ → J → Type 0
  Good old line answer new = (answer ≡ []) × (parse_line (seen old) line ≡ Ok (seen new))

  abbrev Wrong : J → List ℕ → ScriptFault → Type 0
  Wrong state line fault = parse_line (seen state) line ≡ Err fault

  -- good lines have no answers, and lead to the next state
  followed : (old new : J) (lines left : List (List ℕ)) (answers rest : List ℕ) (k j : ℕ) → j ≡ k + length lines
      → AreGoodLines Good old lines answers new →
      (answers ≡ []) × (parse_lines k (seen old) (lines ++ left) rest ≡ parse_lines j (seen new) left rest)
  followed old new [] left answers rest k j count h =
      (h.0, let same : k ≡ j = omega (arith, count) in λ i. parse_lines (same i) (seen (sym h.1 i)) left rest)
  followed old new (line ∷ lines) left answers rest k j count h =
      let on = followed h.2 new lines left h.1 rest (k + 1) j (omega (arith, count)) h.5 in (
        h.6 ∙ (λ i. h.4.0 i ++ on.0 i),
        ap (λ (r : Read). continue_with k r (λ (next : Option Crew). parse_lines (k + 1) next (lines ++ left) rest))
            h.4.1 ∙ on.1,
      )

  module _ (old new : J) (first : Option Crew) (start : seen old ≡ first) where
    abbrev Stopped : End ScriptFault → List ℕ → List ℕ → Type 0
    Stopped end answers text = Stops Good Wrong end old new answers text

    asks : (end : End ScriptFault) (answers text : List ℕ) (h : Stopped end answers text) →
        (answers ≡ []) × (parse_from first text ≡ parse_lines (length h.lines + 1) (seen h.state) h.left (rest_of text))
    unfolding parse_from
    asks end answers text h =
        let f = followed old h.state h.lines h.left answers (rest_of text) 1 (length h.lines + 1)
        (omega arith) h.follows in
        (f.0, (λ i. parse_lines 1 (sym start i) (h.split i) (rest_of text)) ∙ f.1)

    pub nothing-sent : (end : End ScriptFault) (answers text : List ℕ) → Stopped end answers text → answers ≡ []
    nothing-sent end answers text h = (asks end answers text h).0

    -- the whole script was read
    pub optional_crew-for : (line : ℕ) (answers text : List ℕ) (crew : Crew) → seen new ≡ Some crew
        → Stopped (ends.Last line) answers text → parse_from first text ≡ Ok (Some crew)
    optional_crew-for line answers text crew is h =
        let e = h.ends in
        let seen-is : seen h.state ≡ Some crew = ap seen (sym e.1) ∙ is in
        (asks (ends.Last line) answers text h).1 ∙ (λ i. parse_lines (length h.lines + 1) (seen-is i) (e.2 i) (e.3 i))

    pub no-board : (line : ℕ) (answers text : List ℕ) → seen new ≡ None → Stopped (ends.Last line) answers text
        → parse_from first text ≡ Err (line, faults.First)
    no-board line answers text is h =
        let e = h.ends in
        let seen-is : seen h.state ≡ None = ap seen (sym e.1) ∙ is in
        (asks (ends.Last line) answers text h).1 ∙ (λ i. parse_lines (sym e.0 i) (seen-is i) (e.2 i) (e.3 i))

    pub wrong : (line : ℕ) (fault : ScriptFault) (answers text : List ℕ)
        → Stopped (ends.Wrong line fault) answers text → parse_from first text ≡ Err (line, fault)
    wrong line fault answers text h = (asks (ends.Wrong line fault) answers text h).1 ∙ by h.left h.ends
      where
        by : (left : List (List ℕ))
            → Ends Wrong (ends.Wrong line fault) (place (length h.lines + 1) h.state left (rest_of text)) new →
            parse_lines (length h.lines + 1) (seen h.state) left (rest_of text) ≡ Err (line, fault)
        by [] e = absurd e
        by (bad ∷ left) e =
            ap (λ (r : Read). continue_with (length h.lines + 1) r
            (λ (next : Option Crew). parse_lines (length h.lines + 1 + 1) next left (rest_of text))) e.2
            ∙ ap (λ (k : ℕ). Err (k, fault)) (sym e.0)

    long-next : (crew : Option Crew) (k : ℕ) (left : List (List ℕ)) (rest : List ℕ) → 640 < length (next_of left rest)
        → parse_lines k crew left rest ≡ Err (k, faults.Long)
    long-next crew k [] rest long = rw ((Decides-ltb 640 (length rest)).1 long) refl
    long-next crew k (line ∷ left) rest long = rw ((Decides-ltb 640 (length line)).1 long) refl

    pub long : (line : ℕ) (answers text : List ℕ) → Stopped (ends.Long line) answers text
        → parse_from first text ≡ Err (line, faults.Long)
    long line answers text h =
        let e =
        h.ends in
        (asks (ends.Long line) answers text h).1
        ∙ long-next (seen h.state) (length h.lines + 1) h.left (rest_of text) e.2
        ∙ ap (λ (k : ℕ). Err (k, faults.Long)) (sym e.0)

    rest-cut : (opened : Bool) (rest : List ℕ) → length rest ≤ 640 → 0 < length rest
        → rest_fault opened rest ≡ Some faults.Cut
    rest-cut opened rest short some = rw (le-ltb 640 (length rest) short, (Decides-ltb 0 (length rest)).1 some) refl

    pub cut : (line : ℕ) (answers text : List ℕ) → Stopped (ends.Cut line) answers text
        → parse_from first text ≡ Err (line, faults.Cut)
    cut line answers text h =
        let e = h.ends in
        (asks (ends.Cut line) answers text h).1
        ∙ ap (λ (l : List (List ℕ)). parse_lines (length h.lines + 1) (seen h.state) l (rest_of text)) e.2
        ∙ ap (at_rest (length h.lines + 1) (seen h.state)) (rest-cut (is_open (seen h.state)) (rest_of text) e.4 e.3)
        ∙ ap (λ (k : ℕ). Err (k, faults.Cut)) (sym e.0)
