-- What a drive over the lines of a script determines about the text.
use Rattle.std.proofs.Common.{◌≡◌, ℕ, ◌+◌, ◌<◌, ◌≤◌, List, [], ◌∷◌, ◌++◌, length, refl, sym, ap, subst, ◌∙◌, arith, Bool, true, false, cond, le-ltb, Option, None, Some, is_some, append_assoc, append-nil}
use Rattle.std.specs.Option.{IfSome}
use Rattle.std.specs.Io.KnownBytes.{Appends}
use Rattle.std.proofs.KnownBytes.{Consumes-nil, Appends-nil, Appends-trans}
use Rattle.std.proofs.lemmas.Bool.Decides.{Decides-ltb}
use Rattle.text_base.specs.Lines.{rest_of}
use Rattle.text_driver.specs.Judging.{AreGoodLines}
use Rattle.text_driver.specs.Driving.{next_of, place, Ends, Stops, Sends, Drives}
use Rattle.text_driver.specs.declared.driving.End.{End}
use Rattle.text_driver.specs.declared.driving.End.TheVariants as ends
use Rattle.text_script.specs.Script.{line_fault, rest_fault, first_fault}
use Rattle.text_script.specs.Output.{Machine, output_from, output_on, fault_on, fault_text, text_on}
use Rattle.text_script.specs.Streams.{BegunText, ReplaysOn}
use Rattle.text_script.specs.inside.Judging.{conclusion, Concludes, Finishes, IsAnswered, IsFaulty}
use Rattle.text_lines.specs.declared.fault.ScriptFault.{ScriptFault}
use Rattle.text_lines.specs.declared.fault.ScriptFault.TheVariants as faults
use Rattle.text_script.specs.declared.stream.ReplayEnd.{ReplayEnd}
use Rattle.text_script.specs.declared.stream.ReplayEnd.TheVariants.{Done, Script, Memory, Reading, Writing}
use Rattle.text_script.proofs.ScriptLemmas.{output_from-line, first_fault-line, output_from-bad, first_fault-bad}

-- The fault that a drive found, given whether the board is open.
abbrev pub FaultAt : End ScriptFault → Bool → Option (ℕ × ScriptFault) → Type 0
FaultAt (ends.Last line) opened fault = cond opened None (Some (line, faults.First)) ≡ fault
FaultAt (ends.Wrong line f) opened fault = Some (line, f) ≡ fault
FaultAt (ends.Long line) opened fault = Some (line, faults.Long) ≡ fault
FaultAt (ends.Cut line) opened fault = Some (line, faults.Cut) ≡ fault
FaultAt end opened fault = ⊥

long-next : (machine : Machine) (k : ℕ) (left : List (List ℕ)) (rest : List ℕ) → 640 < length (next_of left rest) →
    (output_from machine left ≡ []) × (first_fault k (is_some machine) left rest ≡ Some (k, faults.Long))
long-next machine k [] rest long = (refl, rw ((Decides-ltb 640 (length rest)).1 long) refl)
long-next machine k (line ∷ left) rest long =
    let bad : line_fault (is_some machine) line ≡ Some faults.Long =
    rw ((Decides-ltb 640 (length line)).1 long) refl in (
      output_from-bad machine line left faults.Long bad,
      first_fault-bad k (is_some machine) line left rest faults.Long bad,
    )

rest-cut : (opened : Bool) (rest : List ℕ) → length rest ≤ 640 → 0 < length rest
    → rest_fault opened rest ≡ Some faults.Cut
rest-cut opened rest short some = rw (le-ltb 640 (length rest) short, (Decides-ltb 0 (length rest)).1 some) refl

rest-end : (opened : Bool) (line : ℕ) → first_fault line opened [] [] ≡ cond opened None (Some (line, faults.First))
rest-end true line = refl
rest-end false line = refl

-- Some lines were answered, and the rest follows.
record Answered (old new : Machine) (k j : ℕ) (lines left : List (List ℕ)) (rest answers : List ℕ) : Type 0 where
  pub output : output_from old (lines ++ left) ≡ answers ++ output_from new left
  pub fault : first_fault k (is_some old) (lines ++ left) rest ≡ first_fault j (is_some new) left rest

module _ {J : Type 0} (seen : J → Machine) where
  abbrev pub Good : J → List ℕ → List ℕ → J → Type 0
  Good old line answer new = IsAnswered (seen old) line answer (seen new)

  abbrev pub Wrong : J → List ℕ → ScriptFault → Type 0
  Wrong state line fault = IsFaulty (seen state) line fault

  answered : (old new : J) (lines left : List (List ℕ)) (answers rest : List ℕ) (k j : ℕ) → j ≡ k + length lines
      → AreGoodLines Good old lines answers new →
      Answered (seen old) (seen new) k j lines left rest answers
  answered old new [] left answers rest k j count h =
      let same : j ≡ k = omega (arith, count) in
      rw (h.0, h.1, same) (record { output = refl; fault = refl })
  answered old new (line ∷ lines) left answers rest k j count h =
      let on = answered h.2 new lines left h.1 rest (k + 1) j (omega (arith, count)) h.5 in
      let next = h.4.0.1 in
      record {
        output = output_from-line (seen old) line (lines ++ left) h.4.0.0
            ∙ rw (sym h.4.1, sym next, on.output, h.6) (sym (append_assoc h.0 h.1 (output_from (seen new) left)));
        fault = first_fault-line k (seen old) line (lines ++ left) rest h.4.0.0 ∙ rw (sym next) on.fault;
      }

all-sent : (end : End ScriptFault) (opened : Bool) (fault : Option (ℕ × ScriptFault)) (answers sent : List ℕ)
    → FaultAt end opened fault → Sends end answers sent → answers ≡ sent
all-sent (ends.Last line) opened fault answers sent is h = h
all-sent (ends.Wrong line f) opened fault answers sent is h = h
all-sent (ends.Long line) opened fault answers sent is h = h
all-sent (ends.Cut line) opened fault answers sent is h = h
all-sent end opened fault answers sent is h = absurd is

some-written : (machine : Machine) (r0 w0 w1 : Option (List ℕ)) (answers : List ℕ) (fault : Option (ℕ × ScriptFault))
    (P : List ℕ → Type 0) →
    ((input : List ℕ) → P input → (output_on machine input ≡ answers) × (fault_on (is_some machine) input ≡ fault))
    → IfSome r0 P → Appends w0 w1 (answers ++ fault_text fault) →
    IfSome r0 (λ input. (fault_on (is_some machine) input ≡ fault) × Appends w0 w1 (text_on machine input))
some-written machine None w0 w1 answers fault P known h writes = tt
some-written machine (Some input) w0 w1 answers fault P known h writes =
    let k = known input h in (k.1, rw (k.0, k.1) writes)

module _ {J : Type 0} (seen : J → Machine) (old new : J) (machine : Machine) (start : seen old ≡ machine) where
  abbrev pub Ended : End ScriptFault → List ℕ → List ℕ → Type 0
  Ended end answers text = Stops (Good seen) (Wrong seen) end old new answers text

  abbrev pub Driven : End ScriptFault → Option (List ℕ) → Option (List ℕ) → Option (List ℕ) → Option (List ℕ) → Type 0
  Driven end r0 r1 w0 w1 = Drives (Good seen) (Wrong seen) end old new r0 r1 w0 w1

  on-text : (end : End ScriptFault) (answers text : List ℕ) (h : Ended end answers text) →
      (output_on machine text ≡ answers ++ output_from (seen h.state) h.left)
      × (fault_on (is_some machine) text
      ≡ first_fault (length h.lines + 1) (is_some (seen h.state)) h.left (rest_of text))
  unfolding output_on fault_on
  on-text end answers input h =
      let a = subst (λ (m : Machine). Answered m (seen h.state) 1 (length h.lines + 1) h.lines h.left
      (rest_of input) answers) start
      (answered seen old h.state h.lines h.left answers (rest_of input) 1 (length h.lines + 1)
      (omega arith) h.follows) in
      rw h.split (a.output, a.fault)

  known-by : (end : End ScriptFault) (answers text : List ℕ) (fault : Option (ℕ × ScriptFault))
      (h : Ended end answers text) →
      (output_from (seen h.state) h.left ≡ [])
      × (first_fault (length h.lines + 1) (is_some (seen h.state)) h.left (rest_of text) ≡ fault)
      → (output_on machine text ≡ answers) ×
      (fault_on (is_some machine) text ≡ fault)
  known-by end answers text fault h left =
      let on =
      on-text end answers text h in
      (on.0 ∙ ap (λ (x : List ℕ). answers ++ x) left.0 ∙ append-nil answers, on.1 ∙ left.1)

  -- The answers that were sent are all there are, and the fault is the first.
  pub known : (end : End ScriptFault) (fault : Option (ℕ × ScriptFault)) (answers text : List ℕ)
      → FaultAt end (is_some (seen new)) fault → Ended end answers text →
      (output_on machine text ≡ answers) × (fault_on (is_some machine) text ≡ fault)
  known (ends.Last line) fault answers text is h =
      let e = h.ends in
      known-by (ends.Last line) answers text fault h
      (rw (e.2, e.3) (refl, rest-end (is_some (seen h.state)) (length h.lines + 1) ∙ rw (sym e.1, sym e.0) is))
  known (ends.Wrong line f) fault answers text is h =
      known-by (ends.Wrong line f) answers text fault h (by h.left h.ends)
    where
      by : (left : List (List ℕ))
          → Ends (Wrong seen) (ends.Wrong line f) (place (length h.lines + 1) h.state left (rest_of text)) new →
          (output_from (seen h.state) left ≡ [])
          × (first_fault (length h.lines + 1) (is_some (seen h.state)) left (rest_of text) ≡ fault)
      by [] e = absurd e
      by (bad ∷ left) e = (
        output_from-bad (seen h.state) bad left f e.2,
        first_fault-bad (length h.lines + 1) (is_some (seen h.state)) bad left (rest_of text) f e.2 ∙ rw (sym e.0) is,
      )
  known (ends.Long line) fault answers text is h =
      let e = h.ends in
      let l = long-next (seen h.state) (length h.lines + 1) h.left (rest_of text) e.2 in
      known-by (ends.Long line) answers text fault h (l.0, l.1 ∙ rw (sym e.0) is)
  known (ends.Cut line) fault answers text is h =
      let e = h.ends in
      known-by (ends.Cut line) answers text fault h
      (rw (e.2, rest-cut (is_some (seen h.state)) (rest_of text) e.4 e.3) (refl, rw (sym e.0) is))
  known end fault answers text is h = absurd is

  -- The fault's line is written, if there is a fault.
  replays-finished : (end : End ScriptFault) (fault : Option (ℕ × ScriptFault)) (result : ReplayEnd)
      (r0 r1 w0 w w1 : Option (List ℕ)) →
      FaultAt end (is_some (seen new)) fault → Driven end r0 r1 w0 w → Finishes result fault w w1
      → ReplaysOn machine result r0 r1 w0 w1
  replays-finished end fault result r0 r1 w0 w w1 is d = by result
    where
      writes : Appends w0 w d.answers
      writes = rw (all-sent end (is_some (seen new)) fault d.answers d.sent is d.sends) d.writes

      here : (output_on machine d.taken ≡ d.answers) × (fault_on (is_some machine) d.taken ≡ fault)
      here = known end fault d.answers d.taken is d.read

      all : (said : List ℕ) → said ≡ fault_text fault → Appends w w1 said
          → IfSome r0 (λ input. (fault_on (is_some machine) input ≡ fault) × Appends w0 w1 (text_on machine input))
      all said same h =
          some-written machine r0 w0 w1 d.answers fault (Ended end d.answers)
          (λ input k. known end fault d.answers input is k) d.whole
          (rw (sym same) (Appends-trans w0 w w1 d.answers said writes h))

      by : (result : ReplayEnd) → Finishes result fault w w1 → ReplaysOn machine result r0 r1 w0 w1
      by Done f = rw f.0 at (all [] (sym (ap fault_text f.0)) f.1)
      by (Script l g) f = rw f.0 at (all (fault_text fault) refl f.1)
      by Memory f =
          record {
            taken = d.taken;
            sent = d.answers;
            unsent = [];
            reads = d.reads;
            writes = rw f writes;
            begins = here.0 ∙ sym (append-nil d.answers);
          }
      by Reading f = absurd f
      by Writing f = record {
        taken = d.taken;
        sent = d.answers ++ f.0;
        unsent = f.1;
        reads = d.reads;
        writes = Appends-trans w0 w w1 d.answers f.0 writes f.2;
        begins = rw (here.0, here.1) (ap (λ (x : List ℕ). d.answers ++ x) f.3 ∙ sym (append_assoc d.answers f.0 f.1));
      }

  -- What was sent is a prefix of the answers to the bytes that were read.
  replays-begun : (end : End ScriptFault) (r0 r1 w0 w1 : Option (List ℕ)) (d : Driven end r0 r1 w0 w1)
      → d.answers ≡ d.sent → BegunText (output_on machine) r0 r1 w0 w1
  replays-begun end r0 r1 w0 w1 d sent = record {
    taken = d.taken;
    sent = d.sent;
    unsent = output_from (seen d.read.state) d.read.left;
    reads = d.reads;
    writes = d.writes;
    begins = (on-text end d.answers d.taken d.read).0
        ∙ ap (λ (x : List ℕ). x ++ output_from (seen d.read.state) d.read.left) sent;
  }

  -- A write failed.
  replays-writing : (r0 r1 w0 w1 : Option (List ℕ)) → Driven ends.Writing r0 r1 w0 w1
      → BegunText (text_on machine) r0 r1 w0 w1
  replays-writing r0 r1 w0 w1 d =
      let more = output_from (seen d.read.state) d.read.left in
      let tail = fault_text (fault_on (is_some machine) d.taken) in
      record {
        taken = d.taken;
        sent = d.sent;
        unsent = (d.sends.0 ++ more) ++ tail;
        reads = d.reads;
        writes = d.writes;
        begins = ap (λ (x : List ℕ). x ++ tail)
            ((on-text ends.Writing d.answers d.taken d.read).0 ∙ ap (λ (x : List ℕ). x ++ more) d.sends.1)
            ∙ simp append_assoc;
      }

  -- A drive, and what is written after it.
  pub replays-concluded : (end : End ScriptFault) (result : ReplayEnd) (r0 r1 w0 w w1 : Option (List ℕ))
      → Driven end r0 r1 w0 w →
      Concludes (conclusion end (is_some (seen new))) result w w1 → ReplaysOn machine result r0 r1 w0 w1
  replays-concluded (ends.Last line) result r0 r1 w0 w w1 d f =
      replays-finished (ends.Last line)
      (cond (is_some (seen new)) None (Some (line, faults.First))) result r0 r1 w0 w w1 refl d f
  replays-concluded (ends.Wrong line g) result r0 r1 w0 w w1 d f =
      replays-finished (ends.Wrong line g) (Some (line, g)) result r0 r1 w0 w w1 refl d f
  replays-concluded (ends.Long line) result r0 r1 w0 w w1 d f =
      replays-finished (ends.Long line) (Some (line, faults.Long)) result r0 r1 w0 w w1 refl d f
  replays-concluded (ends.Cut line) result r0 r1 w0 w w1 d f =
      replays-finished (ends.Cut line) (Some (line, faults.Cut)) result r0 r1 w0 w w1 refl d f
  replays-concluded ends.Memory result r0 r1 w0 w w1 d f =
      rw (f.0, f.1) (replays-begun ends.Memory r0 r1 w0 w d d.sends)
  replays-concluded ends.Reading result r0 r1 w0 w w1 d f =
      rw (f.0, f.1) (replays-begun ends.Reading r0 r1 w0 w d d.sends)
  replays-concluded ends.Writing result r0 r1 w0 w w1 d f = rw (f.0, f.1) (replays-writing r0 r1 w0 w d)

-- Before anything was read.
pub replays-nothing : (machine : Machine) (r w : Option (List ℕ)) → BegunText (output_on machine) r r w w
replays-nothing machine r w =
    record {
      taken = [];
      sent = [];
      unsent = output_on machine [];
      reads = Consumes-nil r;
      writes = Appends-nil w;
      begins = refl;
    }
