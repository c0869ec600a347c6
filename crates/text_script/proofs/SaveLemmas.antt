-- What a drive over the lines of a script determines about what is saved of it.
use Rattle.std.proofs.Common.{◌≡◌, ℕ, List, [], ◌∷◌, ◌++◌, refl, sym, ap, subst, ◌∙◌, Option, None, Some, is_some, false}
use Rattle.std.specs.Option.{IfSome}
use Rattle.std.specs.Io.KnownBytes.{Appends}
use Rattle.std.proofs.KnownBytes.{Appends-nil}
use Rattle.text_base.specs.Streams.{ReadsUpTo}
use Rattle.text_driver.specs.Judging.{AreGoodLines}
use Rattle.text_driver.specs.Driving.{Stops, Drives, most_of}
use Rattle.text_driver.specs.Driving as driving
use Rattle.text_driver.specs.declared.driving.End.{End}
use Rattle.text_driver.specs.declared.driving.End.TheVariants as ends
use Rattle.text_lines.specs.declared.fault.ScriptFault.{ScriptFault}
use Rattle.text_lines.specs.declared.fault.ScriptFault.TheVariants as faults
use Rattle.synic_board.specs.State.{State}
use Rattle.text_image.specs.Image.{image}
use Rattle.text_script.specs.Output.{Machine, machine_after_lines, machine_at_end, fault_of, fault_text, saved_of, saved_text}
use Rattle.text_script.specs.Script.{item_in}
use Rattle.text_script.specs.Streams.{SavesText, StopsNear, most_read}
use Rattle.text_script.specs.inside.Judging.{answer_maybe, Advances, Finishes, SavesEnd, SavesImage}
use Rattle.text_script.specs.declared.stream.ReplayEnd.{ReplayEnd}
use Rattle.text_script.specs.declared.stream.ReplayEnd.TheVariants.{Done, Script, Memory, Reading, Writing}
use Rattle.text_script.proofs.ScriptLemmas.{machine-line}
use Rattle.text_script.proofs.Judged.{FaultAt, Good, Wrong, Ended, known}
use Rattle.text_script.proofs.Limits.{concluded-within, concluded-near}

some-map : (r : Option (List ℕ)) (P Q : List ℕ → Type 0) → ((input : List ℕ) → P input → Q input) → IfSome r P
    → IfSome r Q
some-map None P Q f h = tt
some-map (Some input) P Q f h = f input h

module _ {J : Type 0} (seen : J → Machine) where
  abbrev Advanced : J → List ℕ → List ℕ → J → Type 0
  Advanced old line sent new = Advances (seen old) line (seen new)

  -- the answers that a save does not form
  answered-so : (old new : J) (lines : List (List ℕ)) (sent : List ℕ) → AreGoodLines Advanced old lines sent new
      → (answers : List ℕ) × AreGoodLines (Good seen) old lines answers new
  answered-so old new [] sent h = ([], (refl, h.1))
  answered-so old new (line ∷ lines) sent h =
      let on = answered-so h.2 new lines h.1 h.5 in
      let answer : List ℕ = answer_maybe (seen old) (item_in line) in
      (answer ++ on.0, (answer, on.0, h.2, h.3, (h.4, refl), on.1, refl))

  stopped-so : (old new : J) (end : End ScriptFault) (sent text : List ℕ)
      → Stops Advanced (Wrong seen) end old new sent text →
      (answers : List ℕ) × Stops (Good seen) (Wrong seen) end old new answers text
  stopped-so old new end sent text h =
      let on = answered-so old h.state h.lines sent h.follows in
      (on.0, record { lines = h.lines; left = h.left; state = h.state; split = h.split; follows = on.1; ends = h.ends })

-- good lines lead from one machine to another
reached : {J : Type 0} (seen : J → Machine) (old new : J) (lines left : List (List ℕ)) (answers : List ℕ)
    → AreGoodLines (Good seen) old lines answers new →
    machine_after_lines (seen old) (lines ++ left) ≡ machine_after_lines (seen new) left
reached seen old new [] left answers h = ap (λ s. machine_after_lines (seen s) left) (sym h.1)
reached seen old new (line ∷ lines) left answers h =
    machine-line (seen old) line (lines ++ left) h.4.0.0
    ∙ ap (λ (m : Machine). machine_after_lines m (lines ++ left)) (sym h.4.0.1)
    ∙ reached seen h.2 new lines left h.1 h.5

module _ {J : Type 0} (seen : J → Machine) (old new : J) (start : seen old ≡ None) where
  -- if each line is good, the machine at the end is the one that the drive leaves
  at-end : (line : ℕ) (answers text : List ℕ) → Ended seen old new None start (ends.Last line) answers text
      → machine_at_end text ≡ seen new
  unfolding machine_at_end
  at-end line answers text h =
      let e = h.ends in
      ap (machine_after_lines None) h.split
      ∙ ap (λ (m : Machine). machine_after_lines m (h.lines ++ h.left)) (sym start)
      ∙ reached seen old h.state h.lines h.left answers h.follows
      ∙ ap (machine_after_lines (seen h.state)) e.2
      ∙ ap seen (sym e.1)

  -- the text to save, once the fault and the machine are known
  saved-fault : (end : End ScriptFault) (line : ℕ) (g : ScriptFault) (answers text : List ℕ)
      → FaultAt end (is_some (seen new)) (Some (line, g)) → Ended seen old new None start end answers text →
      (fault_of text ≡ Some (line, g)) × (saved_text text ≡ fault_text (Some (line, g)))
  saved-fault end line g answers text is h =
      let k = known seen old new None start end (Some (line, g)) answers text is h in
      (k.1, ap (λ (f : Option (ℕ × ScriptFault)). saved_of f (machine_at_end text)) k.1)

  saved-image : (line : ℕ) (s : State) (answers text : List ℕ) → seen new ≡ Some s
      → Ended seen old new None start (ends.Last line) answers text →
      (fault_of text ≡ None) × (saved_text text ≡ image s)
  saved-image line s answers text is h =
      let k = known seen old new None start (ends.Last line) None answers text (rw is refl) h in (
        k.1,
        ap (λ (f : Option (ℕ × ScriptFault)). saved_of f (machine_at_end text)) k.1
            ∙ ap (saved_of None) (at-end line answers text h ∙ is),
      )

  module _ (r0 r1 v0 v1 w0 w1 : Option (List ℕ)) where
    abbrev Driven : End ScriptFault → Type 0
    Driven end = Drives (Advanced seen) (Wrong seen) end old new r0 r1 v0 v1

    fault-saved : (end : End ScriptFault) (line : ℕ) (g : ScriptFault) (result : ReplayEnd)
        → FaultAt end (is_some (seen new)) (Some (line, g)) → Driven end →
        Finishes result (Some (line, g)) w0 w1 → SavesText result r0 r1 w0 w1
    fault-saved end line g Done is d f = let off = f.0 in cc
    fault-saved end line g (Script l h) is d f =
        some-map r0 _ _ (λ input k.
        let s = stopped-so seen old new end d.answers input k in
        let b = saved-fault end line g s.0 input is s.1 in
        (b.0 ∙ f.0, subst (Appends w0 w1) (sym b.1) f.1)) d.whole
    fault-saved end line g Memory is d f = rw f (Appends-nil w0)
    fault-saved end line g Reading is d f = absurd f
    fault-saved end line g Writing is d f =
        let s = stopped-so seen old new end d.answers d.taken d.read in
        let b = saved-fault end line g s.0 d.taken is s.1 in
        record { taken = d.taken; sent = f.0; unsent = f.1; reads = d.reads; writes = f.2; begins = b.1 ∙ f.3 }

    image-saved : (line : ℕ) (s : State) (result : ReplayEnd) → seen new ≡ Some s → Driven (ends.Last line)
        → SavesImage result s w0 w1 → SavesText result r0 r1 w0 w1
    image-saved line s Done is d f =
        some-map r0 _ _ (λ input k.
        let p = stopped-so seen old new (ends.Last line) d.answers input k in
        let b = saved-image line s p.0 input is p.1 in
        (b.0, subst (Appends w0 w1) (sym b.1) f)) d.whole
    image-saved line s (Script l h) is d f = absurd f
    image-saved line s Memory is d f = absurd f
    image-saved line s Reading is d f = absurd f
    image-saved line s Writing is d f =
        let p = stopped-so seen old new (ends.Last line) d.answers d.taken d.read in
        let b = saved-image line s p.0 d.taken is p.1 in
        record { taken = d.taken; sent = f.0; unsent = f.1; reads = d.reads; writes = f.2; begins = b.1 ∙ f.3 }

    -- a drive, and what is written after it
    pub saves-concluded : (end : End ScriptFault) (result : ReplayEnd) → Driven end
        → SavesEnd end (seen new) result w0 w1 → SavesText result r0 r1 w0 w1
    saves-concluded (ends.Last line) result d f = by (seen new) refl f
      where
        by : (m : Machine) → seen new ≡ m → SavesEnd (ends.Last line) m result w0 w1 → SavesText result r0 r1 w0 w1
        by None is f = fault-saved (ends.Last line) line faults.First result (rw is refl) d f
        by (Some s) is f = image-saved line s result is d f
    saves-concluded (ends.Wrong line g) result d f = fault-saved (ends.Wrong line g) line g result refl d f
    saves-concluded (ends.Long line) result d f = fault-saved (ends.Long line) line faults.Long result refl d f
    saves-concluded (ends.Cut line) result d f = fault-saved (ends.Cut line) line faults.Cut result refl d f
    saves-concluded ends.Memory result d f = rw (f.0, f.1) (Appends-nil w0)
    saves-concluded ends.Reading result d f = rw (f.0, f.1) (Appends-nil w0)
    saves-concluded ends.Writing result d f =
        rw f.0
        (record {
          taken = d.taken;
          sent = [];
          unsent = saved_text d.taken;
          reads = d.reads;
          writes = rw f.1 (Appends-nil w0);
          begins = refl;
        })

-- the limits of a save
pub saved-within : (end : End ScriptFault) (machine : Machine) (result : ReplayEnd) (r0 r1 w0 w1 : Option (List ℕ))
    → SavesEnd end machine result w0 w1 →
    ReadsUpTo (most_of end) r0 r1 → ReadsUpTo (most_read result) r0 r1
saved-within (ends.Last line) (Some s) Done r0 r1 w0 w1 f h = h
saved-within (ends.Last line) (Some s) (Script l g) r0 r1 w0 w1 f h = absurd f
saved-within (ends.Last line) (Some s) Memory r0 r1 w0 w1 f h = absurd f
saved-within (ends.Last line) (Some s) Reading r0 r1 w0 w1 f h = absurd f
saved-within (ends.Last line) (Some s) Writing r0 r1 w0 w1 f h = h
saved-within end machine result r0 r1 w0 w1 f h = concluded-within end false result r0 r1 w0 w1 f h

pub saved-near : (end : End ScriptFault) (machine : Machine) (result : ReplayEnd) (r0 r1 w0 w1 : Option (List ℕ))
    → SavesEnd end machine result w0 w1 →
    driving.StopsNear end r0 r1 → StopsNear result r0 r1
saved-near (ends.Last line) (Some s) (Script l g) r0 r1 w0 w1 f near = absurd f
saved-near (ends.Last line) (Some s) result r0 r1 w0 w1 f near = tt
saved-near end machine result r0 r1 w0 w1 f near = concluded-near end false result r0 r1 w0 w1 f near
