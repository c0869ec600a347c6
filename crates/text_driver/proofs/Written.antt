-- The output of a drive: what was put, and what was written of it at the end.
use Rattle.std.proofs.Common.{◌≡◌, ℕ, List, [], ◌++◌, append_assoc, append-nil, Option, None, Some, Bool, false, refl, sym, ap, subst, ◌∙◌}
use Rattle.std.specs.Option.{IfSome}
use Rattle.std.specs.Io.KnownBytes.{Appends}
use Rattle.text_base.specs.Outputs.{Written, Holds, HasSame, IsWritten}
use Rattle.text_base.specs.Streams.{ReadsUpTo}
use Rattle.text_base.specs.inside.Framing.{framed}
use Rattle.text_base.proofs.OutputLemmas.{framed-same, framed-more}
use Rattle.text_driver.specs.Driving.{Stops, Sends, Drives, IsWrittenFirst, most_of}
use Rattle.text_driver.specs.declared.driving.End.{End}
use Rattle.text_driver.specs.declared.driving.End.TheVariants as ends

-- the same stream, to which these answers were put
pub record HasPut (old new : Written) (answers : List ℕ) : Type 0 where
  pub name : new.name ≡ old.name
  pub start : new.start ≡ old.start
  pub text : new.text ≡ old.text ++ answers

pub put-nothing : (output : Written) → HasPut output output []
put-nothing output = record { name = refl; start = refl; text = sym (append-nil output.text) }

pub put-same : (first old new : Written) (answers : List ℕ) → HasPut first old answers → HasSame old new
    → HasPut first new answers
put-same first old new answers h same =
    record { name = same.name ∙ h.name; start = same.start ∙ h.start; text = same.text ∙ h.text }

-- what was put, seen as a sink
framed-of : Written → List ℕ
framed-of output = framed output.name output.start output.text

pub put-more : (first old new : Written) (answers answer : List ℕ) → HasPut first old answers
    → framed new.name new.start new.text ≡ framed old.name old.start old.text ++ answer
    → HasPut first new (answers ++ answer)
put-more first old new answers answer h e =
    let same = framed-same new.name old.name new.start old.start new.text (old.text ++ answer)
    (e ∙ framed-more old.name old.start old.text answer) in
    record {
      name = same.name ∙ h.name;
      start = same.start ∙ h.start;
      text = same.text ∙ ap (λ (x : List ℕ). x ++ answer) h.text ∙ append_assoc first.text answers answer;
    }

pub put-none : (first old new : Written) (answers : List ℕ) → HasPut first old answers
    → framed new.name new.start new.text ≡ framed old.name old.start old.text → HasPut first new answers
put-none first old new answers h e =
    let same = framed-same new.name old.name new.start old.start new.text old.text e in
    record { name = same.name ∙ h.name; start = same.start ∙ h.start; text = same.text ∙ h.text }

-- A drive whose answers were put, and then written.
module _ {J F : Type 0} {good : J → List ℕ → List ℕ → J → Type 0} {wrong : J → List ℕ → F → Type 0} {end : End F}
    {old new : J} {r0 r1 : Option (List ℕ)} (w0 w1 : Option (List ℕ)) (text : List ℕ)
    (drives : Drives good wrong end old new r0 r1 (Some []) (Some text)) where
  pub all-written : Holds w0 w1 text false → Drives good wrong end old new r0 r1 w0 w1
  all-written holds =
      let sent : holds.sent ≡ drives.sent =
      sym (append-nil holds.sent) ∙ ap (λ (x : List ℕ). holds.sent ++ x) (sym (holds.all refl)) ∙ sym holds.whole
      ∙ drives.writes in
      record {
        taken = drives.taken;
        answers = drives.answers;
        sent = drives.sent;
        reads = drives.reads;
        writes = subst (Appends w0 w1) sent holds.writes;
        sends = drives.sends;
        read = drives.read;
        whole = drives.whole;
      }

  sent-of : (any : End F) (answers sent : List ℕ) → Sends any answers sent
      → (unsent : List ℕ) × (answers ≡ sent ++ unsent)
  sent-of (ends.Last line) answers sent h = ([], h ∙ sym (append-nil sent))
  sent-of (ends.Wrong line fault) answers sent h = ([], h ∙ sym (append-nil sent))
  sent-of (ends.Long line) answers sent h = ([], h ∙ sym (append-nil sent))
  sent-of (ends.Cut line) answers sent h = ([], h ∙ sym (append-nil sent))
  sent-of ends.Memory answers sent h = ([], h ∙ sym (append-nil sent))
  sent-of ends.Reading answers sent h = ([], h ∙ sym (append-nil sent))
  sent-of ends.Writing answers sent h = h

  stops : (input : List ℕ) → Stops good wrong end old new drives.answers input
      → Stops good wrong ends.Writing old new drives.answers input
  stops input h = record {
    lines = h.lines;
    left = h.left;
    state = h.state;
    split = h.split;
    follows = h.follows;
    ends = tt;
  }

  stops-whole : (r : Option (List ℕ)) → IfSome r (Stops good wrong end old new drives.answers)
      → IfSome r (Stops good wrong ends.Writing old new drives.answers)
  stops-whole None h = tt
  stops-whole (Some input) h = stops input h

  pub part-written : (failed : Bool) → Holds w0 w1 text failed
      → Drives good wrong ends.Writing old new r0 r1 w0 w1
  part-written failed holds =
      let rest = sent-of end drives.answers drives.sent drives.sends in
      record {
        taken = drives.taken;
        answers = drives.answers;
        sent = holds.sent;
        reads = drives.reads;
        writes = holds.writes;
        sends = (
          holds.rest ++ rest.0,
          rest.1 ∙ ap (λ (x : List ℕ). x ++ rest.0) (sym drives.writes ∙ holds.whole)
              ∙ append_assoc holds.sent holds.rest rest.0,
        );
        read = stops drives.taken drives.read;
        whole = stops-whole r0 drives.whole;
      }

-- if something is not written, no read failed
pub within-limit : {F : Type 0} (end : End F) (output : Written) (r0 r1 : Option (List ℕ)) → (IsWritten output → ⊥)
    → IsWrittenFirst end output → ReadsUpTo (most_of end) r0 r1 → ReadsUpTo 1073741824 r0 r1
within-limit (ends.Last line) output r0 r1 not first h = h
within-limit (ends.Wrong line fault) output r0 r1 not first h = h
within-limit (ends.Long line) output r0 r1 not first h = h
within-limit (ends.Cut line) output r0 r1 not first h = h
within-limit ends.Memory output r0 r1 not first h = h
within-limit ends.Reading output r0 r1 not first h = absurd (not first)
within-limit ends.Writing output r0 r1 not first h = h
