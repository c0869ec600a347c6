-- The progress of a drive.
use Rattle.std.proofs.Common.{◌≡◌, ℕ, ◌+◌, ◌<◌, ◌≤◌, zero, suc, List, [], ◌∷◌, ◌++◌, length, length-append, take, append_assoc, append-nil, Option, refl, sym, ap, subst, ◌∙◌, arith}
use Rattle.std.proofs.Math.Seq.{take-append_seam}
use Rattle.std.specs.Io.KnownBytes.{Consumes, Appends, IsAtEnd}
use Rattle.std.proofs.KnownBytes.{Consumes-nil, Consumes-trans, Consumes-whole, Appends-nil}
use Rattle.text_base.specs.Buffered.{Buffered, at_start}
use Rattle.text_base.specs.Lines.{IsOneLine, lines_of, rest_of, joined}
use Rattle.text_base.specs.Outputs.{Written}
use Rattle.text_base.specs.Streams.{ReadsUpTo}
use Rattle.text_base.proofs.LineLemmas.{lines_of-line, lines_of-more, rest_of-more, lines_of-rest, rest_of-rest, before_lines, before_rest, AreLines, lines-append, joined-snoc, lines_of-joined, rest_of-joined}
use Rattle.text_driver.proofs.Budgets.{less_left, on-input}
use Rattle.text_driver.proofs.Written.{HasPut, put-nothing}
use Rattle.text_driver.specs.Judging.{AreGoodLines}
use Rattle.text_driver.specs.Driving.{next_of, place, Ends, Stops, Sends, Drives, ReadsNear}
use Rattle.text_driver.specs.declared.driving.End.{End}
use Rattle.text_driver.specs.declared.driving.End.TheVariants as ends

joined-length : (lines : List (List ℕ)) → length lines ≤ length (joined lines)
joined-length [] = omega arith
joined-length (l ∷ lines) = let h = joined-length lines in omega (arith, h, length-append l (10 ∷ joined lines))

follows-snoc : {J : Type 0} (good : J → List ℕ → List ℕ → J → Type 0) (old now next : J) (lines : List (List ℕ))
    (sent line answer : List ℕ) →
    AreGoodLines good old lines sent now → length line ≤ 640 → good now line answer next
    → AreGoodLines good old (lines ++ line ∷ []) (sent ++ answer) next
follows-snoc {J} good old now next [] sent line answer h short is = (
  answer,
  [],
  next,
  short,
  subst (λ (s : J). good s line answer next) h.1 is,
  (refl, refl),
  ap (λ (x : List ℕ). x ++ answer) h.0 ∙ sym (append-nil answer),
)
follows-snoc good old now next (l ∷ lines) sent line answer h short is = (
  h.0,
  h.1 ++ answer,
  h.2,
  h.3,
  h.4,
  follows-snoc good h.2 now next lines h.1 line answer h.5 short is,
  ap (λ (x : List ℕ). x ++ answer) h.6 ∙ append_assoc h.0 h.1 answer,
)

-- That many lines were taken and answered, and the buffered bytes come next.
pub record Progress {J : Type 0} (good : J → List ℕ → List ℕ → J → Type 0) (r0 r : Option (List ℕ))
    (source : Buffered) (old now : J) (number : ℕ) (answers : List ℕ) : Type 0 where
  pub lines : List (List ℕ)
  pub each : AreLines lines
  pub counted : number ≡ length lines
  pub reads : Consumes r0 r (joined lines ++ source.waiting)
  pub follows : AreGoodLines good old lines answers now
  pub spent : length (joined lines) + (length source.waiting + source.budget) ≡ 1073741824

-- and the answers were put
pub record Standing {J : Type 0} (ready : ℕ → J → Type 0) (good : J → List ℕ → List ℕ → J → Type 0)
    (r0 r : Option (List ℕ)) (output0 output : Written) (source : Buffered) (old now : J) (number : ℕ)
    : Type 0 where
  pub answers : List ℕ
  pub progress : Progress good r0 r source old now number answers
  pub puts : HasPut output0 output answers
  pub can : ready number now

nothing-read : {J : Type 0} {good : J → List ℕ → List ℕ → J → Type 0} (r : Option (List ℕ)) (judge : J)
    → Progress good r r at_start judge judge 0 []
nothing-read r judge = record {
  lines = [];
  each = tt;
  counted = refl;
  reads = Consumes-nil r;
  follows = (refl, refl);
  spent = refl;
}

pub standing-start : {J : Type 0} (ready : ℕ → J → Type 0) (good : J → List ℕ → List ℕ → J → Type 0)
    (r : Option (List ℕ)) (output : Written) (judge : J) → ready 0 judge →
    Standing ready good r r output output at_start judge judge 0
standing-start ready good r output judge can = record {
  answers = [];
  progress = nothing-read r judge;
  puts = put-nothing output;
  can = can;
}

-- Fewer lines were taken than bytes may be read.
pub bound-lines : {J : Type 0} {good : J → List ℕ → List ℕ → J → Type 0} {r0 r : Option (List ℕ)} {source : Buffered}
    {old now : J} {number : ℕ} {answers : List ℕ} →
    Progress good r0 r source old now number answers → number + (length source.waiting + source.budget) ≤ 1073741824
bound-lines h = omega (arith, h.counted, h.spent, joined-length h.lines)

-- What was read.
reads-on : {J : Type 0} {good : J → List ℕ → List ℕ → J → Type 0} {r0 r : Option (List ℕ)} {source : Buffered}
    {old now : J} {number : ℕ} {answers : List ℕ}
    (r1 : Option (List ℕ)) (came : List ℕ) (h : Progress good r0 r source old now number answers) → Consumes r r1 came
    → Consumes r0 r1 (joined h.lines ++ (source.waiting ++ came))
reads-on {r0 = r0} {r = r} {source = source} r1 came h reads =
    subst (λ (x : List ℕ). Consumes r0 r1 x) (append_assoc (joined h.lines) source.waiting came)
    (Consumes-trans r0 r r1 (joined h.lines ++ source.waiting) came h.reads reads)

pub progress-line : {J : Type 0} {good : J → List ℕ → List ℕ → J → Type 0} {r0 r : Option (List ℕ)}
    {source : Buffered} {old now : J} {number : ℕ} {answers : List ℕ}
    (r1 : Option (List ℕ)) (left : Buffered) (next : J) (came answer : List ℕ)
    → Progress good r0 r source old now number answers → Consumes r r1 came →
    source.waiting ++ came ≡ left.line ++ 10 ∷ left.waiting → IsOneLine left.line → length left.line ≤ 640 →
    length came + left.budget ≡ source.budget → good now left.line answer next
    → Progress good r0 r1 left old next (number + 1) (answers ++ answer)
progress-line {good = good} {r0 = r0} {source = source} {old = old} {now = now} {answers = answers} r1 left next came
    answer h reads split one short spent is =
    let line = left.line in
    let all = h.lines ++ line ∷ [] in
    let more : joined all ≡ joined h.lines ++ (line ++ 10 ∷ []) =
    sym (append-nil (joined all)) ∙ joined-snoc h.lines line [] in
    record {
      lines = all;
      each = lines-append h.lines (line ∷ []) h.each (one, tt);
      counted = omega (arith, h.counted, length-append h.lines (line ∷ []));
      reads = subst (λ (x : List ℕ). Consumes r0 r1 x)
          (ap (λ (x : List ℕ). joined h.lines ++ x) split ∙ sym (joined-snoc h.lines line left.waiting))
          (reads-on r1 came h reads);
      follows = follows-snoc good old now next h.lines answers line answer h.follows short is;
      spent = subst (λ (x : List ℕ). length x + (length left.waiting + left.budget) ≡ 1073741824) (sym more)
          (less_left source left (joined h.lines) came h.spent split spent);
    }

pub within : {J : Type 0} {good : J → List ℕ → List ℕ → J → Type 0} {r0 r : Option (List ℕ)} {source : Buffered}
    {old now : J} {number : ℕ} {answers : List ℕ}
    (r1 : Option (List ℕ)) (came : List ℕ) (most : ℕ) → Progress good r0 r source old now number answers
    → Consumes r r1 came → length came + 1073741824 ≤ source.budget + most → ReadsUpTo most r0 r1
within {source = source} r1 came most h reads bound = (
  joined h.lines ++ (source.waiting ++ came),
  reads-on r1 came h reads,
  omega (
    arith,
    bound,
    h.spent,
    length-append (joined h.lines) (source.waiting ++ came),
    length-append source.waiting came,
  ),
)

stops : {J F : Type 0} (good : J → List ℕ → List ℕ → J → Type 0) (wrong : J → List ℕ → F → Type 0) (end : End F)
    (old now new : J) (lines : List (List ℕ)) (answers more : List ℕ) → AreLines lines →
    AreGoodLines good old lines answers now
    → Ends wrong end (place (length lines + 1) now (lines_of more) (rest_of more)) new
    → Stops good wrong end old new answers (joined lines ++ more)
stops good wrong end old now new lines answers more each follows is = record {
  lines = lines;
  left = lines_of more;
  state = now;
  split = lines_of-joined lines more each;
  follows = follows;
  ends = subst (λ (x : List ℕ). Ends wrong end (place (length lines + 1) now (lines_of more) x) new)
      (sym (rest_of-joined lines more each)) is;
}

-- For every continuation of the input.
pub drives-on : {J F : Type 0} {good : J → List ℕ → List ℕ → J → Type 0} {wrong : J → List ℕ → F →
    Type 0} {end : End F} {r0 r r1 w0 w1 : Option
    (List ℕ)} {source : Buffered} {old now new : J} {number : ℕ} {answers : List ℕ} (came sent : List ℕ) →
    Progress good r0 r source old now number answers → Consumes r r1 came → Appends w0 w1 sent
    → Sends end answers sent →
    ((ys : List ℕ) → Ends wrong end
    (place (number + 1) now (lines_of ((source.waiting ++ came) ++ ys))
    (rest_of ((source.waiting ++ came) ++ ys))) new) → Drives good wrong end old new r0 r1 w0 w1
drives-on {good = good} {wrong = wrong} {end = end} {r0 = r0} {r1 = r1} {source = source} {old = old} {now = now}
    {new = new} {answers = answers} came sent h reads writes sends on =
    let front = source.waiting ++ came in
    let taken = joined h.lines ++ front in
    let all : Consumes r0 r1 taken = reads-on r1 came h reads in
    let each : (ys : List ℕ) → Stops good wrong end old new answers (taken ++ ys) =
    λ ys. subst (λ (x : List ℕ). Stops good wrong end old new answers x) (sym (append_assoc (joined h.lines) front ys))
    (stops good wrong end old now new h.lines answers (front ++ ys) h.each h.follows
    (subst (λ (k : ℕ). Ends wrong end (place (k + 1) now (lines_of (front ++ ys)) (rest_of (front ++ ys))) new)
    h.counted (on ys))) in
    record {
      taken = taken;
      answers = answers;
      sent = sent;
      reads = all;
      writes = writes;
      sends = sends;
      read = subst (λ (x : List ℕ). Stops good wrong end old new answers x) (append-nil taken) (each []);
      whole = on-input r0 r1 taken (Stops good wrong end old new answers) all each;
    }

-- No memory for a line.
pub nothing-taken : {J F : Type 0} {good : J → List ℕ → List ℕ → J → Type 0} {wrong : J → List ℕ → F → Type 0}
    (judge : J) (r w : Option (List ℕ)) → Drives good wrong ends.Memory judge judge r r w w
nothing-taken judge r w =
    drives-on {number = 0} [] [] (nothing-read r judge) (Consumes-nil r) (Appends-nil w) refl (λ ys. tt)

-- The input is at its end.
pub drives-end : {J F : Type 0} {good : J → List ℕ → List ℕ → J → Type 0} {wrong : J → List ℕ → F →
    Type 0} {end : End F} {r0 r r1 w0 w1 : Option
    (List ℕ)} {source : Buffered} {old now new : J} {number : ℕ} {answers : List ℕ} (came sent : List ℕ) →
    Progress good r0 r source old now number answers → Consumes r r1 came → IsAtEnd r1 → Appends w0 w1 sent
    → Sends end answers sent →
    Ends wrong end (place (number + 1) now (lines_of (source.waiting ++ came)) (rest_of (source.waiting ++ came))) new
    → Drives good wrong end old new r0 r1 w0 w1
drives-end {good = good} {wrong = wrong} {end = end} {r0 = r0} {r1 = r1} {source = source} {old = old} {now = now}
    {new = new} {answers = answers} came sent h reads at_end writes sends is =
    let front = source.waiting ++ came in
    let taken = joined h.lines ++ front in
    let all : Consumes r0 r1 taken = reads-on r1 came h reads in
    let here : Stops good wrong end old new answers taken =
    stops good wrong end old now new h.lines answers front h.each h.follows
    (subst (λ (k : ℕ). Ends wrong end (place (k + 1) now (lines_of front) (rest_of front)) new) h.counted is) in
    record {
      taken = taken;
      answers = answers;
      sent = sent;
      reads = all;
      writes = writes;
      sends = sends;
      read = here;
      whole = Consumes-whole r0 r1 taken (Stops good wrong end old new answers) all at_end here;
    }

pub ends-wrong : {J F : Type 0} (wrong : J → List ℕ → F → Type 0) (number : ℕ) (fault : F) (now new : J)
    (front bad left ys : List ℕ) → front ≡ bad ++ 10 ∷ left →
    IsOneLine bad → length bad ≤ 640 → wrong now bad fault
    → Ends wrong (ends.Wrong number fault) (place number now (lines_of (front ++ ys)) (rest_of (front ++ ys))) new
ends-wrong wrong number fault now new front bad left ys split one short is =
    rw (split, append_assoc bad (10 ∷ left) ys, lines_of-line bad (left ++ ys) one) (refl, short, is)

pub ends-long : {J F : Type 0} (wrong : J → List ℕ → F → Type 0) (number : ℕ) (now : J) (front long left ys : List ℕ)
    → front ≡ long ++ left → IsOneLine long →
    640 < length long → Ends wrong (ends.Long number)
    (place number now (lines_of (front ++ ys)) (rest_of (front ++ ys))) now
ends-long wrong number now front long left ys split one many = rw
    (split, append_assoc long left ys, lines_of-more long (left ++ ys) one, rest_of-more long (left ++ ys) one)
    (refl, refl, by (lines_of (left ++ ys)) (rest_of (left ++ ys)))
  where
    by : (lines : List (List ℕ)) (rest : List ℕ)
        → 640 < length (next_of (before_lines long lines) (before_rest long lines rest))
    by [] rest = omega (arith, many, length-append long rest)
    by (l ∷ lines) rest = omega (arith, many, length-append long l)

pub ends-last : {J F : Type 0} (wrong : J → List ℕ → F → Type 0) (number : ℕ) (now : J) (front rest : List ℕ)
    → front ≡ rest → rest ≡ [] →
    Ends wrong (ends.Last number) (place number now (lines_of front) (rest_of front)) now
ends-last wrong number now front rest split empty = rw (split, empty) (refl, refl, refl, refl)

pub ends-cut : {J F : Type 0} (wrong : J → List ℕ → F → Type 0) (number : ℕ) (now : J) (front rest : List ℕ)
    → front ≡ rest → IsOneLine rest → 0 < length rest →
    length rest ≤ 640 → Ends wrong (ends.Cut number) (place number now (lines_of front) (rest_of front)) now
ends-cut wrong number now front rest split one some short =
    rw (split, lines_of-rest rest one, rest_of-rest rest one) (refl, refl, refl, some, short)

take-more : (n : ℕ) (lines : List (List ℕ)) → length (joined (take n lines)) ≤ length (joined (take (suc n) lines))
take-more zero lines = omega arith
take-more (suc n) [] = omega arith
take-more (suc n) (l ∷ lines) =
    let h =
    take-more n lines in
    omega (arith, h, length-append l (10 ∷ joined (take n lines)), length-append l (10 ∷ joined (take (suc n) lines)))

-- If a line is incomplete or too long, only the buffered bytes were read.
pub stops-in : {J : Type 0} {good : J → List ℕ → List ℕ → J → Type 0} {r0 r : Option (List ℕ)} {source : Buffered}
    {old now : J} {number : ℕ} {answers : List ℕ}
    (r1 : Option (List ℕ)) (came : List ℕ) → Progress good r0 r source old now number answers → Consumes r r1 came
    → length (source.waiting ++ came) ≤ 65536 → ReadsNear (number + 1) r0 r1
stops-in {source = source} {number = number} r1 came h reads bound =
    let front = source.waiting ++ came in
    let taken = joined h.lines ++ front in
    let lines : take number (lines_of taken) ≡ h.lines = ap (take number) (lines_of-joined h.lines front h.each)
    ∙ ap (λ (n : ℕ). take n (h.lines ++ lines_of front)) h.counted ∙ take-append_seam h.lines (lines_of front) in
    let long = ap (λ (x : List (List ℕ)). length (joined x)) lines in
    let next : suc number ≡ number + 1 = omega arith in
    let more : length (joined (take number (lines_of taken))) ≤ length (joined (take (number + 1) (lines_of taken))) =
    subst
    (λ (n : ℕ). length (joined (take number (lines_of taken))) ≤ length (joined (take n (lines_of taken)))) next
    (take-more number (lines_of taken)) in
    record {
      taken = taken;
      before = number;
      reads = reads-on r1 came h reads;
      number = refl;
      behind_line = omega (arith, bound, long, more, length-append (joined h.lines) front);
      behind_part = omega (arith, bound, long, length-append (joined h.lines) front);
    }

-- After the wrong line, only the buffered bytes were read.
pub stops-behind : {J : Type 0} {good : J → List ℕ → List ℕ → J → Type 0} {r0 r : Option (List ℕ)} {source : Buffered}
    {old now : J} {number : ℕ} {answers : List ℕ}
    (r1 : Option (List ℕ)) (left : Buffered) (came : List ℕ) → Progress good r0 r source old now number answers
    → Consumes r r1 came → source.waiting ++ came
    ≡ left.line ++ 10 ∷ left.waiting → IsOneLine left.line → length left.line ≤ 640 → length left.waiting ≤ 65536
    → ReadsNear (number + 1) r0 r1
stops-behind {source = source} {number = number} r1 left came h reads split one short bound =
    let front = source.waiting ++ came in
    let taken = joined h.lines ++ front in
    let all = h.lines ++ left.line ∷ [] in
    let cut : taken ≡ joined all ++ left.waiting =
    ap (λ (x : List ℕ). joined h.lines ++ x) split ∙ sym (joined-snoc h.lines left.line left.waiting) in
    let count : number + 1 ≡ length all = omega (arith, h.counted, length-append h.lines (left.line ∷ [])) in
    let lines : take number (lines_of taken) ≡ h.lines = ap (take number) (lines_of-joined h.lines front h.each)
    ∙ ap (λ (n : ℕ). take n (h.lines ++ lines_of front)) h.counted ∙ take-append_seam h.lines (lines_of front) in
    let whole : take (number + 1) (lines_of taken) ≡ all = ap (λ (x : List ℕ). take (number + 1) (lines_of x)) cut
    ∙ ap (take (number + 1)) (lines_of-joined all left.waiting (lines-append h.lines (left.line ∷ []) h.each (one, tt)))
    ∙ ap (λ (n : ℕ). take n (all ++ lines_of left.waiting)) count ∙ take-append_seam all (lines_of left.waiting) in
    record {
      taken = taken;
      before = number;
      reads = reads-on r1 came h reads;
      number = refl;
      behind_line =
          omega (
            arith,
            bound,
            ap (λ (x : List (List ℕ)). length (joined x)) whole,
            ap length cut,
            length-append (joined all) left.waiting,
          );
      behind_part = omega (
        arith,
        bound,
        short,
        ap (λ (x : List (List ℕ)). length (joined x)) lines,
        ap length split,
        length-append left.line (10 ∷ left.waiting),
        length-append (joined h.lines) front,
      );
    }
