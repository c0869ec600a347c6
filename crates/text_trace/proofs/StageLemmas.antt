-- How a trace continues from a stage of its check.
use Rattle.std.proofs.Common.{◌≡◌, ◌⊎◌, inl, inr, ℕ, ◌+◌, ◌<◌, ◌≤◌, ◌^◌, List, [], ◌∷◌, ◌++◌, length, append_assoc, append-nil, Option, Some, None, refl, sym, ap, subst, ◌∙◌, arith, cond, Bool, true, false, ◌&&◌, get_or}
use Rattle.std.specs.Option.{option_map}
use Rattle.std.specs.List.{All}
use Rattle.std.specs.Str.{bytes_eq}
use Rattle.std.proofs.lemmas.Slice.Eq.{bytes_eq-Decides}
use Rattle.std.proofs.lemmas.List.Elements.{All-nil, All-head, All-tail, All-cons}
use Rattle.text_base.specs.Lines.{IsOneLine, lines_of, rest_of, joined}
use Rattle.text_base.specs.Fields.{spaced}
use Rattle.text_base.proofs.PlainWords.{IsWritten}
use Rattle.text_base.proofs.LineLemmas.{AreLines, cut, lines_of-joined, rest_of-joined}
use Rattle.synic_board.specs.State.{State}
use Rattle.synic_board.specs.Step.{step}
use Rattle.synic_board.specs.Run.{run_of}
use Rattle.synic_board.specs.declared.event.Event.{Event}
use Rattle.synic_board.specs.declared.event.Reply.{Reply}
use Rattle.text_lines.specs.Items.{Opening as Board, item_fields}
use Rattle.text_lines.specs.Printing.{text_of, reply_fields}
use Rattle.text_lines.specs.Sizes.{AreBoardSizes, opened_by}
use Rattle.text_lines.proofs.ReadLemmas.{yes, mapped}
use Rattle.text_lines.proofs.WrittenLemmas.{board-written}
use Rattle.synic_board.specs.History.{IsLegal, leads_to}
use Rattle.synic_board.specs.declared.history.Entry.{Entry}
use Rattle.text_restore.specs.Restoring as images
use Rattle.text_restore.specs.Restoring.{IsComplete}
use Rattle.text_restore.specs.Images.{Leads, IsImage}
use Rattle.text_restore.specs.Taking.{has_ended}
use Rattle.text_restore.proofs.Unique.{one-next}
use Rattle.text_restore.proofs.Completing.{IsOpen, no-more, ended, not-ended, open-next, Ending, can-end}
use Rattle.text_history.specs.declared.format.Format.{Format}
use Rattle.text_history.specs.declared.format.Format.TheVariants.{One, Two, Three}
use Rattle.text_history.specs.Trace.{IsEntry, title_fields, entry_fields, end_fields, history_lines, trace, board_text, may_open, may_restore, IsOpening, IsBeginning, IsTrace}
use Rattle.text_trace.specs.inside.Stages.{Stage, Title, Opening, Image, Running, Over, entry_at, Board as BoardValues, board_at, begun, performed, image_title, begins_image, entered, follow, Follows, IsWrong, count}
use Rattle.synic_board.specs.Replies.{IsReply}
use Rattle.law_board.proofs.Replies.{step_fits}
use Rattle.text_trace.proofs.Written.{title-written, entry-written, reply-written, end-written, EntryLine, entry-reads, entry-only, end-no_entry, BoardLine, board-reads, board-only}

-- the lines of entries, and the end
abbrev left : Format → List Entry → ℕ → ℕ → List (List (List ℕ))
left f history n next = history_lines history ++ end_fields f n next ∷ []

-- the entries of a run from a state on, and the end line
pub record Goes (f : Format) (s : State) (c : ℕ) (ys : List ℕ) (n : ℕ) : Type 0 where
  pub history : List Entry
  pub fits : All (IsEntry f) history
  pub legal : IsLegal s history
  pub counted : c + length history ≡ n
  pub text : ys ≡ text_of (left f history n (leads_to s history).next_ticket)

-- the reply that is due, and then the rest
pub record Due (f : Format) (s : State) (c : ℕ) (r : Reply) (ys : List ℕ) (n : ℕ) : Type 0 where
  pub rest : List ℕ
  pub text : ys ≡ spaced (reply_fields r) ++ 10 ∷ rest
  pub goes : Goes f s c rest n

pub record Opens (f : Format) (ys : List ℕ) (n : ℕ) : Type 0 where
  pub processors : ℕ
  pub pages : Option ℕ
  pub ticket : ℕ
  pub form : may_open f pages ≡ true
  pub sizes : AreBoardSizes processors pages
  pub given : ticket < 2 ^ 64
  pub rest : List ℕ
  pub text : ys ≡ spaced (item_fields (Board processors pages ticket)) ++ 10 ∷ rest
  pub goes : Goes f (opened_by processors pages ticket) 0 rest n

-- the lines that are left of an image, and then the history on its board
pub record Imaged (f : Format) (i : images.Stage) (ys : List ℕ) (n : ℕ) : Type 0 where
  pub lines : List (List ℕ)
  pub each : AreLines lines
  pub last : images.Stage
  pub leads : Leads i lines last
  pub state : State
  pub complete : IsComplete last state
  pub rest : List ℕ
  pub text : ys ≡ joined lines ++ rest
  pub goes : Goes f state 0 rest n

-- ys is the rest of the trace of a legal history of n entries
abbrev pub Continues : Stage → List ℕ → ℕ → Type 0
Continues Title ys n = IsTrace ys n
Continues (Opening f) ys n = Opens f ys n ⊎ ((may_restore f ≡ true) × Imaged f images.Untitled ys n)
Continues (Image f i) ys n = Imaged f i ys n
Continues (Running f s c None) ys n = Goes f s c ys n
Continues (Running f s c (Some r)) ys n = Due f s c r ys n
Continues (Over c) ys n = (ys ≡ []) × (n ≡ c)

-- lines of an image lead here, and are not all; a reply that is due has at most 8 bytes
abbrev pub Fits : Stage → Type 0
Fits Title = Unit {0}
Fits (Opening f) = Unit {0}
Fits (Image f i) = IsOpen i × (has_ended i ≡ false)
Fits (Running f s c None) = Unit {0}
Fits (Running f s c (Some r)) = IsReply r
Fits (Over c) = Unit {0}

-- the first line
pub first_line : (xs ys xs' ys' : List ℕ) → IsOneLine xs → IsOneLine xs' → xs ++ 10 ∷ ys ≡ xs' ++ 10 ∷ ys'
    → (xs ≡ xs') × (ys ≡ ys')
first_line [] ys [] ys' h k e = (refl, cc)
first_line [] ys (x ∷ xs') ys' h k e = let is : 10 ≡ x = cc in absurd (k.0 (sym is))
first_line (x ∷ xs) ys [] ys' h k e = let is : x ≡ 10 = cc in absurd (h.0 is)
first_line (x ∷ xs) ys (x' ∷ xs') ys' h k e =
    let is : x ≡ x' = cc in
    let t : xs ++ 10 ∷ ys ≡ xs' ++ 10 ∷ ys' = cc in
    let m = first_line xs ys xs' ys' h.1 k.1 t in
    (rw (is, m.0) refl, m.1)

pub text-line : (fields : List (List ℕ)) (lines : List (List (List ℕ)))
    → text_of (fields ∷ lines) ≡ spaced fields ++ 10 ∷ text_of lines
text-line fields lines = append_assoc (spaced fields) (10 ∷ []) (text_of lines)

-- the stage after the line, and the rest that continues from there
pub record Follow (stage : Stage) (line ys : List ℕ) (n : ℕ) : Type 0 where
  pub next : Stage
  pub is : Follows stage line next
  pub on : Continues next ys n

tested : (line w : List ℕ) → line ≡ w → bytes_eq line w ≡ true
tested line w e = (bytes_eq-Decides line w).1 e

tested-no : (line w : List ℕ) → (line ≡ w → ⊥) → bytes_eq line w ≡ false
tested-no line w e = go (bytes_eq line w) refl
  where
    go : (b : Bool) → bytes_eq line w ≡ b → b ≡ false
    go true is = absurd (e ((bytes_eq-Decides line w).0 is))
    go false is = refl

-- the title, and what follows it
title-cut : (f : Format) (line ys more : List ℕ) → IsOneLine line
    → line ++ 10 ∷ ys ≡ (spaced (title_fields f) ++ 10 ∷ []) ++ more → (line ≡ spaced (title_fields f)) × (ys ≡ more)
title-cut f line ys more one text =
    first_line line ys (spaced (title_fields f)) more one (title-written f).one
    (text ∙ append_assoc (spaced (title_fields f)) (10 ∷ []) more)

-- the entries after a beginning
entries-go : (f : Format) (s : State) (n : ℕ) (history : List Entry) → All (IsEntry f) history → IsLegal s history
    → length history ≡ n →
    Goes f s 0 (text_of (left f history (length history) (leads_to s history).next_ticket)) n
entries-go f s n history fits legal counted = record {
  history = history;
  fits = fits;
  legal = legal;
  counted = omega (arith, counted);
  text = ap (λ (k : ℕ). text_of (left f history k (leads_to s history).next_ticket)) counted;
}

-- a title is followed by a beginning of its format
pub title-follows : (f : Format) → follow Title (spaced (title_fields f)) ≡ Some (Opening f)
title-follows One = refl
title-follows Two = refl
title-follows Three = refl

back-board : (f : Format) (line ys : List ℕ) (n : ℕ) (beginning : List ℕ) (s : State) (history : List Entry)
    → IsOneLine line →
    IsOpening f beginning s → All (IsEntry f) history → IsLegal s history → length history ≡ n
    → line ++ 10 ∷ ys ≡ trace f beginning s history → Follow Title line ys n
back-board f line ys n beginning s history one h fits legal counted written =
    let rest = text_of (left f history (length history) (leads_to s history).next_ticket) in
    let parts = title-cut f line ys (beginning ++ rest) one written in
    let board = item_fields (Board h.processors h.pages h.ticket) in
    record {
      next = Opening f;
      is = ap (follow Title) parts.0 ∙ title-follows f;
      on = inl (record {
        processors = h.processors;
        pages = h.pages;
        ticket = h.ticket;
        form = h.form;
        sizes = h.sizes;
        given = h.given;
        rest = rest;
        text = parts.1 ∙ ap (λ (x : List ℕ). x ++ rest) h.line ∙ append_assoc (spaced board) (10 ∷ []) rest;
        goes = subst (λ (t : State). Goes f t 0 rest n) h.state (entries-go f s n history fits legal counted);
      });
    }

back-image : (f : Format) (line ys : List ℕ) (n : ℕ) (beginning : List ℕ) (s : State) (history : List Entry)
    → IsOneLine line → may_restore f ≡ true → IsImage beginning s →
    All (IsEntry f) history → IsLegal s history → length history ≡ n → line ++ 10 ∷ ys ≡ trace f beginning s history
    → Follow Title line ys n
back-image f line ys n beginning s history one may h fits legal counted written =
    let rest = text_of (left f history (length history) (leads_to s history).next_ticket) in
    let parts = title-cut f line ys (beginning ++ rest) one written in
    let whole : beginning ≡ joined (lines_of beginning) =
    (cut beginning).whole ∙ ap (λ (x : List ℕ). joined (lines_of beginning) ++ x) h.whole
    ∙ append-nil (joined (lines_of beginning)) in
    record {
      next = Opening f;
      is = ap (follow Title) parts.0 ∙ title-follows f;
      on = inr (
        may,
        record {
          lines = lines_of beginning;
          each = (cut beginning).each;
          last = h.stage;
          leads = h.leads;
          state = s;
          complete = h.complete;
          rest = rest;
          text = parts.1 ∙ ap (λ (x : List ℕ). x ++ rest) whole;
          goes = entries-go f s n history fits legal counted;
        },
      );
    }

back-title : (line ys : List ℕ) (n : ℕ) → IsOneLine line → IsTrace (line ++ 10 ∷ ys) n → Follow Title line ys n
back-title line ys n one t = by t.begins
  where
    by : IsBeginning t.format t.beginning t.state → Follow Title line ys n
    by (inl opens) =
        back-board t.format line ys n t.beginning t.state t.history one opens t.fits t.legal t.counted t.written
    by (inr (may, image)) =
        back-image t.format line ys n t.beginning t.state t.history one may image t.fits t.legal t.counted t.written

-- the text of a title, a beginning and entries
on-beginning : (f : Format) (line ys beginning : List ℕ) (s : State) (n : ℕ) (rest : List ℕ)
    → IsBeginning f beginning s → line ≡ spaced (title_fields f) → ys ≡ beginning ++ rest →
    Goes f s 0 rest n → IsTrace (line ++ 10 ∷ ys) n
on-beginning f line ys beginning s n rest begins is text goes =
    let history = goes.history in
    let next = (leads_to s history).next_ticket in
    let same : length history ≡ n = omega (arith, goes.counted) in
    let tail : rest ≡ text_of (left f history (length history) next) =
    goes.text ∙ ap (λ (k : ℕ). text_of (left f history k next)) (sym same) in
    record {
      format = f;
      beginning = beginning;
      state = s;
      history = history;
      begins = begins;
      fits = goes.fits;
      legal = goes.legal;
      counted = same;
      written = ap (λ (x : List ℕ). x ++ 10 ∷ ys) is
          ∙ ap (λ (x : List ℕ). spaced (title_fields f) ++ 10 ∷ x) (text ∙ ap (λ (x : List ℕ). beginning ++ x) tail)
          ∙ sym (append_assoc (spaced (title_fields f)) (10 ∷ [])
          (beginning ++ text_of (left f history (length history) next)));
    }

opening-is : (f : Format) (ys : List ℕ) (n : ℕ) (h : Opens f ys n)
    → IsOpening f (board_text h.processors h.pages h.ticket) (opened_by h.processors h.pages h.ticket)
opening-is f ys n h =
    record {
      processors = h.processors;
      pages = h.pages;
      ticket = h.ticket;
      form = h.form;
      sizes = h.sizes;
      given = h.given;
      line = refl;
      state = refl;
    }

on-board : (f : Format) (line ys : List ℕ) (n : ℕ) → line ≡ spaced (title_fields f) → Opens f ys n
    → IsTrace (line ++ 10 ∷ ys) n
on-board f line ys n is h =
    on-beginning f line ys (board_text h.processors h.pages h.ticket)
    (opened_by h.processors h.pages h.ticket) n h.rest (inl (opening-is f ys n h)) is
    (h.text ∙ sym (append_assoc (spaced (item_fields (Board h.processors h.pages h.ticket))) (10 ∷ []) h.rest)) h.goes

-- the lines of a text of whole lines
lines-of : (lines : List (List ℕ)) → AreLines lines → lines_of (joined lines) ≡ lines
lines-of lines each = ap lines_of (sym (append-nil (joined lines))) ∙ lines_of-joined lines [] each ∙ append-nil lines

on-image : (f : Format) (line ys : List ℕ) (n : ℕ) → line ≡ spaced (title_fields f) → may_restore f ≡ true
    → Imaged f images.Untitled ys n → IsTrace (line ++ 10 ∷ ys) n
on-image f line ys n is may h = on-beginning f line ys (joined h.lines) h.state n h.rest (inr (
  may,
  record {
    stage = h.last;
    leads = subst (λ (ls : List (List ℕ)). Leads images.Untitled ls h.last) (sym (lines-of h.lines h.each)) h.leads;
    complete = h.complete;
    whole = ap rest_of (sym (append-nil (joined h.lines))) ∙ rest_of-joined h.lines [] h.each;
  },
)) is h.text h.goes

on-title : (f : Format) (line ys : List ℕ) (n : ℕ) → line ≡ spaced (title_fields f) → Continues (Opening f) ys n
    → IsTrace (line ++ 10 ∷ ys) n
on-title f line ys n is (inl h) = on-board f line ys n is h
on-title f line ys n is (inr (may, h)) = on-image f line ys n is may h

-- a stage of an image, or the history on its board
module _ (f : Format) (ys : List ℕ) (n : ℕ) where
  at-image : (i : images.Stage) (lines : List (List ℕ)) (last : images.Stage) (state : State) (rest : List ℕ)
      → AreLines lines → Leads i lines last → IsComplete last state →
      ys ≡ joined lines ++ rest → Goes f state 0 rest n → Imaged f i ys n
  at-image i lines last state rest each leads complete text goes = record {
    lines = lines;
    each = each;
    last = last;
    leads = leads;
    state = state;
    complete = complete;
    rest = rest;
    text = text;
    goes = goes;
  }

  at-end : (s : State) (l k : ℕ) (lines : List (List ℕ)) (last : images.Stage) (state : State) (rest : List ℕ)
      → has_ended (images.Body s l k) ≡ true → Leads (images.Body s l k) lines last →
      IsComplete last state → ys ≡ joined lines ++ rest → Goes f state 0 rest n → Goes f s 0 ys n
  at-end s l k [] last state rest is leads complete text goes =
      let e = sym leads ∙ complete.1 in
      let same : s ≡ state = cc in
      subst (λ (x : List ℕ). Goes f s 0 x n) (sym text) (subst (λ (t : State). Goes f t 0 rest n) (sym same) goes)
  at-end s l k (line ∷ lines) last state rest is leads complete text goes =
      absurd (no-more (images.Body s l k) s line leads.0 (ended s l k is) leads.2)

  enter : (i : images.Stage) (lines : List (List ℕ)) (last : images.Stage) (state : State) (rest : List ℕ)
      → AreLines lines → Leads i lines last → IsComplete last state →
      ys ≡ joined lines ++ rest → Goes f state 0 rest n → Continues (entered f i) ys n
  enter images.Untitled lines last state rest each leads complete text goes =
      at-image images.Untitled lines last state rest each leads complete text goes
  enter images.Titled lines last state rest each leads complete text goes =
      at-image images.Titled lines last state rest each leads complete text goes
  enter (images.Body s l k) lines last state rest each leads complete text goes =
      by (has_ended (images.Body s l k)) refl
    where
      by : (t : Bool) → has_ended (images.Body s l k) ≡ t
          → Continues (cond t (Running f s 0 None) (Image f (images.Body s l k))) ys n
      by true is = at-end s l k lines last state rest is leads complete text goes
      by false is = at-image (images.Body s l k) lines last state rest each leads complete text goes

  add-line : (i next : images.Stage) (line : List ℕ) → IsOneLine line → length line ≤ 640 → images.Follows i line next
      → Imaged f next ys n → Imaged f i (line ++ 10 ∷ ys) n
  add-line i next line one short follows h = record {
    lines = line ∷ h.lines;
    each = (one, h.each);
    last = h.last;
    leads = (next, short, follows, h.leads);
    state = h.state;
    complete = h.complete;
    rest = h.rest;
    text = ap (λ (x : List ℕ). line ++ 10 ∷ x) h.text ∙ sym (append_assoc line (10 ∷ joined h.lines) h.rest);
    goes = h.goes;
  }

  on-image-line : (i next : images.Stage) (line : List ℕ) → IsOneLine line → length line ≤ 640
      → images.Follows i line next → Continues (entered f next) ys n → Imaged f i (line ++ 10 ∷ ys) n
  on-image-line i images.Untitled line one short follows h = add-line i images.Untitled line one short follows h
  on-image-line i images.Titled line one short follows h = add-line i images.Titled line one short follows h
  on-image-line i (images.Body s l k) line one short follows h = by (has_ended (images.Body s l k)) refl h
    where
      by : (t : Bool) → has_ended (images.Body s l k) ≡ t
          → Continues (cond t (Running f s 0 None) (Image f (images.Body s l k))) ys n → Imaged f i (line ++ 10 ∷ ys) n
      by true is h = record {
        lines = line ∷ [];
        each = (one, tt);
        last = images.Body s l k;
        leads = (images.Body s l k, short, follows, refl);
        state = s;
        complete = ended s l k is;
        rest = ys;
        text = sym (append_assoc line (10 ∷ []) ys);
        goes = h;
      }
      by false is h = add-line i (images.Body s l k) line one short follows h

back-lines : (f : Format) (i : images.Stage) (line ys : List ℕ) (n : ℕ) (lines : List (List ℕ)) (last : images.Stage)
    (state : State) (rest : List ℕ) → IsOneLine line → has_ended i ≡ false → AreLines lines →
    Leads i lines last → IsComplete last state → line ++ 10 ∷ ys ≡ joined lines ++ rest → Goes f state 0 rest n
    → Follow (Image f i) line ys n
back-lines f i line ys n [] last state rest one off each leads complete text goes =
    absurd (not-ended i state off (subst (λ (x : images.Stage). IsComplete x state) leads complete))
back-lines f i line ys n (l ∷ lines) last state rest one off each leads complete text goes =
    let parts = first_line line ys l (joined lines ++ rest) one each.0
    (text ∙ append_assoc l (10 ∷ joined lines) rest) in
    record {
      next = entered f leads.0;
      is = (leads.0, subst (λ (x : List ℕ). images.Follows i x leads.0) (sym parts.0) leads.2, refl);
      on = enter f ys n leads.0 lines last state rest each.1 leads.3 complete parts.1 goes;
    }

-- a board line begins no image
pub no-image : (p : ℕ) (g : Option ℕ) (t : ℕ) → spaced (item_fields (Board p g t)) ≡ image_title → ⊥
no-image p g t e = let first : 98 ≡ 105 = ap (λ (l : List ℕ). get_or l 0 0) e in absurd (omega (arith, first))

second-fails : (b : Bool) → (b && false) ≡ false
second-fails true = refl
second-fails false = refl

back-board-line : (f : Format) (line ys : List ℕ) (n : ℕ) → IsOneLine line → Opens f (line ++ 10 ∷ ys) n
    → Follow (Opening f) line ys n
back-board-line f line ys n one h =
    let board = item_fields (Board h.processors h.pages h.ticket) in
    let cut = first_line line ys (spaced board) h.rest one (board-written h.processors h.pages h.ticket).one h.text in
    let read : board_at f line ≡ Some (h.processors, h.pages, h.ticket) =
    ap (board_at f) cut.0 ∙ board-reads f h.processors h.pages h.ticket h.form h.sizes h.given in
    let other = tested-no line image_title (λ is. no-image h.processors h.pages h.ticket (sym cut.0 ∙ is)) in
    let no_title : begins_image f line ≡ false =
    ap (λ (b : Bool). may_restore f && b) other ∙ second-fails (may_restore f) in
    record {
      next = begun f (h.processors, h.pages, h.ticket);
      is = rw no_title (ap (option_map (begun f)) read);
      on = subst (λ (x : List ℕ). Goes f (opened_by h.processors h.pages h.ticket) 0 x n) (sym cut.1) h.goes;
    }

-- the first line of an image
back-title-line : (f : Format) (line ys : List ℕ) (n : ℕ) → IsOneLine line → may_restore f ≡ true
    → Imaged f images.Untitled (line ++ 10 ∷ ys) n → Follow (Opening f) line ys n
back-title-line f line ys n one may h =
    let g = back-lines f images.Untitled line ys n h.lines h.last h.state h.rest one refl h.each h.leads h.complete
    h.text h.goes in
    let titled : g.is.0 ≡ images.Titled = g.is.1.1 in
    let begins : begins_image f line ≡ true = rw (may, tested line image_title g.is.1.0) refl in
    record {
      next = Image f images.Titled;
      is = rw begins refl;
      on = subst (λ (s : Stage). Continues s ys n) (g.is.2 ∙ ap (entered f) titled) g.on;
    }

back-opening : (f : Format) (line ys : List ℕ) (n : ℕ) → IsOneLine line → Continues (Opening f) (line ++ 10 ∷ ys) n
    → Follow (Opening f) line ys n
back-opening f line ys n one (inl h) = back-board-line f line ys n one h
back-opening f line ys n one (inr (may, h)) = back-title-line f line ys n one may h

on-opening : (f : Format) (line ys : List ℕ) (n : ℕ) (q : BoardValues) → BoardLine f line q
    → Goes f (opened_by q.0 q.1 q.2) 0 ys n → Opens f (line ++ 10 ∷ ys) n
on-opening f line ys n q o h = record {
  processors = q.0;
  pages = q.1;
  ticket = q.2;
  form = o.form;
  sizes = o.sizes;
  given = o.given;
  rest = ys;
  text = ap (λ (x : List ℕ). x ++ 10 ∷ ys) o.text;
  goes = h;
}

back-entry : (f : Format) (s : State) (c : ℕ) (line ys : List ℕ) (n : ℕ) (history : List Entry) → IsOneLine line
    → All (IsEntry f) history → IsLegal s history → c + length history ≡ n
    → line ++ 10 ∷ ys ≡ text_of (left f history n (leads_to s history).next_ticket)
    → Follow (Running f s c None) line ys n
unfolding run_of
back-entry f s c line ys n [] one fits legal counted text =
    let same : n ≡ c = omega (arith, counted) in
    let last = end_fields f n s.next_ticket in
    let cut = first_line line ys (spaced last) [] one (end-written f n s.next_ticket).one (text ∙ text-line last []) in
    record {
      next = Over c;
      is = rw
          (tested line (spaced (end_fields f c s.next_ticket))
          (cut.0 ∙ ap (λ (k : ℕ). spaced (end_fields f k s.next_ticket)) same)) refl;
      on = (cut.1, same);
    }
back-entry f s c line ys n (e ∷ history) one fits legal counted text =
    let now : State = (step s e.event).0 in
    let rest = left f history n (leads_to now history).next_ticket in
    let h : IsEntry f e = All-head (IsEntry f) e history fits in
    let written = entry-written e.actor e.event h.actor h.event in
    let tail = text_of (reply_fields e.reply ∷ rest) in
    let cut = first_line line ys (spaced (entry_fields e.actor e.event)) tail one written.one
    (text ∙ text-line (entry_fields e.actor e.event) (reply_fields e.reply ∷ rest)) in
    let answer : e.reply ≡ (step s e.event).1 = cc in
    let on : IsLegal now history = cc in
    let read : entry_at f line ≡ Some e.event = ap (entry_at f) cut.0 ∙ entry-reads f e h in
    let no_end =
    tested-no line (spaced (end_fields f c s.next_ticket))
    (λ is. end-no_entry f c s.next_ticket e.actor e.event h.actor h.event (sym is ∙ cut.0)) in
    record {
      next = performed f s c e.event;
      is = rw no_end (ap (option_map (performed f s c)) read);
      on = record {
        rest = text_of rest;
        text = cut.1 ∙ text-line (reply_fields e.reply) rest
            ∙ ap (λ (r : Reply). spaced (reply_fields r) ++ 10 ∷ text_of rest) answer;
        goes = record {
          history = history;
          fits = All-tail (IsEntry f) e history fits;
          legal = on;
          counted = omega (arith, counted);
          text = refl;
        };
      };
    }

on-end : (f : Format) (s : State) (c : ℕ) (line ys : List ℕ) (n : ℕ) → line ≡ spaced (end_fields f c s.next_ticket)
    → (ys ≡ []) × (n ≡ c) → Goes f s c (line ++ 10 ∷ ys) n
unfolding run_of
on-end f s c line ys n is h = record {
  history = [];
  fits = All-nil (IsEntry f);
  legal = refl;
  counted = omega (arith, h.1);
  text = rw (is, h.0, h.1) (sym (text-line (end_fields f c s.next_ticket) []));
}

on-entry : (f : Format) (s : State) (c : ℕ) (line ys : List ℕ) (n : ℕ) (event : Event) → EntryLine f line event
    → Due f (step s event).0 (c + 1) (step s event).1 ys n → Goes f s c (line ++ 10 ∷ ys) n
unfolding run_of
on-entry f s c line ys n event l h =
    let now : State = (step s event).0 in
    let rest = left f h.goes.history n (leads_to now h.goes.history).next_ticket in
    let r = (step s event).1 in
    let all : ys ≡ text_of (reply_fields r ∷ rest) =
    h.text ∙ ap (λ (x : List ℕ). spaced (reply_fields r) ++ 10 ∷ x) h.goes.text
    ∙ sym (text-line (reply_fields r) rest) in
    record {
      history = record { actor = l.actor; event = event; reply = r } ∷ h.goes.history;
      fits = All-cons (IsEntry f) (record { actor = l.actor; event = event; reply = r }) h.goes.history
          (record { actor = l.small; event = l.fits; line = l.has }) h.goes.fits;
      legal = ap (λ (rs : List Reply). r ∷ rs) h.goes.legal;
      counted = omega (arith, h.goes.counted);
      text = ap (λ (x : List ℕ). x ++ 10 ∷ ys) l.text
          ∙ ap (λ (x : List ℕ). spaced (entry_fields l.actor event) ++ 10 ∷ x) all
          ∙ sym (text-line (entry_fields l.actor event) (reply_fields r ∷ rest));
    }

back-reply : (f : Format) (s : State) (c : ℕ) (r : Reply) (line ys : List ℕ) (n : ℕ) → IsOneLine line → IsReply r
    → Due f s c r (line ++ 10 ∷ ys) n → Follow (Running f s c (Some r)) line ys n
back-reply f s c r line ys n one short h =
    let cut = first_line line ys (spaced (reply_fields r)) h.rest one (reply-written r short).one h.text in
    record {
      next = Running f s c None;
      is = rw (tested line (spaced (reply_fields r)) cut.0) refl;
      on = subst (λ (x : List ℕ). Goes f s c x n) (sym cut.1) h.goes;
    }

no_more : (line ys : List ℕ) → line ++ 10 ∷ ys ≡ [] → ⊥
no_more [] ys e = cc
no_more (x ∷ line) ys e = cc

-- If a line and a rest continue a trace, the line is allowed.
pub back : (stage : Stage) (line ys : List ℕ) (n : ℕ) → Fits stage → IsOneLine line
    → Continues stage (line ++ 10 ∷ ys) n → Follow stage line ys n
back Title line ys n short one h = back-title line ys n one h
back (Opening f) line ys n short one h = back-opening f line ys n one h
back (Image f i) line ys n short one h =
    back-lines f i line ys n h.lines h.last h.state h.rest one short.1 h.each h.leads h.complete h.text h.goes
back (Running f s c None) line ys n short one h =
    back-entry f s c line ys n h.history one h.fits h.legal h.counted h.text
back (Running f s c (Some r)) line ys n short one h = back-reply f s c r line ys n one short h
back (Over c) line ys n short one h = absurd (no_more line ys h.0)

pub move : (from to : Stage) (ys : List ℕ) (n : ℕ) → Some to ≡ Some from → Continues from ys n → Continues to ys n
move from to ys n e h = let same : from ≡ to = cc in subst (λ (s : Stage). Continues s ys n) same h

-- a title
forward-title : (next : Stage) (line ys : List ℕ) (n : ℕ) → follow Title line ≡ Some next → Continues next ys n
    → IsTrace (line ++ 10 ∷ ys) n
forward-title next line ys n e h =
    yes (bytes_eq line (spaced (title_fields One))) (Some (Opening One)) _ next _ (titled One)
    (yes (bytes_eq line (spaced (title_fields Two))) (Some (Opening Two)) _ next _ (titled Two)
    (yes (bytes_eq line (spaced (title_fields Three))) (Some (Opening Three)) None next _ (titled Three) (λ e. cc))) e
  where
    titled : (f : Format) → bytes_eq line (spaced (title_fields f)) ≡ true → Some (Opening f) ≡ Some next
        → IsTrace (line ++ 10 ∷ ys) n
    titled f is e =
        on-title f line ys n ((bytes_eq-Decides line (spaced (title_fields f))).0 is) (move next (Opening f) ys n e h)

-- the first line of an image
on-image-title : (f : Format) (line ys : List ℕ) (n : ℕ) → IsOneLine line → length line ≤ 640
    → begins_image f line ≡ true → Imaged f images.Titled ys n → Continues (Opening f) (line ++ 10 ∷ ys) n
on-image-title f line ys n one short begins h = by (may_restore f) refl begins
  where
    by : (t : Bool) → may_restore f ≡ t → (t && bytes_eq line image_title) ≡ true
        → Continues (Opening f) (line ++ 10 ∷ ys) n
    by true may is =
        inr (
          may,
          add-line f ys n images.Untitled images.Titled line one short
              ((bytes_eq-Decides line image_title).0 is, refl) h,
        )
    by false may is = cc

-- a line that is not of an image
forward-follow : (stage next : Stage) (line ys : List ℕ) (n : ℕ) → IsOneLine line → length line ≤ 640
    → follow stage line ≡ Some next → Continues next ys n → Continues stage (line ++ 10 ∷ ys) n
forward-follow Title next line ys n one short e h = forward-title next line ys n e h
forward-follow (Opening f) next line ys n one short e h =
    yes (begins_image f line) (Some (Image f images.Titled)) (option_map (begun f) (board_at f line)) next _
    (λ is e. on-image-title f line ys n one short is (move next (Image f images.Titled) ys n e h))
    (λ e. mapped (begun f) (board_at f line) next _
    (λ q is e. inl (on-opening f line ys n q (board-only f line q is)
    (move next (begun f q) ys n (ap (λ (s : Stage). Some s) e) h))) e) e
forward-follow (Image f i) next line ys n one short e h = cc
forward-follow (Running f s c None) next line ys n one short e h =
    yes (bytes_eq line (spaced (end_fields f c s.next_ticket))) (Some (Over c))
    (option_map (performed f s c) (entry_at f line)) next _
    (λ is e. on-end f s c line ys n ((bytes_eq-Decides line (spaced (end_fields f c s.next_ticket))).0 is)
    (move next (Over c) ys n e h))
    (λ e. mapped (performed f s c) (entry_at f line) next _
    (λ event is e. on-entry f s c line ys n event (entry-only f line event is)
    (move next (performed f s c event) ys n (ap (λ (s : Stage). Some s) e) h)) e) e
forward-follow (Running f s c (Some r)) next line ys n one short e h =
    yes (bytes_eq line (spaced (reply_fields r))) (Some (Running f s c None)) None next _
    (λ is e. record {
      rest = ys;
      text =
          ap (λ (x : List ℕ). x ++ 10 ∷ ys) ((bytes_eq-Decides line (spaced (reply_fields r))).0 is);
      goes =
          move next (Running f s c None) ys n e h;
    })
    (λ e. cc) e
forward-follow (Over c) next line ys n one short e h = cc

-- If a line is allowed, the line and a rest that continues from the next stage continue the trace.
pub forward : (stage next : Stage) (line ys : List ℕ) (n : ℕ) → IsOneLine line → length line ≤ 640
    → Follows stage line next → Continues next ys n → Continues stage (line ++ 10 ∷ ys) n
forward (Image f i) next line ys n one short e h =
    on-image-line f ys n i e.0 line one short e.1 (subst (λ (x : Stage). Continues x ys n) e.2 h)
forward stage next line ys n one short e h = forward-follow stage next line ys n one short e h

-- A line leads to one stage, or to none.
pub one-follow : (stage : Stage) (line : List ℕ) (a b : Stage) → Follows stage line a → Follows stage line b → a ≡ b
one-follow (Image f i) line a b h k = h.2 ∙ ap (entered f) (one-next i line h.0 k.0 h.1 k.1) ∙ sym k.2
one-follow stage line a b h k = let e = sym h ∙ k in cc

pub not-both : (stage : Stage) (line : List ℕ) (fault : Unit {0}) (next : Stage) → IsWrong stage line fault
    → Follows stage line next → ⊥
not-both (Image f i) line fault next h k = h k.0 k.1
not-both stage line fault next h k = let e = sym h ∙ k in cc

-- at most one more entry, and a short reply
pub record Reached (stage next : Stage) : Type 0 where
  pub bound : count next ≤ count stage + 1
  pub fits : Fits stage → Fits next

reached-running : (f : Format) (s : State) (c : ℕ) → Reached (Running f s c None) (Over c)
reached-running f s c = record { bound = omega arith; fits = λ h. tt }

reached-image : (f : Format) (i next : images.Stage) (line : List ℕ) → images.Follows i line next
    → Reached (Image f i) (entered f next)
reached-image f i images.Untitled line e =
    record { bound = omega arith; fits = λ h. (open-next i line images.Untitled h.0 e refl, refl) }
reached-image f i images.Titled line e =
    record { bound = omega arith; fits = λ h. (open-next i line images.Titled h.0 e refl, refl) }
reached-image f i (images.Body s l k) line e = by (has_ended (images.Body s l k)) refl
  where
    by : (t : Bool) → has_ended (images.Body s l k) ≡ t
        → Reached (Image f i) (cond t (Running f s 0 None) (Image f (images.Body s l k)))
    by true is = record { bound = omega arith; fits = λ h. tt }
    by false is = record { bound = omega arith; fits = λ h. (open-next i line (images.Body s l k) h.0 e is, is) }

reached-title : (next : Stage) (line : List ℕ) → follow Title line ≡ Some next → Reached Title next
reached-title next line e =
    yes (bytes_eq line (spaced (title_fields One))) (Some (Opening One)) _ next _ (titled One)
    (yes (bytes_eq line (spaced (title_fields Two))) (Some (Opening Two)) _ next _ (titled Two)
    (yes (bytes_eq line (spaced (title_fields Three))) (Some (Opening Three)) None next _ (titled Three) (λ e. cc))) e
  where
    titled : (f : Format) → bytes_eq line (spaced (title_fields f)) ≡ true → Some (Opening f) ≡ Some next
        → Reached Title next
    titled f is e =
        let same : Opening f ≡ next = cc in subst (Reached Title) same (record { bound = omega arith; fits = λ h. tt })

reached-follow : (stage next : Stage) (line : List ℕ) → follow stage line ≡ Some next → Reached stage next
reached-follow Title next line e = reached-title next line e
reached-follow (Opening f) next line e =
    yes (begins_image f line) (Some (Image f images.Titled)) (option_map (begun f) (board_at f line)) next
    (Reached (Opening f) next)
    (λ is e. let same : Image f images.Titled ≡ next = cc in
    subst (Reached (Opening f)) same (record { bound = omega arith; fits = λ h. (tt, refl) }))
    (λ e. mapped (begun f) (board_at f line) next (Reached (Opening f) next)
    (λ q is e. subst (Reached (Opening f)) e (record { bound = omega arith; fits = λ h. tt })) e) e
reached-follow (Image f i) next line e = cc
reached-follow (Running f s c None) next line e =
    yes (bytes_eq line (spaced (end_fields f c s.next_ticket))) (Some (Over c))
    (option_map (performed f s c) (entry_at f line)) next (Reached (Running f s c None) next)
    (λ is e. let same : Over c ≡ next = cc in subst (Reached (Running f s c None)) same (reached-running f s c))
    (λ e. mapped (performed f s c) (entry_at f line) next (Reached (Running f s c None) next)
    (λ event is e. subst (Reached (Running f s c None)) e
    (record { bound = omega arith; fits = λ h. step_fits s event })) e) e
reached-follow (Running f s c (Some r)) next line e =
    yes (bytes_eq line (spaced (reply_fields r))) (Some (Running f s c None)) None next
    (Reached (Running f s c (Some r)) next)
    (λ is e. let same : Running f s c None ≡ next = cc in
    subst (Reached (Running f s c (Some r))) same (record { bound = omega arith; fits = λ h. tt })) (λ e. cc) e
reached-follow (Over c) next line e = cc

pub reached : (stage next : Stage) (line : List ℕ) → Follows stage line next → Reached stage next
reached (Image f i) next line e = subst (Reached (Image f i)) (sym e.2) (reached-image f i e.0 line e.1)
reached stage next line e = reached-follow stage next line e

-- a whole line that is not too long comes first
pub record Starts (ys : List ℕ) : Type 0 where
  pub line : List ℕ
  pub rest : List ℕ
  pub text : ys ≡ line ++ 10 ∷ rest
  pub one : IsOneLine line
  pub short : length line ≤ 640

start : (fields : List (List ℕ)) (ys rest : List ℕ) → IsWritten fields → ys ≡ spaced fields ++ 10 ∷ rest → Starts ys
start fields ys rest w e = record { line = spaced fields; rest = rest; text = e; one = w.one; short = w.short }

starts-goes : (f : Format) (ys : List ℕ) (n next : ℕ) (history : List Entry) → All (IsEntry f) history
    → ys ≡ text_of (left f history n next) → Starts ys
starts-goes f ys n next [] fits text =
    start (end_fields f n next) ys [] (end-written f n next) (text ∙ text-line (end_fields f n next) [])
starts-goes f ys n next (e ∷ history) fits text =
    let h : IsEntry f e = All-head (IsEntry f) e history fits in
    let rest = reply_fields e.reply ∷ left f history n next in
    start (entry_fields e.actor e.event) ys (text_of rest) (entry-written e.actor e.event h.actor h.event)
    (text ∙ text-line (entry_fields e.actor e.event) rest)

starts-image : (i : images.Stage) (ys : List ℕ) (lines : List (List ℕ)) (last : images.Stage) (state : State)
    (rest : List ℕ) → has_ended i ≡ false → AreLines lines → Leads i lines last →
    IsComplete last state → ys ≡ joined lines ++ rest → Starts ys
starts-image i ys [] last state rest off each leads complete text =
    absurd (not-ended i state off (subst (λ (x : images.Stage). IsComplete x state) leads complete))
starts-image i ys (l ∷ lines) last state rest off each leads complete text = record {
  line = l;
  rest = joined lines ++ rest;
  text = text ∙ append_assoc l (10 ∷ joined lines) rest;
  one = each.0;
  short = leads.1;
}

-- Only a complete trace has no further line.
pub starts : (stage : Stage) (ys : List ℕ) (n : ℕ) → Fits stage → Continues stage ys n
    → ((stage ≡ Over n) × (ys ≡ [])) ⊎ Starts ys
starts Title ys n short h =
    let rest = h.beginning ++ text_of
    (left h.format h.history (length h.history) (leads_to h.state h.history).next_ticket) in
    inr (start (title_fields h.format) ys rest (title-written h.format)
    (h.written ∙ append_assoc (spaced (title_fields h.format)) (10 ∷ []) rest))
starts (Opening f) ys n short (inl h) =
    inr (start (item_fields (Board h.processors h.pages h.ticket)) ys h.rest
    (board-written h.processors h.pages h.ticket) h.text)
starts (Opening f) ys n short (inr (may, h)) =
    inr (starts-image images.Untitled ys h.lines h.last h.state h.rest refl h.each h.leads h.complete h.text)
starts (Image f i) ys n short h =
    inr (starts-image i ys h.lines h.last h.state h.rest short.1 h.each h.leads h.complete h.text)
starts (Running f s c None) ys n short h =
    inr (starts-goes f ys n (leads_to s h.history).next_ticket h.history h.fits h.text)
starts (Running f s c (Some r)) ys n short h = inr (start (reply_fields r) ys h.rest (reply-written r short) h.text)
starts (Over c) ys n short h = inl (ap Over (sym h.1), h.0)

-- From each stage some trace continues.
pub record Alive (stage : Stage) : Type 0 where
  pub rest : List ℕ
  pub entries : ℕ
  pub on : Continues stage rest entries

goes-end : (f : Format) (s : State) (c : ℕ) → Goes f s c (text_of (left f [] c s.next_ticket)) c
unfolding run_of
goes-end f s c = record { history = []; fits = All-nil (IsEntry f); legal = refl; counted = omega arith; text = refl }

-- a board line with one page may be in each format
opens-end : (f : Format) → may_open f (Some 1) ≡ true
    → Opens f (spaced (item_fields (Board 1 (Some 1) 0)) ++ 10 ∷ text_of (left f [] 0 0)) 0
opens-end f form = record {
  processors = 1;
  pages = Some 1;
  ticket = 0;
  form = form;
  sizes = record {
    some_processor = omega arith;
    processor_bound = omega arith;
    some_page = omega arith;
    page_bound = omega arith;
  };
  given = omega arith;
  rest = text_of (left f [] 0 0);
  text = refl;
  goes = goes-end f (opened_by 1 (Some 1) 0) 0;
}

imaged-end : (f : Format) (i : images.Stage) (e : Ending i)
    → Imaged f i (joined e.lines ++ text_of (left f [] 0 e.state.next_ticket)) 0
imaged-end f i e = record {
  lines = e.lines;
  each = e.each;
  last = e.last;
  leads = e.leads;
  state = e.state;
  complete = e.complete;
  rest = text_of (left f [] 0 e.state.next_ticket);
  text = refl;
  goes = goes-end f e.state 0;
}

alive-opening : (f : Format) → Alive (Opening f)
alive-opening One = record { rest = _; entries = 0; on = inl (opens-end One refl) }
alive-opening Two = record { rest = _; entries = 0; on = inl (opens-end Two refl) }
alive-opening Three = record { rest = _; entries = 0; on = inl (opens-end Three refl) }

pub alive : (stage : Stage) → Fits stage → Alive stage
alive Title fits =
    let a =
    alive-opening One in
    record { rest = _; entries = a.entries; on = on-title One (spaced (title_fields One)) a.rest a.entries refl a.on }
alive (Opening f) fits = alive-opening f
alive (Image f i) fits = record { rest = _; entries = 0; on = imaged-end f i (can-end i fits.0) }
alive (Running f s c None) fits = record { rest = _; entries = c; on = goes-end f s c }
alive (Running f s c (Some r)) fits = record {
  rest = spaced (reply_fields r) ++ 10 ∷ text_of (left f [] c s.next_ticket);
  entries = c;
  on = record { rest = text_of (left f [] c s.next_ticket); text = refl; goes = goes-end f s c };
}
alive (Over c) fits = record { rest = []; entries = c; on = (refl, refl) }
