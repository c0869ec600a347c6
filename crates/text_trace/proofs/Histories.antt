-- A text is the trace of at most one history.
use Rattle.std.proofs.Common.{◌≡◌, inl, inr, ℕ, List, [], ◌∷◌, ◌++◌, append_assoc, append-nil, length, Some, refl, sym, ap, subst, ◌∙◌, decimal}
use Rattle.std.specs.List.{All}
use Rattle.std.proofs.lemmas.List.{append_cancel_left}
use Rattle.std.proofs.lemmas.List.Elements.{All-head, All-tail}
use Rattle.text_base.specs.Lines.{IsOneLine, lines_of, joined}
use Rattle.text_base.specs.Fields.{fields_of, spaced, line_of}
use Rattle.synic_board.specs.State.{State}
use Rattle.synic_board.specs.Step.{step}
use Rattle.synic_board.specs.Run.{run_of}
use Rattle.synic_board.specs.History.{IsLegal, leads_to}
use Rattle.synic_board.specs.declared.event.Event.{Event}
use Rattle.synic_board.specs.declared.event.Reply.{Reply}
use Rattle.synic_board.specs.declared.history.Entry.{Entry}
use Rattle.text_lines.specs.Items.{Opening, item_fields}
use Rattle.text_lines.specs.Printing.{text_of, reply_fields}
use Rattle.text_lines.specs.Reading.{u8_at}
use Rattle.text_lines.specs.Sizes.{opened_by}
use Rattle.text_lines.proofs.ReadLemmas.{u8-spelled}
use Rattle.text_lines.proofs.WrittenLemmas.{board-written}
use Rattle.text_history.specs.declared.format.Format.{Format}
use Rattle.text_history.specs.Trace.{IsEntry, IsOpening, IsBeginning, IsTrace, title_fields, entry_fields, end_fields, history_lines}
use Rattle.text_trace.specs.inside.Stages.{Title, Opening as Beginning, image_title, follow, entry_at, Board, board_at}
use Rattle.text_base.proofs.PlainWords.{IsWritten}
use Rattle.text_base.proofs.LineLemmas.{AreLines, cut}
use Rattle.text_restore.specs.Restoring as images
use Rattle.text_restore.specs.Restoring.{IsComplete}
use Rattle.text_restore.specs.Images.{Leads, IsImage}
use Rattle.text_restore.proofs.Unique.{one-next}
use Rattle.text_restore.proofs.Completing.{no-more}
use Rattle.text_trace.proofs.Written.{entry-written, title-written, end-written, entry-reads, end-no_entry, board-reads}
use Rattle.text_trace.proofs.StageLemmas.{first_line, text-line, title-follows, no-image}

abbrev Lines : Type 0
Lines = List (List (List ℕ))

-- the lines of entries, and the end
abbrev closed : Format → List Entry → ℕ → ℕ → Lines
closed f history n next = history_lines history ++ end_fields f n next ∷ []

-- equal texts have equal first lines
same-first : (f g : List (List ℕ)) (more rest : Lines) → IsWritten f → IsWritten g
    → text_of (f ∷ more) ≡ text_of (g ∷ rest) → (spaced f ≡ spaced g) × (text_of more ≡ text_of rest)
same-first f g more rest wf wg text =
    first_line (spaced f) (text_of more) (spaced g) (text_of rest) wf.one wg.one
    (sym (text-line f more) ∙ text ∙ text-line g rest)

same-entry : (x y : Entry) → x.actor ≡ y.actor → x.event ≡ y.event → x.reply ≡ y.reply → x ≡ y
same-entry x y actor event reply =
    ap (λ (a : ℕ). record x { actor = a }) actor ∙ ap (λ (v : Event). record x { actor = y.actor; event = v }) event
    ∙ ap (λ (r : Reply). record y { reply = r }) reply

-- an entry's line determines its actor and its event
same-actor : (f : Format) (x y : Entry) → IsEntry f x → IsEntry f y
    → spaced (entry_fields x.actor x.event) ≡ spaced (entry_fields y.actor y.event) → x.actor ≡ y.actor
same-actor f x y fx fy line =
    let fields : entry_fields x.actor x.event ≡ entry_fields y.actor y.event =
    sym (entry-written x.actor x.event fx.actor fx.event).read ∙ ap fields_of line
    ∙ (entry-written y.actor y.event fy.actor fy.event).read in
    let first : decimal x.actor ≡ decimal y.actor = cc in
    let read : Some x.actor ≡ Some y.actor =
    sym (u8-spelled x.actor fx.actor) ∙ ap u8_at first ∙ u8-spelled y.actor fy.actor in
    cc

same-event : (f : Format) (x y : Entry) → IsEntry f x → IsEntry f y
    → spaced (entry_fields x.actor x.event) ≡ spaced (entry_fields y.actor y.event) → x.event ≡ y.event
same-event f x y fx fy line =
    let read : Some x.event ≡ Some y.event = sym (entry-reads f x fx) ∙ ap (entry_at f) line ∙ entry-reads f y fy in
    cc

same-history : (f : Format) (s : State) (a b : List Entry) (m n t u : ℕ) → All (IsEntry f) a → All (IsEntry f) b
    → IsLegal s a → IsLegal s b →
    text_of (closed f a m t) ≡ text_of (closed f b n u) → a ≡ b
unfolding run_of
same-history f s [] [] m n t u fa fb la lb text = refl
same-history f s [] (y ∷ b) m n t u fa fb la lb text =
    let fy : IsEntry f y = All-head (IsEntry f) y b fb in
    let cut = same-first (end_fields f m t) (entry_fields y.actor y.event) [] (reply_fields y.reply ∷ closed f b n u)
    (end-written f m t) (entry-written y.actor y.event fy.actor fy.event) text in
    absurd (end-no_entry f m t y.actor y.event fy.actor fy.event cut.0)
same-history f s (x ∷ a) [] m n t u fa fb la lb text =
    let fx : IsEntry f x = All-head (IsEntry f) x a fa in
    let cut = same-first (entry_fields x.actor x.event) (end_fields f n u) (reply_fields x.reply ∷ closed f a m t) []
    (entry-written x.actor x.event fx.actor fx.event) (end-written f n u) text in
    absurd (end-no_entry f n u x.actor x.event fx.actor fx.event (sym cut.0))
same-history f s (x ∷ a) (y ∷ b) m n t u fa fb la lb text =
    let fx : IsEntry f x = All-head (IsEntry f) x a fa in
    let fy : IsEntry f y = All-head (IsEntry f) y b fb in
    let cut = same-first (entry_fields x.actor x.event) (entry_fields y.actor y.event)
    (reply_fields x.reply ∷ closed f a m t) (reply_fields y.reply ∷ closed f b n u)
    (entry-written x.actor x.event fx.actor fx.event) (entry-written y.actor y.event fy.actor fy.event) text in
    let event = same-event f x y fx fy cut.0 in
    let first : x.reply ≡ (step s x.event).1 = cc in
    let second : y.reply ≡ (step s y.event).1 = cc in
    let reply : x.reply ≡ y.reply = first ∙ ap (λ (v : Event). (step s v).1) event ∙ sym second in
    let left : IsLegal (step s x.event).0 a = cc in
    let right : IsLegal (step s y.event).0 b = cc in
    let behind =
    append_cancel_left (line_of (reply_fields x.reply)) (text_of (closed f a m t)) (text_of (closed f b n u))
    (cut.1 ∙ ap (λ (r : Reply). text_of (reply_fields r ∷ closed f b n u)) (sym reply)) in
    let rest : a ≡ b =
    same-history f (step s x.event).0 a b m n t u (All-tail (IsEntry f) x a fa) (All-tail (IsEntry f) y b fb) left
    (subst (λ (v : Event). IsLegal (step s v).0 b) (sym event) right) behind in
    ap (λ (e : Entry). e ∷ a) (same-entry x y (same-actor f x y fx fy cut.0) event reply)
    ∙ ap (λ (l : List Entry). y ∷ l) rest

-- titles determine formats
same-format : (f g : Format) → spaced (title_fields f) ≡ spaced (title_fields g) → f ≡ g
same-format f g e =
    let same : Some (Beginning f) ≡ Some (Beginning g) =
    sym (title-follows f) ∙ ap (follow Title) e ∙ title-follows g in cc

-- texts that begin alike
abbrev Alike : List ℕ → List ℕ → State → State → List ℕ → List ℕ → Type 0
Alike x y s t xs ys = (x ≡ y) × (s ≡ t) × (xs ≡ ys)

same-opening : (f : Format) (x y xs ys : List ℕ) (s t : State) → IsOpening f x s → IsOpening f y t → x ++ xs ≡ y ++ ys
    → Alike x y s t xs ys
same-opening f x y xs ys s t h k text =
    let a = item_fields (Opening h.processors h.pages h.ticket) in
    let b = item_fields (Opening k.processors k.pages k.ticket) in
    let parts = first_line (spaced a) xs (spaced b) ys (board-written h.processors h.pages h.ticket).one
    (board-written k.processors k.pages k.ticket).one
    (sym (append_assoc (spaced a) (10 ∷ []) xs) ∙ ap (λ (z : List ℕ). z ++ xs) (sym h.line) ∙ text
    ∙ ap (λ (z : List ℕ). z ++ ys) k.line ∙ append_assoc (spaced b) (10 ∷ []) ys) in
    let read : Some (h.processors, h.pages, h.ticket) ≡ Some (k.processors, k.pages, k.ticket) =
    sym (board-reads f h.processors h.pages h.ticket h.form h.sizes h.given)
    ∙ ap (board_at f) parts.0 ∙ board-reads f k.processors k.pages k.ticket k.form k.sizes k.given in
    let same : (h.processors, h.pages, h.ticket) ≡ (k.processors, k.pages, k.ticket) = cc in (
      h.line ∙ ap (λ (z : List ℕ). z ++ 10 ∷ []) parts.0 ∙ sym k.line,
      h.state ∙ ap (λ (z : Board). opened_by z.0 z.1 z.2) same ∙ sym k.state,
      parts.1,
    )

-- lines that complete an image from one stage on
same-lines : (i : images.Stage) (ls ms : List (List ℕ)) (a b : images.Stage) (s t : State) (xs ys : List ℕ)
    → AreLines ls → AreLines ms → Leads i ls a → Leads i ms b → IsComplete a s →
    IsComplete b t → joined ls ++ xs ≡ joined ms ++ ys → Alike (joined ls) (joined ms) s t xs ys
same-lines i [] [] a b s t xs ys el em la lb ca cb text =
    let e = sym ca.1 ∙ la ∙ sym lb ∙ cb.1 in
    let same : s ≡ t = cc in
    (refl, same, text)
same-lines i [] (m ∷ ms) a b s t xs ys el em la lb ca cb text =
    absurd (no-more i s m lb.0 (subst (λ (x : images.Stage). IsComplete x s) la ca) lb.2)
same-lines i (l ∷ ls) [] a b s t xs ys el em la lb ca cb text =
    absurd (no-more i t l la.0 (subst (λ (x : images.Stage). IsComplete x t) lb cb) la.2)
same-lines i (l ∷ ls) (m ∷ ms) a b s t xs ys el em la lb ca cb text =
    let parts = first_line l (joined ls ++ xs) m (joined ms ++ ys) el.0 em.0
    (sym (append_assoc l (10 ∷ joined ls) xs) ∙ text ∙ append_assoc m (10 ∷ joined ms) ys) in
    let next : la.0 ≡ lb.0 =
    one-next i m la.0 lb.0 (subst (λ (x : List ℕ). images.Follows i x la.0) parts.0 la.2) lb.2 in
    let rest = same-lines lb.0 ls ms a b s t xs ys el.1 em.1
    (subst (λ (x : images.Stage). Leads x ls a) next la.3) lb.3 ca cb parts.1 in
    (ap (λ (z : List ℕ). z ++ 10 ∷ joined ls) parts.0 ∙ ap (λ (z : List ℕ). m ++ 10 ∷ z) rest.0, rest.1, rest.2)

whole-lines : (x : List ℕ) (s : State) → IsImage x s → x ≡ joined (lines_of x)
whole-lines x s h =
    (cut x).whole ∙ ap (λ (z : List ℕ). joined (lines_of x) ++ z) h.whole ∙ append-nil (joined (lines_of x))

same-image : (x y xs ys : List ℕ) (s t : State) → IsImage x s → IsImage y t → x ++ xs ≡ y ++ ys → Alike x y s t xs ys
same-image x y xs ys s t h k text =
    let wx = whole-lines x s h in
    let wy = whole-lines y t k in
    let same = same-lines images.Untitled (lines_of x) (lines_of y) h.stage k.stage s t xs ys (cut x).each
    (cut y).each h.leads k.leads h.complete k.complete
    (ap (λ (z : List ℕ). z ++ xs) (sym wx) ∙ text ∙ ap (λ (z : List ℕ). z ++ ys) wy) in
    (wx ∙ same.0 ∙ sym wy, same.1, same.2)

-- an image begins with its title
record Titled (x : List ℕ) : Type 0 where
  pub rest : List ℕ
  pub one : IsOneLine image_title
  pub text : x ≡ image_title ++ 10 ∷ rest

image-titled : (x : List ℕ) (s : State) → IsImage x s → Titled x
image-titled x s h = by (lines_of x) (cut x).each h.leads (whole-lines x s h)
  where
    by : (ls : List (List ℕ)) → AreLines ls → Leads images.Untitled ls h.stage → x ≡ joined ls → Titled x
    by [] each leads whole = let e = sym leads ∙ h.complete.1 in cc
    by (l ∷ ls) each leads whole = record {
      rest = joined ls;
      one = subst IsOneLine leads.2.0 each.0;
      text = whole ∙ ap (λ (z : List ℕ). z ++ 10 ∷ joined ls) leads.2.0;
    }

-- no text begins both with a board line and with an image
not-alike : (f : Format) (x y xs ys : List ℕ) (s t : State) → IsOpening f x s → IsImage y t → x ++ xs ≡ y ++ ys → ⊥
not-alike f x y xs ys s t h k text =
    let board = spaced (item_fields (Opening h.processors h.pages h.ticket)) in
    let image = image-titled y t k in
    no-image h.processors h.pages h.ticket
    (first_line board xs image_title (image.rest ++ ys) (board-written h.processors h.pages h.ticket).one image.one
    (sym (append_assoc board (10 ∷ []) xs) ∙ ap (λ (z : List ℕ). z ++ xs) (sym h.line) ∙ text
    ∙ ap (λ (z : List ℕ). z ++ ys) image.text
    ∙ append_assoc image_title (10 ∷ image.rest) ys)).0

same-beginning : (f : Format) (x y xs ys : List ℕ) (s t : State) → IsBeginning f x s → IsBeginning f y t
    → x ++ xs ≡ y ++ ys → Alike x y s t xs ys
same-beginning f x y xs ys s t (inl h) (inl k) text = same-opening f x y xs ys s t h k text
same-beginning f x y xs ys s t (inl h) (inr k) text = absurd (not-alike f x y xs ys s t h k.1 text)
same-beginning f x y xs ys s t (inr h) (inl k) text = absurd (not-alike f y x ys xs t s k h.1 (sym text))
same-beginning f x y xs ys s t (inr h) (inr k) text = same-image x y xs ys s t h.1 k.1 text

abbrev next_of : {text : List ℕ} {n : ℕ} → IsTrace text n → ℕ
next_of a = (leads_to a.state a.history).next_ticket

pub history-once : (text : List ℕ) (m n : ℕ) (a : IsTrace text m) (b : IsTrace text n) → (a.format ≡ b.format)
    × (a.beginning ≡ b.beginning) × (a.state ≡ b.state) × (a.history ≡ b.history)
history-once text m n a b = (
  format,
  parts.0,
  parts.1,
  same-history b.format a.state a.history b.history (length a.history) (length b.history) (next_of a) (next_of b)
      (subst (λ (f : Format). All (IsEntry f) a.history) format a.fits) b.fits a.legal
      (subst (λ (s : State). IsLegal s b.history) (sym parts.1) b.legal)
      (ap (λ (f : Format). text_of (closed f a.history (length a.history) (next_of a))) (sym format) ∙ parts.2),
)
  where
    after_a : List ℕ
    after_a = text_of (closed a.format a.history (length a.history) (next_of a))

    after_b : List ℕ
    after_b = text_of (closed b.format b.history (length b.history) (next_of b))

    title : (spaced (title_fields a.format) ≡ spaced (title_fields b.format))
        × (a.beginning ++ after_a ≡ b.beginning ++ after_b)
    title = first_line (spaced (title_fields a.format)) (a.beginning ++ after_a) (spaced (title_fields b.format))
        (b.beginning ++ after_b)
        (title-written a.format).one (title-written b.format).one
        (sym (append_assoc (spaced (title_fields a.format)) (10 ∷ []) (a.beginning ++ after_a)) ∙ sym a.written
        ∙ b.written
        ∙ append_assoc (spaced (title_fields b.format)) (10 ∷ []) (b.beginning ++ after_b))

    format : a.format ≡ b.format
    format = same-format a.format b.format title.0

    parts : Alike a.beginning b.beginning a.state b.state after_a after_b
    parts = same-beginning b.format a.beginning b.beginning after_a after_b a.state b.state
        (subst (λ (f : Format). IsBeginning f a.beginning a.state) format a.begins) b.begins title.1
