-- The lines of a history, one entry after another.
use Rattle.std.proofs.Common.{◌≡◌, ℕ, ◌+◌, ◌<◌, List, [], ◌∷◌, ◌++◌, length, get_or, drop, append_assoc, append-nil, refl, sym, ap, ◌∙◌}
use Rattle.std.specs.Prelude.{Bool, true, false, not, ◌||◌, if◌then◌else◌, Option, None, Some}
use Rattle.std.specs.List.{All}
use Rattle.std.proofs.lemmas.List.Elements.{All-nil, All-head, All-tail, All-cons}
use Rattle.std.proofs.lemmas.List.{drop_more}
use Rattle.text_base.specs.Fields.{spaced, line_of}
use Rattle.synic_board.specs.declared.history.Entry.{Entry}
use Rattle.text_lines.specs.Printing.{text_of}
use Rattle.text_lines.proofs.PrintLemmas.{text_of-append}
use Rattle.text_history.specs.declared.format.Format.{Format}
use Rattle.text_history.specs.declared.format.Format.TheVariants.{Two, Three}
use Rattle.text_history.specs.Trace.{IsEntry, is_send, has_send, format_for, title_fields, end_fields, history_lines, rest_lines, trace_text}

-- one more entry
pub history-step : (history : List Entry) (i : ℕ) (e : Entry) (so_far next out : List ℕ) → i < length history
    → e ≡ get_or history i e →
    next ≡ so_far ++ text_of (history_lines (e ∷ [])) → so_far ++ text_of (history_lines (drop i history)) ≡ out
    → next ++ text_of (history_lines (drop (i + 1) history)) ≡ out
history-step history i e so_far next out inside is here all =
    let rest = history_lines (drop (i + 1) history) in
    let left : drop i history ≡ e ∷ drop (i + 1) history =
    drop_more history i e inside ∙ ap (λ (x : Entry). x ∷ drop (i + 1) history) (sym is) in
    ap (λ (x : List ℕ). x ++ text_of rest) here
    ∙ append_assoc so_far (text_of (history_lines (e ∷ []))) (text_of rest)
    ∙ ap (λ (x : List ℕ). so_far ++ x) (sym (text_of-append (history_lines (e ∷ [])) rest))
    ∙ ap (λ (ys : List Entry). so_far ++ text_of (history_lines ys)) (sym left)
    ∙ all

-- entries and the end
pub rest-parts : (f : Format) (history : List Entry) (next : ℕ) (out a b c : List ℕ)
    → a ≡ out ++ text_of (history_lines history) → b ≡ a ++ spaced (end_fields f (length history) next) →
    c ≡ b ++ 10 ∷ [] → c ≡ out ++ text_of (rest_lines f history next)
rest-parts f history next out a b c h i j =
    let lines = history_lines history in
    let last = end_fields f (length history) next in
    j ∙ ap (λ (x : List ℕ). x ++ 10 ∷ []) (i ∙ ap (λ (x : List ℕ). x ++ spaced last) h)
    ∙ append_assoc (out ++ text_of lines) (spaced last) (10 ∷ [])
    ∙ append_assoc out (text_of lines) (line_of last)
    ∙ ap (λ (x : List ℕ). out ++ x)
    (ap (λ (x : List ℕ). text_of lines ++ x) (sym (append-nil (line_of last)))
    ∙ sym (text_of-append lines (last ∷ [])))

-- a title, a beginning and the rest
pub trace-parts : (f : Format) (beginning : List ℕ) (history : List Entry) (next : ℕ) (out a b c : List ℕ)
    → a ≡ out ++ line_of (title_fields f) → b ≡ a ++ beginning →
    c ≡ b ++ text_of (rest_lines f history next) → c ≡ out ++ trace_text f beginning history next
trace-parts f beginning history next out a b c h i j =
    let title = line_of (title_fields f) in
    let rest = text_of (rest_lines f history next) in
    j ∙ ap (λ (x : List ℕ). x ++ rest) (i ∙ ap (λ (x : List ℕ). x ++ beginning) h)
    ∙ append_assoc (out ++ title) beginning rest
    ∙ append_assoc out title (beginning ++ rest)

-- a history without a send has the entries of format 2
none-sent : (b : Bool) → b ≡ false → not b ≡ true
none-sent true e = cc
none-sent false e = refl

neither : (a b : Bool) → (a || b) ≡ false → (a ≡ false) × (b ≡ false)
neither true b e = cc
neither false b e = (refl, e)

none-written : (history : List Entry) → has_send history ≡ false → All (IsEntry Three) history
    → All (IsEntry Two) history
none-written [] none fits = All-nil (IsEntry Two)
none-written (e ∷ history) none fits =
    let h : IsEntry Three e = All-head (IsEntry Three) e history fits in
    let both = neither (is_send e.event) (has_send history) none in
    All-cons (IsEntry Two) e history
    (record { actor = h.actor; event = h.event; line = none-sent (is_send e.event) both.0 })
    (none-written history both.1 (All-tail (IsEntry Three) e history fits))

pub all-written : (pages : Option ℕ) (history : List Entry) → All (IsEntry Three) history
    → All (IsEntry (format_for pages history)) history
all-written None history fits = fits
all-written (Some pages) history fits = by (has_send history) refl
  where
    by : (t : Bool) → has_send history ≡ t → All (IsEntry (if not t then Two else Three)) history
    by true is = fits
    by false is = none-written history is fits
