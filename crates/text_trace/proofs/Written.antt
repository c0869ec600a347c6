-- The lines of a trace, printed and parsed.
use Rattle.std.proofs.Common.{◌≡◌, ℕ, ◌<◌, ◌≤◌, ◌^◌, List, [], ◌∷◌, length, get_or, Option, Some, None, refl, sym, ap, ◌∙◌, arith, cond, Bool, true, false, not, ◌&&◌, decimal, codes}
use Rattle.std.specs.Option.{option_and_then}
use Rattle.std.specs.Str.{bytes_eq}
use Rattle.std.proofs.lemmas.Slice.Eq.{bytes_eq-Decides}
use Rattle.std.proofs.lemmas.List.Splits.{join_with_byte-slice_split}
use Rattle.std.proofs.lemmas.Fmt.{length-decimal-le}
use Rattle.text_base.specs.Fields.{fields_of, spaced}
use Rattle.text_base.proofs.PlainWords.{IsPlain, plain_by, digits-plain, digits-short, two_digits-plain, IsWritten, written}
use Rattle.board_terms.specs.Numbers.{refusal_number}
use Rattle.board_terms.specs.declared.messages.PortShape.TheVariants.{Messages, Flags}
use Rattle.synic_board.specs.declared.event.Event.{Event}
use Rattle.synic_board.specs.declared.event.Event.TheVariants.{OpenPort}
use Rattle.synic_board.specs.declared.event.Reply.{Reply}
use Rattle.synic_board.specs.declared.history.Entry.{Entry}
use Rattle.synic_board.specs.declared.event.Reply.TheVariants as replies
use Rattle.text_lines.specs.Events.{event_fields, IsEvent}
use Rattle.text_lines.specs.Items.{Opening, ArePages, item_fields}
use Rattle.text_lines.specs.Printing.{vector_or_none, reply_fields}
use Rattle.text_lines.specs.Reading.{Fields, first_read, take_then, u8_at, parse_event, parse_opening}
use Rattle.text_lines.specs.Sizes.{AreBoardSizes, are_sizes}
use Rattle.text_lines.proofs.ReadLemmas.{then-some, then-read, yes, u8-only, u8-spelled, event-says, says-event, opening-says, says-opening}
use Rattle.text_lines.proofs.SizeLemmas.{sizes-are}
use Rattle.text_lines.proofs.WrittenLemmas.{bytes-plain, bytes-short, event-plain, board-written}
use Rattle.text_history.specs.declared.format.Format.{Format}
use Rattle.text_history.specs.declared.format.Format.TheVariants.{One, Two, Three}
use Rattle.text_history.specs.Trace.{IsEntry, is_reset, is_send, has_line, may_open, title_fields, entry_fields, end_fields}
use Rattle.text_trace.specs.inside.Stages.{has_fields, with_line, parse_entry, entry_at, Board, within_limits, parse_board, board_at}
use Rattle.synic_board.specs.Replies.{IsReply}

vector-plain : (vector : Option ℕ) → IsPlain (vector_or_none vector)
vector-plain None = plain_by (codes "none") refl
vector-plain (Some v) = two_digits-plain v

vector-short : (vector : Option ℕ) → length (vector_or_none vector) ≤ 4
vector-short None = omega arith
vector-short (Some v) = omega arith

actor-short : (actor : ℕ) → actor < 256 → length (decimal actor) ≤ 3
actor-short actor small = length-decimal-le 3 actor (omega arith) (omega arith) (omega arith)

pub entry-written : (actor : ℕ) (event : Event) → actor < 256 → IsEvent event → IsWritten (entry_fields actor event)
entry-written actor event small h =
    let e =
    event-plain event h in
    written (decimal actor) (event_fields event) (digits-plain 10 actor, e.plain)
    (omega (arith, actor-short actor small, e.bound))

pub title-written : (f : Format) → IsWritten (title_fields f)
title-written One = written _ _ (plain_by (codes "trace") refl, (plain_by (codes "1") refl, tt)) (omega arith)
title-written Two = written _ _ (plain_by (codes "trace") refl, (plain_by (codes "2") refl, tt)) (omega arith)
title-written Three = written _ _ (plain_by (codes "trace") refl, (plain_by (codes "3") refl, tt)) (omega arith)

pub end-written : (f : Format) (n next : ℕ) → IsWritten (end_fields f n next)
end-written One n next =
    written _ _ (plain_by (codes "end") refl, (digits-plain 10 n, tt)) (omega (arith, digits-short 10 n))
end-written Two n next =
    written _ _ (plain_by (codes "end") refl, (digits-plain 10 n, (digits-plain 10 next, tt)))
    (omega (arith, digits-short 10 n, digits-short 10 next))
end-written Three n next =
    written _ _ (plain_by (codes "end") refl, (digits-plain 10 n, (digits-plain 10 next, tt)))
    (omega (arith, digits-short 10 n, digits-short 10 next))

pub reply-written : (reply : Reply) → IsReply reply → IsWritten (reply_fields reply)
reply-written replies.Done h = written _ _ (plain_by (codes "=") refl, (plain_by (codes "done") refl, tt)) (omega arith)
reply-written (replies.Value v) h =
    written _ _ (plain_by (codes "=") refl, (plain_by (codes "value") refl, (digits-plain 16 v, tt)))
    (omega (arith, digits-short 16 v))
reply-written (replies.Bytes bytes) h =
    written _ _ (plain_by (codes "=") refl, (plain_by (codes "bytes") refl, (bytes-plain bytes.items, tt)))
    (omega (arith, bytes-short bytes.items, h))
reply-written (replies.Taken vector) h =
    written _ _ (plain_by (codes "=") refl, (plain_by (codes "taken") refl, (vector-plain vector, tt)))
    (omega (arith, vector-short vector))
reply-written (replies.Accepted t) h =
    written _ _ (plain_by (codes "=") refl, (plain_by (codes "accepted") refl, (digits-plain 10 t, tt)))
    (omega (arith, digits-short 10 t))
reply-written replies.FlagWasClear h =
    written _ _ (plain_by (codes "=") refl, (plain_by (codes "clear") refl, tt)) (omega arith)
reply-written replies.FlagWasSet h =
    written _ _ (plain_by (codes "=") refl, (plain_by (codes "set") refl, tt)) (omega arith)
reply-written replies.GeneralProtection h =
    written _ _ (
      plain_by (codes "=") refl,
      (plain_by (codes "general") refl, (plain_by (codes "protection") refl, tt)),
    ) (omega arith)
reply-written (replies.Refused r) h =
    written _ _ (plain_by (codes "=") refl, (plain_by (codes "refused") refl, (digits-plain 10 (refusal_number r), tt)))
    (omega (arith, digits-short 10 (refusal_number r)))

-- a line is the words of its fields
whole : (line : List ℕ) (fields : Fields) → fields_of line ≡ fields → line ≡ spaced fields
whole line fields e = sym (join_with_byte-slice_split 32 line) ∙ ap spaced e

-- A line parses as an entry iff it is the entry's printed line.
pub entry-reads : (f : Format) (e : Entry) → IsEntry f e
    → entry_at f (spaced (entry_fields e.actor e.event)) ≡ Some e.event
unfolding entry_at
entry-reads f e h =
    ap (parse_entry f) (entry-written e.actor e.event h.actor h.event).read
    ∙ ap (option_and_then (with_line f))
    (then-read u8_at (λ (a : ℕ). parse_event) (decimal e.actor) e.actor (event_fields e.event)
    (u8-spelled e.actor h.actor) ∙ says-event e.event h.event)
    ∙ ap (λ (t : Bool). cond t (Some e.event) None) h.line

pub record EntryLine (f : Format) (line : List ℕ) (event : Event) : Type 0 where
  pub actor : ℕ
  pub text : line ≡ spaced (entry_fields actor event)
  pub small : actor < 256
  pub fits : IsEvent event
  pub has : has_line f event ≡ true

-- it has a line
lined : (f : Format) (o : Option Event) (event : Event) → option_and_then (with_line f) o ≡ Some event
    → (o ≡ Some event) × (has_line f event ≡ true)
lined f None event e = cc
lined f (Some other) event e = by (has_line f other) refl e
  where
    by : (t : Bool) → has_line f other ≡ t → cond t (Some other) None ≡ Some event → (Some other ≡ Some event)
        × (has_line f event ≡ true)
    by true is e = let same : other ≡ event = cc in (e, ap (has_line f) (sym same) ∙ is)
    by false is e = cc

entry-says : (f : Format) (line : List ℕ) (fields : Fields) (event : Event) → fields_of line ≡ fields
    → parse_entry f fields ≡ Some event → EntryLine f line event
entry-says f line fields event is e =
    let said = lined f (take_then u8_at (λ (a : ℕ). parse_event) fields) event e in
    then-some u8_at (λ (a : ℕ). parse_event) fields event (EntryLine f line event) (λ field actor more at read told.
    let h = u8-only field actor read in
    let k = event-says more event told in
    let all : fields ≡ entry_fields actor event = at ∙ rw (h.1, k.same) refl in
    record {
      actor = actor;
      text = whole line fields is ∙ ap spaced all;
      small = h.0;
      fits = k.fits;
      has = said.1;
    }) said.0

pub entry-only : (f : Format) (line : List ℕ) (event : Event) → entry_at f line ≡ Some event → EntryLine f line event
unfolding entry_at
entry-only f line event e = entry-says f line (fields_of line) event refl e

-- the word of a reset is no other's, nor is that of a send
reset-word : (e : Event) → bytes_eq (get_or (event_fields e) 0 []) (codes "reset") ≡ is_reset e
reset-word (OpenPort port vp sint (Messages buffers)) = refl
reset-word (OpenPort port vp sint (Flags base count)) = refl
reset-word event = refl

send-word : (e : Event) → bytes_eq (get_or (event_fields e) 0 []) (codes "send") ≡ is_send e
send-word (OpenPort port vp sint (Messages buffers)) = refl
send-word (OpenPort port vp sint (Flags base count)) = refl
send-word event = refl

no-event-line : (t : Bool) (o : Option Event) → o ≡ None → o ≡ cond t o None
no-event-line true o is = refl
no-event-line false o is = is

-- so the first word of an event says whether the event has a line
fields-line : (f : Format) (fields : Fields)
    → option_and_then (with_line f) (parse_event fields) ≡ cond (has_fields f fields) (parse_event fields) None
fields-line f [] = no-event-line (has_fields f []) None refl
fields-line f (word ∷ fields) = by f (parse_event (word ∷ fields)) refl
  where
    resets : (e : Event) → parse_event (word ∷ fields) ≡ Some e → is_reset e ≡ bytes_eq word (codes "reset")
    resets e is =
        sym (reset-word e) ∙ ap (λ (fs : Fields). bytes_eq (get_or fs 0 []) (codes "reset"))
        (sym (event-says (word ∷ fields) e is).same)

    sends : (e : Event) → parse_event (word ∷ fields) ≡ Some e → is_send e ≡ bytes_eq word (codes "send")
    sends e is =
        sym (send-word e) ∙ ap (λ (fs : Fields). bytes_eq (get_or fs 0 []) (codes "send"))
        (sym (event-says (word ∷ fields) e is).same)

    by : (f : Format) (o : Option Event) → parse_event (word ∷ fields) ≡ o
        → option_and_then (with_line f) o ≡ cond (has_fields f (word ∷ fields)) o None
    by f None is = no-event-line (has_fields f (word ∷ fields)) None refl
    by One (Some e) is = λ i. cond (not (resets e is i) && not (sends e is i)) (Some e) None
    by Two (Some e) is = ap (λ (t : Bool). cond (not t) (Some e) None) (sends e is)
    by Three (Some e) is = refl

-- the event of a line, from the fields after the actor's number
pub entry-after : (f : Format) (line : List ℕ) (actor : ℕ) (more : Fields)
    → first_read u8_at (fields_of line) ≡ Some (actor, more) →
    entry_at f line ≡ cond (has_fields f more) (parse_event more) None
unfolding entry_at
entry-after f line actor more read =
    ap (λ (r : Option (ℕ × Fields)). option_and_then (with_line f)
    (option_and_then (λ (p : ℕ × Fields). parse_event p.1) r)) read ∙ fields-line f more

-- an end is no entry
end-first : (f : Format) (n next : ℕ) (fields : Fields) (word : List ℕ) → end_fields f n next ≡ word ∷ fields
    → codes "end" ≡ word
end-first One n next fields word e = cc
end-first Two n next fields word e = cc
end-first Three n next fields word e = cc

pub end-no_entry : (f : Format) (n next actor : ℕ) (event : Event) → actor < 256 → IsEvent event
    → spaced (end_fields f n next) ≡ spaced (entry_fields actor event) → ⊥
end-no_entry f n next actor event small fits e =
    let same : end_fields f n next ≡ entry_fields actor event =
    sym (end-written f n next).read ∙ ap fields_of e ∙ (entry-written actor event small fits).read in
    let first : codes "end" ≡ decimal actor = end-first f n next (event_fields event) (decimal actor) same in
    let read : u8_at (codes "end") ≡ Some actor = ap u8_at first ∙ u8-spelled actor small in
    cc

-- sizes within the limits fit into a board line
sizes-fit : (p : ℕ) (g : Option ℕ) → AreBoardSizes p g → (p < 256) × ArePages g
sizes-fit p None sizes = (omega (arith, sizes.bound), tt)
sizes-fit p (Some g) sizes = (omega (arith, sizes.processor_bound), omega (arith, sizes.page_bound))

-- A line parses as a board line of a format iff it is its printed line.
pub board-reads : (f : Format) (p : ℕ) (g : Option ℕ) (t : ℕ) → may_open f g ≡ true → AreBoardSizes p g → t < 2 ^ 64
    → board_at f (spaced (item_fields (Opening p g t))) ≡ Some (p, g, t)
unfolding board_at
board-reads f p g t form sizes given =
    let fit = sizes-fit p g sizes in
    let said = says-opening p g t (fit.0, fit.1, given) in
    ap (parse_board f) (board-written p g t).read
    ∙ ap (option_and_then (within_limits f)) said
    ∙ rw (form, (sizes-are p g).1 sizes) refl

pub record BoardLine (f : Format) (line : List ℕ) (p : Board) : Type 0 where
  pub text : line ≡ spaced (item_fields (Opening p.0 p.1 p.2))
  pub form : may_open f p.1 ≡ true
  pub sizes : AreBoardSizes p.0 p.1
  pub given : p.2 < 2 ^ 64

within-only : (f : Format) (p q : Board) → within_limits f p ≡ Some q → (p ≡ q) × (may_open f p.1 ≡ true)
    × AreBoardSizes p.0 p.1
within-only f p q e = formed (may_open f p.1) refl e
  where
    sized : may_open f p.1 ≡ true → (t : Bool) → are_sizes p.0 p.1 ≡ t → cond t (Some p) None ≡ Some q → (p ≡ q)
        × (may_open f p.1 ≡ true) × AreBoardSizes p.0 p.1
    sized form true is e = (cc, form, (sizes-are p.0 p.1).0 is)
    sized form false is e = cc

    formed : (t : Bool) → may_open f p.1 ≡ t → cond t (cond (are_sizes p.0 p.1) (Some p) None) None ≡ Some q → (p ≡ q)
        × (may_open f p.1 ≡ true) × AreBoardSizes p.0 p.1
    formed true is e = sized is (are_sizes p.0 p.1) refl e
    formed false is e = cc

board-says : (f : Format) (line : List ℕ) (fields : Fields) (q : Board) → fields_of line ≡ fields
    → parse_board f fields ≡ Some q → BoardLine f line q
board-says f line [] q is e = cc
board-says f line (word ∷ fields) q is e =
    yes (bytes_eq word (codes "board")) (option_and_then (within_limits f) (parse_opening fields)) None q
    (BoardLine f line q)
    (λ test e. by ((bytes_eq-Decides word (codes "board")).0 test) (parse_opening fields) refl e) (λ e. cc) e
  where
    by : word ≡ codes "board" → (r : Option Board) → parse_opening fields ≡ r
        → option_and_then (within_limits f) r ≡ Some q → BoardLine f line q
    by named None said e = cc
    by named (Some p) said e =
        let w = within-only f p q e in
        let h = opening-says fields p said in
        let all : word ∷ fields ≡ item_fields (Opening p.0 p.1 p.2) = rw named h.same in
        rw (← w.0) (record {
          text = whole line (word ∷ fields) is ∙ ap spaced all;
          form = w.1;
          sizes = w.2;
          given = h.fits.2;
        })

pub board-only : (f : Format) (line : List ℕ) (q : Board) → board_at f line ≡ Some q → BoardLine f line q
unfolding board_at
board-only f line q e = board-says f line (fields_of line) q refl e

-- a board was opened, so its sizes are within the limits
within : (f : Format) (p : Board) → may_open f p.1 ≡ true → ((AreBoardSizes p.0 p.1 → ⊥) → ⊥)
    → within_limits f p ≡ Some p
within f p form h = go (are_sizes p.0 p.1) refl
  where
    go : (t : Bool) → are_sizes p.0 p.1 ≡ t → within_limits f p ≡ Some p
    go true is = rw (form, is) refl
    go false is = absurd (h (λ sizes. let yes = (sizes-are p.0 p.1).1 sizes in cc))

pub board-opened : (f : Format) (line word : List ℕ) (fields : Fields) (n : ℕ) (g : Option ℕ) (t : ℕ)
    → fields_of line ≡ word ∷ fields → word ≡ codes "board" → Some (n, g, t) ≡ parse_opening fields →
    may_open f g ≡ true → ((AreBoardSizes n g → ⊥) → ⊥) → board_at f line ≡ Some (n, g, t)
unfolding board_at
board-opened f line word fields n g t are named said form h =
    ap (parse_board f) (are ∙ ap (λ (w : List ℕ). w ∷ fields) named)
    ∙ ap (option_and_then (within_limits f)) (sym said) ∙ within f (n, g, t) form h

pub same-word : (word key : List ℕ) → false ≡ not (bytes_eq word key) → word ≡ key
same-word word key e = go (bytes_eq word key) refl e
  where
    go : (t : Bool) → bytes_eq word key ≡ t → false ≡ not t → word ≡ key
    go true is e = (bytes_eq-Decides word key).0 is
    go false is e = cc
