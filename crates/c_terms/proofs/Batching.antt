-- A batch continues by one event.
use Rattle.std.proofs.Common.{◌≡◌, ℕ, ◌+◌, ◌<◌, ◌≤◌, List, [], ◌∷◌, ◌++◌, ap, sym, subst, ◌∙◌, refl, arith, length, take, map, drop, set, slice_get, get_or, None, Some, Option, append_assoc, append-nil}
use Rattle.std.proofs.lemmas.List.{take_more, map-append, length-map, length_push, length-take-le, length-append}
use Rattle.std.proofs.lemmas.Option.{slice_get-get_or}
use Rattle.c_terms.specs.declared.event.CEvent.{CEvent}
use Rattle.c_terms.specs.declared.notice.CNotice.{CNotice}
use Rattle.c_terms.specs.declared.reply.CReply.{CReply}
use Rattle.c_terms.specs.Events.{event_from_c, HasOutcome}
use Rattle.c_terms.specs.Notices.{notice_to_c}
use Rattle.c_terms.specs.Replies.{reply_to_c}
use Rattle.c_terms.specs.Rooms.{Fronts}
use Rattle.synic_board.specs.declared.event.Event.{Event}
use Rattle.synic_board.specs.State.{State}
use Rattle.synic_board.specs.Effects.{Outcome}
use Rattle.synic_board.specs.Step.{step}
use Rattle.c_terms.specs.Batches.{Performed, BoardView, batch, empty, followed_by, IsNotAnEvent}
use Rattle.c_terms.proofs.Rooms.{fronts_none, fronts_push, fronts_more}

-- a batch, and then one more outcome
abbrev pub and_then : Performed → Outcome → Performed
and_then b o =
    record { board = (o.0, o.2); replies = b.replies ++ reply_to_c o.1 (length o.2) ∷ []; notices = b.notices ++ o.2 }

-- the first event is valid, or it is not
goes : (d : BoardView) (e : CEvent) (es : List CEvent) (event : Event) → event_from_c e ≡ Some event →
    batch d (e ∷ es) ≡ followed_by (step d.0 event) (batch ((step d.0 event).0, (step d.0 event).2) es)
unfolding batch
goes d e es event means = rw means

stops : (d : BoardView) (e : CEvent) (es : List CEvent) → event_from_c e ≡ None → batch d (e ∷ es) ≡ empty d
unfolding batch
stops d e es means = rw means

-- valid events, and one more
pub batch_push : (d : BoardView) (es : List CEvent) (e : CEvent) (event : Event)
    → length (batch d es).replies ≡ length es → event_from_c e ≡ Some event →
    batch d (es ++ e ∷ []) ≡ and_then (batch d es) (step (batch d es).board.0 event)
unfolding batch
batch_push d [] e event all means =
    let o : Outcome = step d.0 event in
    goes d e [] event means ∙ ap
    (λ ns. record { board = (o.0, o.2); replies = reply_to_c o.1 (length o.2) ∷ []; notices = ns }) (append-nil o.2)
batch_push d (x ∷ es) e event all means =
    elim (event_from_c x) as
    (λ o. event_from_c x ≡ o
    → batch d (x ∷ es ++ e ∷ []) ≡ and_then (batch d (x ∷ es)) (step (batch d (x ∷ es)).board.0 event)) [
      | None ↦ λ no. absurd (omega (arith, ap (λ (b : Performed). length b.replies) (stops d x es no)))
      | Some first ↦ λ yes.
          let o : Outcome = step d.0 first in
          let b : Performed = batch (o.0, o.2) es in
          let p : Outcome = step b.board.0 event in
          let now : batch d (x ∷ es) ≡ followed_by o b = goes d x es first yes in
          goes d x (es ++ e ∷ []) first yes
          ∙ ap (followed_by o) (batch_push (o.0, o.2) es e event
          (omega (arith, ap (λ (c : Performed). length c.replies) now)) means)
          ∙ ap (λ ns. record {
            board = (p.0, p.2);
            replies = reply_to_c o.1 (length o.2) ∷ b.replies ++ reply_to_c p.1 (length p.2) ∷ [];
            notices = ns;
          })
          (sym (append_assoc o.2 b.notices p.2))
          ∙ sym (ap (λ (c : Performed). and_then c (step c.board.0 event)) now)
    ] refl

-- the next event is invalid
pub next_none : (es : List CEvent) (n : ℕ) (x : CEvent) → n < length es → event_from_c (get_or es n x) ≡ None
    → IsNotAnEvent (slice_get es n)
next_none es n x lt means = rw (slice_get-get_or es n x lt) means

-- the result of a batch: the board and the buffers are as defined, and everything fitted
pub record IsDone (b : Performed) (d : BoardView) (n m : ℕ) (rs rs' : List CReply)
    (ns ns' : List CNotice) : Type 0 where
  pub board : d ≡ b.board
  pub replies : Fronts b.replies rs rs'
  pub notices : Fronts (map notice_to_c b.notices) ns ns'
  pub done : length b.replies ≡ n
  pub emitted : length b.notices ≡ m
  pub fits : (n ≤ length rs) × (m ≤ length ns)

pub done_none : (d : BoardView) (rs : List CReply) (ns : List CNotice) → IsDone (batch d []) d 0 0 rs rs ns ns
unfolding batch
done_none d rs ns =
    record {
      board = refl;
      replies = fronts_none rs;
      notices = fronts_none ns;
      done = refl;
      emitted = refl;
      fits = (omega arith, omega arith);
    }

-- an event with an outcome is valid
means_one : (meant : Option Event) (s : State) (o : Outcome) → HasOutcome meant s o → (event : Event)
    × (meant ≡ Some event) × (o ≡ step s event)
means_one None s o none = absurd none
means_one (Some event) s o is = (event, refl, is)

-- the next event is valid, is performed, and its reply and notices are appended
pub done_more : (d : BoardView) (es : List CEvent) (x : CEvent) (now : BoardView) (o : Outcome) (n m : ℕ)
    (rs rs' : List CReply) (ns ns' rest : List CNotice) →
    IsDone (batch d (take n es)) now n m rs rs' ns ns' → n < length es
    → HasOutcome (event_from_c (get_or es n x)) now.0 o → n < length rs → m + length o.2 ≤ length ns →
    Fronts (map notice_to_c o.2) (drop m ns') rest →
    IsDone (batch d (take (n + 1) es)) (o.0, o.2) (n + 1) (m + length o.2) rs
    (set rs' n (reply_to_c o.1 (length o.2))) ns (take m ns' ++ rest)
done_more d es x now o n m rs rs' ns ns' rest h lt comes answered emitted put =
    let one : (event : Event) × (event_from_c (get_or es n x) ≡ Some event) × (o ≡ step now.0 event) =
    means_one (event_from_c (get_or es n x)) now.0 o comes in
    let event : Event = one.0 in
    let means : event_from_c (get_or es n x) ≡ Some event = one.1 in
    let is : o ≡ step now.0 event = one.2 in
    let b : Performed = batch d (take n es) in
    let next : Performed = and_then b o in
    let all : length b.replies ≡ length (take n es) = h.done ∙ sym (length-take-le n es (omega arith)) in
    let stepped : step b.board.0 event ≡ o = ap (λ (e : BoardView). step e.0 event) (sym h.board) ∙ sym is in
    let whole : batch d (take (n + 1) es) ≡ next =
    ap (batch d) (take_more es n x lt) ∙ batch_push d (take n es) (get_or es n x) event all means
    ∙ ap (and_then b) stepped in
    let done : IsDone next (o.0, o.2) (n + 1) (m + length o.2) rs (set rs' n (reply_to_c o.1 (length o.2))) ns
    (take m ns' ++ rest) = record {
      board = refl;
      replies = fronts_push b.replies (reply_to_c o.1 (length o.2)) rs rs' n h.replies h.done
          (omega (arith, h.replies.many));
      notices = rw (map-append notice_to_c b.notices o.2)
          (fronts_more (map notice_to_c b.notices) (map notice_to_c o.2) ns ns' rest m h.notices put
          (length-map b.notices notice_to_c ∙ h.emitted) (omega (arith, h.fits, h.notices.many)));
      done = length_push b.replies (reply_to_c o.1 (length o.2)) ∙ ap (λ k. k + 1) h.done;
      emitted = length-append b.notices o.2 ∙ ap (λ k. k + length o.2) h.emitted;
      fits = (omega arith, emitted);
    } in
    subst (λ (c : Performed). IsDone c (o.0, o.2) (n + 1) (m + length o.2) rs
    (set rs' n (reply_to_c o.1 (length o.2))) ns (take m ns' ++ rest)) (sym whole) done
