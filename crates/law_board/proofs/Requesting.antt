-- A Requested notice is emitted iff the vector's request bit goes from clear to set.
use Rattle.std.proofs.Common.{zero, suc, ◌≡◌, ◌≢◌, ◌⊎◌, inl, inr, ℕ, ◌<◌, ◌&&◌, ◌||◌, get_or, set as set_list, List, [], ◌∷◌, ◌++◌, length, map, refl, sym, ap, subst, ◌∙◌, arith, nat_lt, not, Bool, true, false}
use Rattle.std.specs.Prelude.{Option, None, Some, ◌==◌, if◌then◌else◌}
use Rattle.std.specs.Option.{option_map_or}
use Rattle.std.specs.Ordering.{nat_cmp, eq_by_cmp}
use Rattle.std.specs.FinSet as set
use Rattle.std.proofs.lemmas.Bool.Decides.{nat_tests}
use Rattle.std.specs.FinSet.{contains-insert, contains-remove, nat_cmp-IsAntisymmetric}
use Rattle.std.proofs.lemmas.Cmp.{nat_cmp_total}
use Rattle.std.proofs.lemmas.Bool.{cases_eq}
use Rattle.std.proofs.lemmas.List.{length-set, get_or-set_same, get_or-set_other}
use Rattle.lapic_core.specs.Apic.{Apic, empty_apic, request, with_suspension as apic_with_suspension, awaited, next, class, priority, deliverable}
use Rattle.lapic_core.proofs.Members.{IsGreatest, Tells as Greatest, greatest_tells}
use Rattle.board_terms.specs.declared.refusal.Refusal.TheVariants.{NoSuchProcessor}
use Rattle.board_terms.specs.Messages.{ticket_of}
use Rattle.board_terms.specs.declared.notices.Notice.{Notice}
use Rattle.board_terms.specs.declared.notices.Notice.TheVariants.{Placed, Withdrawn}
use Rattle.message_queues.specs.Queues.{queue_of, withdrawn_of}
use Rattle.gpa_space.specs.Space.{is_pending, after_pending}
use Rattle.synic_board.specs.declared.event.Event.{Event}
use Rattle.synic_board.specs.declared.event.Event.TheVariants.{Take, Reset}
use Rattle.synic_board.specs.declared.event.Reply.{Reply}
use Rattle.synic_board.specs.declared.event.Reply.TheVariants.{Taken}
use Rattle.synic_board.specs.State.{State, processors, apic_of, space_of, with_apic, with_space, slot_of}
use Rattle.synic_board.specs.Effects.{Effect, Outcome, nothing, after, answered, unchanged, refused}
use Rattle.synic_board.specs.Interrupts.{is_requested, raised, taken_at, taken}
use Rattle.synic_board.specs.Delivery.{placed_state}
use Rattle.synic_board.specs.Posts.{with_flag, flagged}
use Rattle.synic_board.specs.Timers.{expired_notices, skipped_notices, expiry_notices, expiry_at}
use Rattle.synic_board.specs.Suspending.{with_suspension}
use Rattle.synic_board.specs.Resetting.{withdrawn_ticket, slot_emptied, queue_emptied, source_emptied, emptied_below, emptied, cleared, reset}
use Rattle.synic_board.specs.Step.{step}
use Rattle.synic_board.specs.Run.{run_of}
use Rattle.law_board.specs.Requests.{is_request_notice, has_request_notice, Takes}
use Rattle.synic_board.proofs.keeping.Requests.{either}
use Rattle.synic_board.proofs.Throughout.{OfEffects, throughout, request_made}

-- an effect requests the vectors of its Requested notices, which were not requested, and clears no request
record Tells (s : State) (e : Effect) : Type 0 where
  pub many : processors e.0 ≡ processors s
  pub joins : (p v : ℕ) → p < processors s → is_requested e.0 p v ≡ (is_requested s p v || has_request_notice p v e.1)
  pub fresh : (p v : ℕ) → p < processors s → has_request_notice p v e.1 ≡ true → is_requested s p v ≡ false

or-false : (a : Bool) → (a || false) ≡ a
or-false true = refl
or-false false = refl

or-assoc : (a b c : Bool) → ((a || b) || c) ≡ (a || (b || c))
or-assoc true b c = refl
or-assoc false b c = refl

neither : (a b : Bool) → (a || b) ≡ false → a ≡ false
neither true b h = h
neither false b h = refl

emitted-joined : (p v : ℕ) (xs ys : List Notice)
    → has_request_notice p v (xs ++ ys) ≡ (has_request_notice p v xs || has_request_notice p v ys)
emitted-joined p v [] ys = refl
emitted-joined p v (x ∷ xs) ys =
    ap (λ b. is_request_notice p v x || b) (emitted-joined p v xs ys)
    ∙ sym (or-assoc (is_request_notice p v x) (has_request_notice p v xs) (has_request_notice p v ys))

-- an effect that leaves the APICs unchanged, and emits no Requested
mute : (s : State) (e : Effect) → e.0.apics ≡ s.apics → ((p v : ℕ) → has_request_notice p v e.1 ≡ false) → Tells s e
mute s e same none = record {
  many = ap (λ (l : List Apic). length l) same;
  joins = λ p v on. ap (λ (l : List Apic). set.contains (get_or l p empty_apic).requested v) same
      ∙ sym (ap (λ b. is_requested s p v || b) (none p v) ∙ or-false (is_requested s p v));
  fresh = λ p v on emitted. let no : true ≡ false = sym emitted ∙ none p v in absurd (cc);
}

tells-after : (s : State) (e f : Effect) → Tells s e → Tells e.0 f → Tells s (after e f)
tells-after s e f a b = record {
  many = b.many ∙ a.many;
  joins = λ p v on. b.joins p v (subst (λ n. p < n) (sym a.many) on)
      ∙ ap (λ r. r || has_request_notice p v f.1) (a.joins p v on)
      ∙ or-assoc (is_requested s p v) (has_request_notice p v e.1) (has_request_notice p v f.1)
      ∙ ap (λ r. is_requested s p v || r) (sym (emitted-joined p v e.1 f.1));
  fresh = λ p v on emitted. split p v on (has_request_notice p v e.1) refl (sym (emitted-joined p v e.1 f.1) ∙ emitted);
}
  where
    split : (p v : ℕ) → p < processors s → (t : Bool) → has_request_notice p v e.1 ≡ t
        → (has_request_notice p v e.1 || has_request_notice p v f.1) ≡ true → is_requested s p v ≡ false
    split p v on true first emitted = a.fresh p v on first
    split p v on false first emitted =
        let second : has_request_notice p v f.1 ≡ true =
        ap (λ t. t || has_request_notice p v f.1) (sym first) ∙ emitted in
        neither (is_requested s p v) (has_request_notice p v e.1)
        (sym (a.joins p v on) ∙ b.fresh p v (subst (λ n. p < n) (sym a.many) on) second)

-- a request of a vector that was not requested
tells-request : (s : State) (p v : ℕ) → is_requested s p v ≡ false → Tells s (request_made s p v)
tells-request s p v clear =
    record {
      many = length-set s.apics p (request (apic_of s p) v);
      joins = λ q w on. joins q w on (cases_eq q p);
      fresh = λ q w on emitted. fresh q w emitted;
    }
  where
    apic : Apic
    apic = request (apic_of s p) v

    joins : (q w : ℕ) → q < processors s → (q ≡ p) ⊎ (q ≢ p)
        → is_requested (with_apic s p apic) q w ≡ (is_requested s q w || ((q == p && w == v) || false))
    joins q w on (inl here) =
        let stands : get_or (set_list s.apics p apic) q empty_apic ≡ apic =
        ap (λ i. get_or (set_list s.apics p apic) i empty_apic) here
        ∙ get_or-set_same s.apics p apic empty_apic (subst (λ i. i < processors s) here on) in
        let member = contains-insert nat_cmp_total (apic_of s p).requested v w in
        let same : is_requested s q w ≡ is_requested s p w = ap (λ i. is_requested s i w) here in
        ap (λ (a : Apic). set.contains a.requested w) stands ∙ grind (arith, nat_tests)
    joins q w on (inr away) =
        let stands = get_or-set_other s.apics p q apic empty_apic away in
        ap (λ (a : Apic). set.contains a.requested w) stands ∙ grind (arith, nat_tests)

    fresh : (q w : ℕ) → ((q == p && w == v) || false) ≡ true → is_requested s q w ≡ false
    fresh q w emitted =
        let here : q ≡ p = grind (arith, nat_tests) in
        let same : w ≡ v = grind (arith, nat_tests) in
        ap (λ i. is_requested s i w) here ∙ ap (is_requested s p) same ∙ clear

emitted-withdrawn : (p v q i : ℕ) (tickets : List ℕ)
    → has_request_notice p v (map (λ t. Withdrawn q i t) tickets) ≡ false
emitted-withdrawn p v q i [] = refl
emitted-withdrawn p v q i (t ∷ tickets) = emitted-withdrawn p v q i tickets

emitted-expiry : (p v : ℕ) (t : ℕ × ℕ) (signal : Option ℕ) (skipped : ℕ)
    → has_request_notice p v (expiry_notices t signal skipped) ≡ false
emitted-expiry p v t signal skipped = emitted-joined p v (expired_notices t signal) (skipped_notices t skipped)
    ∙ both (first signal) (either (λ ns. has_request_notice p v ns ≡ false) (skipped == 0) _ _ (λ _. refl) (λ _. refl))
  where
    both : {a b : Bool} → a ≡ false → b ≡ false → (a || b) ≡ false
    both {a} {b} h k = ap (λ x. x || b) h ∙ k

    first : (o : Option ℕ) → has_request_notice p v (expired_notices t o) ≡ false
    first None = refl
    first (Some d) = refl

emitted : OfEffects Tells
emitted = record {
  stays = λ s. mute s (nothing s) refl (λ _ _. refl);
  joins = tells-after;
  requests = tells-request;
  accepts = λ s p i m. mute s _ refl (λ _ _. refl);
  locations = λ s p i m rest _ _.
      either (λ ns. Tells s (placed_state s p i m rest, Placed p i (ticket_of m) ∷ ns)) (nat_lt 0 (length rest)) _ _
      (λ _. mute s _ refl (λ _ _. refl)) (λ _. mute s _ refl (λ _ _. refl));
  marks = λ s p i. either (λ ns. Tells s (with_space s (after_pending (space_of s) p i), ns))
      (is_pending (space_of s) p i) _ _ (λ _. mute s _ refl (λ _ _. refl)) (λ _. mute s _ refl (λ _ _. refl));
  consumes = λ s p i t _. mute s _ refl (λ _ _. refl);
  withdraws = λ s p i port.
      mute s _ refl (λ q v. emitted-withdrawn q v p i (withdrawn_of port (queue_of s.queues p i)));
  frees = λ s p i t. mute s _ refl (λ _ _. refl);
  empties = λ s p i. mute s _ refl (λ q v. emitted-withdrawn q v p i (map ticket_of (queue_of s.queues p i)));
  expires = λ s t _. mute s _ refl (λ q v. emitted-expiry q v t (expiry_at s t).signal (expiry_at s t).skipped);
}

-- the Requested notices of an outcome are exactly the new requests
record NotifiesRequests (s : State) (event : Event) (outcome : Outcome) : Type 0 where
  pub many : processors outcome.0 ≡ processors s
  pub emitted : (p v : ℕ) → p < processors s
      → has_request_notice p v outcome.2 ≡ (not (is_requested s p v) && is_requested outcome.0 p v)

came : (was says is : Bool) → is ≡ (was || says) → (says ≡ true → was ≡ false) → says ≡ (not was && is)
came true true is e f = let no : true ≡ false = f refl in absurd (cc)
came true false is e f = refl
came false says is e f = sym e

stayed : (was is : Bool) → (is ≡ true → was ≡ true) → false ≡ (not was && is)
stayed true is f = refl
stayed false true f = let no : false ≡ true = f refl in absurd (cc)
stayed false false f = refl

-- an effect from a state in which the same is requested
tells : (s t : State) (event : Event) (reply : Reply) (e : Effect) → t.apics ≡ s.apics → Tells t e
    → NotifiesRequests s event (answered reply e)
tells s t event reply e same h = record {
  many = h.many ∙ ap (λ (l : List Apic). length l) same;
  emitted = λ p v on.
      let was : is_requested t p v ≡ is_requested s p v =
      ap (λ (l : List Apic). set.contains (get_or l p empty_apic).requested v) same in
      let within : p < processors t = subst (λ n. p < n) (sym (ap (λ (l : List Apic). length l) same)) on in
      came (is_requested s p v) (has_request_notice p v e.1) (is_requested e.0 p v)
      (h.joins p v within ∙ ap (λ r. r || has_request_notice p v e.1) was)
      (λ emitted. sym was ∙ h.fresh p v within emitted);
}

-- an outcome without Requested, and without new requests
quiet : (s t : State) (event : Event) (reply : Reply) → processors t ≡ processors s →
    ((p v : ℕ) → p < processors s → is_requested t p v ≡ true → is_requested s p v ≡ true)
    → NotifiesRequests s event (unchanged t reply)
quiet s t event reply many fewer =
    record { many = many; emitted = λ p v on. stayed (is_requested s p v) (is_requested t p v) (fewer p v on) }

silent : (s : State) (event : Event) (reply : Reply) → NotifiesRequests s event (unchanged s reply)
silent s event reply = quiet s s event reply refl (λ _ _ _ e. e)

-- an APIC in which no more is requested
fewer : (s : State) (p : ℕ) (apic : Apic)
    → ((v : ℕ) → set.contains apic.requested v ≡ true → is_requested s p v ≡ true) → (q v : ℕ) → q < processors s →
    is_requested (with_apic s p apic) q v ≡ true → is_requested s q v ≡ true
fewer s p apic less q v on is = by (cases_eq q p)
  where
    by : (q ≡ p) ⊎ (q ≢ p) → is_requested s q v ≡ true
    by (inl here) =
        let stands : get_or (set_list s.apics p apic) q empty_apic ≡ apic =
        ap (λ i. get_or (set_list s.apics p apic) i empty_apic) here
        ∙ get_or-set_same s.apics p apic empty_apic (subst (λ i. i < processors s) here on) in
        ap (λ i. is_requested s i v) here ∙ less v (sym (ap (λ (a : Apic). set.contains a.requested v) stands) ∙ is)
    by (inr away) =
        sym (ap (λ (a : Apic). set.contains a.requested v) (get_or-set_other s.apics p q apic empty_apic away)) ∙ is

-- withdrawals emit no Requested
none-emptied : (s : State) (p n q v : ℕ) → has_request_notice q v (emptied_below s p n).1 ≡ false
unfolding emptied_below
none-emptied s p zero q v = refl
none-emptied s p (suc i) q v =
    let e : Effect = emptied_below s p i in
    let freed : Effect = slot_emptied e.0 p i in
    emitted-joined q v e.1 (source_emptied e.0 p i).1
    ∙ ap (λ b. b || has_request_notice q v (source_emptied e.0 p i).1) (none-emptied s p i q v)
    ∙ emitted-joined q v freed.1 (queue_emptied freed.0 p i).1
    ∙ ap (λ b. b || has_request_notice q v (queue_emptied freed.0 p i).1)
    (elim (slot_of e.0 p i) as
    (λ o. has_request_notice q v (option_map_or (withdrawn_ticket e.0 p i) o (nothing e.0)).1 ≡ false) [
      | None ↦
          refl
      | Some t ↦ refl
    ])
    ∙ emitted-withdrawn q v p i (map ticket_of (queue_of freed.0.queues p i))

-- a processor that is reset has nothing requested, and the others have what they had
resets : (s : State) (p : ℕ) → Tells s (emptied s p) → NotifiesRequests s (Reset p) (reset s p)
resets s p h =
    let e : Effect = emptied s p in
    let none : (q v : ℕ) → has_request_notice q v e.1 ≡ false = none-emptied s p 16 in
    let same : (q v : ℕ) → q < processors s → is_requested e.0 q v ≡ is_requested s q v =
    λ q v on. h.joins q v on ∙ ap (λ b. is_requested s q v || b) (none q v) ∙ or-false (is_requested s q v) in
    record {
      many = length-set e.0.apics p empty_apic ∙ h.many;
      emitted = λ q v on.
          emitted-joined q v e.1 [] ∙ ap (λ b. b || false) (none q v)
          ∙ stayed (is_requested s q v) (is_requested (cleared e.0 p) q v) (λ is. sym (same q v on)
          ∙ fewer e.0 p empty_apic (λ w stands. absurd (empty w stands)) q v (subst (λ n. q < n) (sym h.many) on) is);
    }
  where
    empty : (w : ℕ) → set.contains empty_apic.requested w ≡ true → ⊥
    empty w stands = let no : true ≡ false = sym stands ∙ set.contains-empty nat_cmp w in cc

steps : (s : State) (event : Event) → NotifiesRequests s event (step s event)
steps s event = throughout Tells NotifiesRequests emitted (record {
  refuses = λ s event r. silent s event _;
  faults = λ s event. silent s event _;
  reads = λ s p number. silent s _ _;
  loads = λ s address count. silent s _ _;
  acts = λ s event reply moment ports regs e _ h. tells s _ event reply e refl h;
  eases = λ s event reply p a _ less _.
      quiet s (with_apic s p a) event reply (length-set s.apics p a) (fewer s p a less);
  stores = λ s address bytes e h. tells s _ _ _ e refl h;
  configures = λ s p n number value e _ _ h. tells s _ _ _ e refl h;
  counts = λ s p n number value e _ _ h. tells s _ _ _ e refl h;
  repeats = λ s port flag p i f _ _. quiet s (with_flag s p i f) _ _ refl (λ _ _ _ e. e);
  signals = λ s port flag p i f _ _ h. let lit : State = with_flag s p i f in
      tells s s _ _ (after (flagged s p i f) (raised lit p i)) refl
      (tells-after s (flagged s p i f) (raised lit p i) (mute s _ refl (λ _ _. refl)) h);
  pauses = λ s event p mark _ _.
      quiet s (with_suspension s p mark) event _ (length-set s.apics p (apic_with_suspension (apic_of s p) mark))
      (fewer s p (apic_with_suspension (apic_of s p) mark) (λ v is. is));
  resets = λ s p _ h. resets s p h;
}) s event

pub emitted_of : (s : State) (event : Event) (p v : ℕ) → p < processors s
    → has_request_notice p v (step s event).2 ≡ (not (is_requested s p v) && is_requested (step s event).0 p v)
emitted_of s event = (steps s event).emitted

or-first : (a b : Bool) → a ≡ true → (a || b) ≡ true
or-first true b h = refl
or-first false b h = absurd (cc)

or-second : (a b : Bool) → b ≡ true → (a || b) ≡ true
or-second true b h = refl
or-second false b h = h

-- every vector that becomes requested during a run has a notice
emitted-over : (s : State) (events : List Event) (p v : ℕ) → p < processors s → is_requested s p v ≡ false
    → is_requested (run_of s events).0 p v ≡ true →
    has_request_notice p v (run_of s events).2 ≡ true
unfolding run_of
emitted-over s [] p v on clear stands = absurd (cc)
emitted-over s (event ∷ events) p v on clear stands = emitted-joined p v (step s event).2 (run_of now events).2
    ∙ by (is_requested (step s event).0 p v) refl
    (emitted-over (step s event).0 events p v (subst (λ n. p < n) (sym (steps s event).many) on))
  where
    now : State
    now = (step s event).0

    by : (b : Bool) → is_requested now p v ≡ b →
        (is_requested now p v ≡ false → is_requested (run_of now events).0 p v ≡ true
        → has_request_notice p v (run_of now events).2 ≡ true) →
        (has_request_notice p v (step s event).2 || has_request_notice p v (run_of now events).2) ≡ true
    by true e rest =
        or-first (has_request_notice p v (step s event).2) (has_request_notice p v (run_of now events).2)
        (emitted_of s event p v on ∙ ap (λ b. not b && is_requested now p v) clear ∙ e)
    by false e rest =
        or-second (has_request_notice p v (step s event).2) (has_request_notice p v (run_of now events).2)
        (rest e stands)

-- a take
abbrev taken_vector : Reply → Option ℕ
taken_vector (Taken vector) = vector
taken_vector reply = None

taken-next : (s : State) (p v : ℕ) → Takes s p v → (p < processors s) × (next (apic_of s p) ≡ Some v)
unfolding step
taken-next s p v takes = by (nat_lt p (processors s)) refl takes
  where
    by : (b : Bool) → nat_lt p (processors s) ≡ b
        → (if b then taken s p else refused s NoSuchProcessor).1 ≡ Taken (Some v) → (p < processors s)
        × (next (apic_of s p) ≡ Some v)
    by true on e = (grind (arith, nat_tests), ap taken_vector e)
    by false on e = absurd (cc)

both-hold : (a b : Bool) → (a && b) ≡ true → a ≡ true
both-hold true b h = refl
both-hold false b h = h

awaited-requested : (a : Apic) (v : ℕ) → awaited a ≡ Some v → set.contains a.requested v ≡ true
awaited-requested a v is =
    let greatest_one : IsGreatest (deliverable a) v =
    subst (Greatest (deliverable a)) is (greatest_tells (deliverable a)) in
    both-hold (set.contains a.requested v) (nat_lt (priority a) (class v))
    (sym (set.contains-retain a.requested (λ w. nat_lt (priority a) (class w)) v
    (λ x t. ap (λ w. nat_lt (priority a) (class w)) (sym (nat_cmp-IsAntisymmetric v x t)))) ∙ greatest_one.member)

next-requested : (a : Apic) (v : ℕ) → next a ≡ Some v → set.contains a.requested v ≡ true
next-requested a v is = by a.suspended is
  where
    by : (mark : Bool) → (if mark then None else awaited a) ≡ Some v → set.contains a.requested v ≡ true
    by true e = absurd (cc)
    by false e = awaited-requested a v e

-- what was taken is not requested
taken-clear : (s : State) (p v : ℕ) → p < processors s → next (apic_of s p) ≡ Some v
    → is_requested (step s (Take p)).0 p v ≡ false
unfolding step
taken-clear s p v on is =
    let apic : Apic = taken_at s p v in
    let below : nat_lt p (processors s) ≡ true = grind (arith, nat_tests) in
    let now : (step s (Take p)).0 ≡ with_apic s p apic =
    ap (λ (b : Bool). (if b then taken s p else refused s NoSuchProcessor).0) below
    ∙ ap (λ (o : Option ℕ). option_map_or (λ w. with_apic s p (taken_at s p w)) o s) is in
    let member : set.contains apic.requested v ≡ (not (eq_by_cmp nat_cmp v v) && is_requested s p v) =
    contains-remove nat_cmp_total (apic_of s p).requested v v in
    ap (λ (t : State). is_requested t p v) now
    ∙ ap (λ (a : Apic). set.contains a.requested v) (get_or-set_same s.apics p apic empty_apic on)
    ∙ grind (arith, nat_tests)

pub emitted_between : (s : State) (events : List Event) (p v : ℕ) → Takes s p v
    → Takes (run_of (step s (Take p)).0 events).0 p v
    → has_request_notice p v (run_of (step s (Take p)).0 events).2 ≡ true
emitted_between s events p v first second =
    let now : State = (step s (Take p)).0 in
    let taken_first = taken-next s p v first in
    let taken_second = taken-next (run_of now events).0 p v second in
    emitted-over now events p v (subst (λ n. p < n) (sym (steps s (Take p)).many) taken_first.0)
    (taken-clear s p v taken_first.0 taken_first.1)
    (next-requested (apic_of (run_of now events).0 p) v taken_second.1)
