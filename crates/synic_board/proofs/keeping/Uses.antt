-- How many buffers are in use after a queue is written.
use Rattle.std.proofs.Common.{◌≡◌, ◌≢◌, ◌⊎◌, inl, inr, ℕ, zero, suc, ◌+◌, ◌/◌, ◌%◌, ◌<◌, ◌≤◌, Bool, true, false, cond, ◌&&◌, List, [], ◌∷◌, ◌++◌, length, set, get_or, refl, ap, sym, ◌∙◌, subst, arith}
use Rattle.std.specs.Prelude.{Option, None, Some, not, ◌==◌, sum_by, count_by, slice_index_or}
use Rattle.std.specs.Option.{option_map_or}
use Rattle.std.specs.List.{All}
use Rattle.std.proofs.lemmas.Bool.{cases_lt, cases_eq}
use Rattle.std.proofs.lemmas.Bool.Decides.{nat_tests}
use Rattle.std.proofs.lemmas.List.{length-set, set_past, get_or-set_same, get_or-set_other}
use Rattle.std.proofs.lemmas.List.Elements.{All-nil, All-head, All-tail, All-push, All-filter}
use Rattle.std.proofs.lemmas.List.Sums.{sum_by-set, sum_by-cons, sum_by_push}
use Rattle.arrayvec.specs.ArrayVec.{ArrayVec}
use Rattle.board_terms.specs.declared.messages.Message.{Message}
use Rattle.board_terms.specs.declared.messages.Message.TheVariants.{FromPort, FromTimer}
use Rattle.board_terms.specs.Messages.{ticket_of}
use Rattle.board_terms.specs.Sources.{source_number}
use Rattle.message_queues.specs.Queues.{Queues, processors_of, most_ports, is_from_port, is_from_timer, port_used, timer_used, is_timer_free, queue_of, left_of, appended}
use Rattle.board_terms.specs.declared.messages.PortShape.TheVariants.{Messages}
use Rattle.event_ports.specs.declared.ports.Port.{Port}
use Rattle.event_ports.specs.Ports.{port_at, buffers_at, is_posted_type}
use Rattle.synic_board.specs.State.{State, slot_of, ports_of}
use Rattle.event_ports.specs.Shapes.{buffers_of}
use Rattle.synic_board.specs.Effects.{Effect, nothing}
use Rattle.synic_board.specs.Delivery.{accepted}
use Rattle.synic_board.specs.Resetting.{withdrawn_ticket, slot_emptied, queue_emptied, emptied_below}
use Rattle.synic_board.specs.Timed.{Ascends, Precedes, HasExpired, IsTimed}
use Rattle.synic_board.specs.Buffers.{SendsTo, IsHome, HasBuffers}
use Rattle.synic_board.proofs.keeping.Requests.{either}
use Rattle.synic_board.proofs.keeping.Timed.{ascends-left, timed-same, timed-queue, timed-slot}

-- the same queues and ports
pub unmoved : (s now : State) → now.queues ≡ s.queues → now.ports ≡ s.ports → IsTimed now → HasBuffers s
    → HasBuffers now
unmoved s now queues ports timed h = record {
  room = λ k. omega (arith, ap (λ qs. port_used qs k) queues, h.room k);
  one_each = λ t. omega (arith, ap (λ qs. timer_used qs t) queues, h.one_each t);
  within = λ k p e. omega (
    arith,
    ap (λ qs. port_used qs k) queues,
    h.within k p (ap (λ xs. slice_index_or xs k None) (sym ports) ∙ e),
  );
  home = λ p i below. subst (λ qs. All (IsHome now.ports p i) (queue_of qs p i)) (sym queues)
      (subst (λ ps. All (IsHome ps p i) (queue_of s.queues p i)) (sym ports) (h.home p i below));
  timed = timed;
  ports = omega (arith, ap length ports, ap (λ (qs : Queues). most_ports (processors_of qs)) queues, h.ports);
  few = λ p. omega (arith, ap (λ (xs : List (Option Port)). sum_by (buffers_at p) xs) ports, h.few p);
  shapes = λ k p e. h.shapes k p (ap (λ xs. slice_index_or xs k None) (sym ports) ∙ e);
  sources = λ k p e. h.sources k p (ap (λ xs. slice_index_or xs k None) (sym ports) ∙ e);
}

-- and the same tickets, time, timers and slots
pub alike : (s now : State) → now.queues ≡ s.queues → now.ports ≡ s.ports → now.next_ticket ≡ s.next_ticket
    → now.moment ≡ s.moment → now.timers ≡ s.timers → now.slots ≡ s.slots → HasBuffers s → HasBuffers now
alike s now queues ports next moment timers slots h =
    unmoved s now queues ports (timed-same s now queues next moment timers slots h.timed) h

-- how many queued messages satisfy a predicate
abbrev pub found_in : (Message → Bool) → Queues → ℕ
found_in f qs = sum_by (count_by f) qs

-- a queue that was written
used-set : (f : Message → Bool) (qs : Queues) (j d : ℕ) (q : List Message)
    → count_by f q ≤ count_by f (get_or qs j []) + d → found_in f (set qs j q) ≤ found_in f qs + d
used-set f qs j d q bound = split (cases_lt j (length qs))
  where
    split : (j < length qs) ⊎ (length qs ≤ j) → found_in f (set qs j q) ≤ found_in f qs + d
    split (inl inside) = omega (arith, bound, sum_by-set (count_by f) qs j q [] inside)
    split (inr past) = omega (arith, ap (λ xs. found_in f xs) (set_past qs j q past))

-- each message of each source
abbrev pub Each : (ℕ → ℕ → Message → Type 0) → Queues → Type 0
Each P qs = (p i : ℕ) → i < 16 → All (P p i) (queue_of qs p i)

pub each-set : (P : ℕ → ℕ → Message → Type 0) (qs : Queues) (j : ℕ) (q : List Message)
    → ((p i : ℕ) → i < 16 → source_number p i ≡ j → All (P p i) q) →
    ((p i : ℕ) → i < 16 → (source_number p i ≢ j) ⊎ (length qs ≤ j) → All (P p i) (queue_of qs p i))
    → Each P (set qs j q)
each-set P qs j q new old p i below = split (cases_eq (source_number p i) j) (cases_lt j (length qs))
  where
    split : (source_number p i ≡ j) ⊎ (source_number p i ≢ j) → (j < length qs) ⊎ (length qs ≤ j)
        → All (P p i) (queue_of (set qs j q) p i)
    split (inl same) (inl inside) =
        subst (All (P p i)) (sym (ap (λ k. get_or (set qs j q) k []) same ∙ get_or-set_same qs j q [] inside))
        (new p i below same)
    split (inr other) _ =
        subst (All (P p i)) (sym (get_or-set_other qs j (source_number p i) q [] other)) (old p i below (inl other))
    split _ (inr past) =
        subst (λ xs. All (P p i) (queue_of xs p i)) (sym (set_past qs j q past)) (old p i below (inr past))

abbrev one_if : Bool → ℕ
one_if b = cond b 1 0

-- no message from a port that is not open
count-none : (ports : List (Option Port)) (p i port : ℕ) (q : List Message) → get_or ports port None ≡ None
    → All (IsHome ports p i) q → count_by (is_from_port port) q ≡ 0
count-none ports p i port [] closed h = omega arith
count-none ports p i port (m ∷ q) closed h =
    omega (
      arith,
      sum_by-cons (λ x. cond (is_from_port port x) 1 0) m q,
      count-none ports p i port q closed (All-tail (IsHome ports p i) m q h),
      none m (All-head (IsHome ports p i) m q h),
    )
  where
    none : (x : Message) → IsHome ports p i x → one_if (is_from_port port x) ≡ 0
    none (FromTimer ticket t expiration) home = refl
    none (FromPort ticket n kind payload) home = split (cases_eq n port)
      where
        split : (n ≡ port) ⊎ (n ≢ port) → one_if (n == port) ≡ 0
        split (inl same) =
            let open_at =
            home.1.1 in let both : get_or ports n None ≡ None =
            ap (λ k. get_or ports k None) same ∙ closed in absurd (cc)
        split (inr other) = grind (arith, nat_tests)

sum-none : (f : List Message → ℕ) (qs : Queues) → ((j : ℕ) → j < length qs → f (get_or qs j []) ≡ 0) → sum_by f qs ≡ 0
sum-none f [] none = omega arith
sum-none f (q ∷ qs) none =
    let first : f q ≡ 0 = none 0 (omega (arith, length-cons q qs)) in
    omega (
      arith,
      sum_by-cons f q qs,
      first,
      sum-none f qs (λ j below. none (suc j) (omega (arith, length-cons q qs, below))),
    )
  where
    length-cons : (x : List Message) (xs : Queues) → length (x ∷ xs) ≡ suc (length xs)
    length-cons x xs = refl

pub none-used : (s : State) (port : ℕ) → slice_index_or s.ports port None ≡ None → HasBuffers s
    → port_used s.queues port ≡ 0
none-used s port closed h = sum-none (count_by (is_from_port port)) s.queues (λ j below.
    let place : source_number (j / 16) (j % 16) ≡ j = omega arith in
    subst (λ k. count_by (is_from_port port) (get_or s.queues k []) ≡ 0) place
    (count-none s.ports (j / 16) (j % 16) port (queue_of s.queues (j / 16) (j % 16)) closed
    (h.home (j / 16) (j % 16) (omega arith))))

-- messages of a queue, of which some may be missing
pub record IsPart (q whole : List Message) : Type 0 where
  pub counts : (f : Message → Bool) → count_by f q ≤ count_by f whole
  pub home : (ports : List (Option Port)) (p i : ℕ) → All (IsHome ports p i) whole → All (IsHome ports p i) q
  pub order : (next : ℕ) → Ascends next whole → Ascends next q
  pub ahead : (t : ℕ) → All (λ m. t < ticket_of m) whole → All (λ m. t < ticket_of m) q
  pub timely : (moment i : ℕ) → All (HasExpired moment i) whole → All (HasExpired moment i) q

pub part-rest : (m : Message) (q : List Message) → IsPart q (m ∷ q)
part-rest m q =
    record {
      counts = λ f. omega (arith, sum_by-cons (λ x. cond (f x) 1 0) m q);
      home =
          λ ports p i h. All-tail (IsHome ports p i) m q h;
      order =
          λ next h. h.2;
      ahead =
          λ t h. All-tail (λ m. t < ticket_of m) m q h;
      timely = λ moment i h. All-tail (HasExpired moment i) m q h;
    }

pub part-none : (q : List Message) → IsPart [] q
part-none q =
    record {
      counts = λ f. omega arith;
      home = λ ports p i h. All-nil (IsHome ports p i);
      order = λ next h. tt;
      ahead = λ t h. All-nil (λ m. t < ticket_of m);
      timely = λ moment i h. All-nil (HasExpired moment i);
    }

count-left : (f : Message → Bool) (port : ℕ) (q : List Message) → count_by f (left_of port q) ≤ count_by f q
count-left f port [] = omega arith
count-left f port (m ∷ q) =
    let more = count-left f port q in
    either (λ (xs : List Message). count_by f xs ≤ count_by f (m ∷ q)) (not (is_from_port port m)) _ _
    (λ _. omega (
      arith,
      more,
      sum_by-cons (λ x. cond (f x) 1 0) m (left_of port q),
      sum_by-cons (λ x. cond (f x) 1 0) m q,
    ))
    (λ _. omega (arith, more, sum_by-cons (λ x. cond (f x) 1 0) m q))

pub part-left : (port : ℕ) (q : List Message) → IsPart (left_of port q) q
part-left port q = record {
  counts = λ f. count-left f port q;
  home = λ ports p i h. All-filter (λ m. not (is_from_port port m)) (IsHome ports p i) q h;
  order = λ next h. ascends-left port next q h;
  ahead = λ t h. All-filter (λ m. not (is_from_port port m)) (λ m. t < ticket_of m) q h;
  timely = λ moment i h. All-filter (λ m. not (is_from_port port m)) (HasExpired moment i) q h;
}

precedes-part : (next : ℕ) (o : Option ℕ) (q whole : List Message) → IsPart q whole → Precedes next o whole
    → Precedes next o q
precedes-part next None q whole part h = tt
precedes-part next (Some t) q whole part h = (h.0, part.ahead t h.1)

pub fewer-queued : (s now : State) (j : ℕ) (q : List Message) → now.queues ≡ set s.queues j q → now.ports ≡ s.ports
    → now.next_ticket ≡ s.next_ticket → now.moment ≡ s.moment → now.timers ≡ s.timers → now.slots ≡ s.slots →
    IsPart q (get_or s.queues j []) → HasBuffers s → HasBuffers now
fewer-queued s now j q is ports next moment timers slots part h =
    alike written now is ports next moment timers slots (record {
      room = λ k. omega (arith, fewer (is_from_port k), h.room k);
      one_each = λ t. omega (arith, fewer (is_from_timer t), h.one_each t);
      within = λ k p e. omega (arith, fewer (is_from_port k), h.within k p e);
      home = each-set (IsHome s.ports) s.queues j q
          (λ p i below same. part.home s.ports p i
          (subst (λ k. All (IsHome s.ports p i) (get_or s.queues k [])) same (h.home p i below)))
          (λ p i below _. h.home p i below);
      timed = timed-queue s written j q refl refl refl refl refl (part.order s.next_ticket (h.timed.order j))
          (precedes-part s.next_ticket (get_or s.slots j None) q (get_or s.queues j []) part (h.timed.ahead j))
          (part.timely s.moment (j % 16) (h.timed.timely j)) h.timed;
      ports = omega (arith, ap (λ n. most_ports (n / 16)) (length-set s.queues j q), h.ports);
      few = h.few;
      shapes = h.shapes;
      sources = h.sources;
    })
  where
    written : State
    written = record s { queues = set s.queues j q }

    fewer : (f : Message → Bool) → found_in f (set s.queues j q) ≤ found_in f s.queues
    fewer f = let bound = used-set f s.queues j 0 q (omega (arith, part.counts f)) in omega (arith, bound)

-- there is a buffer for a message that joins a queue, and it may be queued there
pub record Fits (s : State) (p i : ℕ) (m : Message) : Type 0 where
  pub ports : (k : ℕ) → is_from_port k m ≡ true → port_used s.queues k < 16
  pub timers : (t : ℕ × ℕ) → is_from_timer t m ≡ true → timer_used s.queues t < 1
  pub share : (k : ℕ) (x : Port) → is_from_port k m ≡ true → port_at (ports_of s) k ≡ Some x
      → port_used s.queues k < buffers_of x.shape
  pub home : (q j : ℕ) → j < 16 → source_number q j ≡ source_number p i → IsHome s.ports q j m

pub port-fits : (s : State) (p i ticket port kind : ℕ) (payload : ArrayVec ℕ) → i < 16 → is_posted_type kind ≡ true
    → (sends : SendsTo s.ports port p i) → port_used s.queues port < 16 →
    port_used s.queues port < sends.0 → Fits s p i (FromPort ticket port kind payload)
port-fits s p i ticket port kind payload under typed sends low share = record {
  ports = λ k f. let same : port ≡ k = grind (arith, nat_tests) in omega (arith, ap (port_used s.queues) same, low);
  timers = λ t f. absurd (cc);
  share = λ k x f e.
      let same : port ≡ k = grind (arith, nat_tests) in
      let at : Some x ≡ Some (record { vp = p; sint = i; shape = Messages sends.0 }) =
      sym e ∙ ap (λ n. get_or s.ports n None) (sym same) ∙ sends.1 in
      omega (
        arith,
        ap (port_used s.queues) same,
        ap (λ (o : Option Port). option_map_or (λ y. buffers_of y.shape) o 0) at,
        share,
      );
  home = λ q j below same.
      let processor : p ≡ q = omega (arith, under, below, same) in
      let source : i ≡ j = omega (arith, under, below, same) in
      (typed, subst (λ x. SendsTo s.ports port x j) processor (subst (λ y. SendsTo s.ports port p y) source sends));
}

pub timer-fits : (s : State) (t : ℕ × ℕ) (i ticket expiration : ℕ) → i < 16 → t.1 < 4
    → is_timer_free s.queues t ≡ true → Fits s t.0 i (FromTimer ticket t expiration)
timer-fits s t i ticket expiration under index free = record {
  ports = λ k f. absurd (cc);
  timers = λ u f. used u (both (t.0 == u.0) (t.1 == u.1) f);
  share = λ k x f e. absurd (cc);
  home = λ q j below same. (omega (arith, under, below, same), index);
}
  where
    none : timer_used s.queues t ≡ 0
    none = grind (arith, nat_tests)

    both : (a b : Bool) → (a && b) ≡ true → (a ≡ true) × (b ≡ true)
    both true true e = (refl, refl)
    both true false e = absurd (cc)
    both false b e = absurd (cc)

    used : (u : ℕ × ℕ) → ((t.0 == u.0) ≡ true) × ((t.1 == u.1) ≡ true) → timer_used s.queues u < 1
    used u found =
        let first : t.0 ≡ u.0 = grind (arith, nat_tests, found.0) in
        let second : t.1 ≡ u.1 = grind (arith, nat_tests, found.1) in
        let same : timer_used s.queues t ≡ timer_used s.queues u =
        ap (λ n. timer_used s.queues (n, t.1)) first ∙ ap (λ n. timer_used s.queues (u.0, n)) second in
        omega (arith, none, same)

-- one more message that satisfies the predicate, if the new one does
more-found : (f : Message → Bool) (s : State) (p i : ℕ) (m : Message) (d : ℕ) → found_in f s.queues ≤ d
    → (f m ≡ true → found_in f s.queues < d) → found_in f (accepted s p i m).0.queues ≤ d
more-found f s p i m d bound free = elim (f m) as (λ b. f m ≡ b → found_in f (accepted s p i m).0.queues ≤ d) [
  | true ↦ λ e. omega (arith, more, ap one_if e, free e)
  | false ↦ λ e. omega (arith, more, ap one_if e, bound)
] refl
  where
    more : found_in f (accepted s p i m).0.queues ≤ found_in f s.queues + cond (f m) 1 0
    more = used-set f s.queues (source_number p i) (cond (f m) 1 0) (queue_of s.queues p i ++ m ∷ [])
        (omega (arith, sum_by_push (λ x. cond (f x) 1 0) (queue_of s.queues p i) m))

-- a message joins a queue
abbrev with_joined : State → ℕ → ℕ → ℕ → Message → State
with_joined s next p i m = record s { queues = appended s.queues p i m; next_ticket = next }

pub buffers-joined : (s : State) (next p i : ℕ) (m : Message) → Fits s p i m → IsTimed (with_joined s next p i m)
    → HasBuffers s → HasBuffers (with_joined s next p i m)
buffers-joined s next p i m fit timed h = record {
  room = λ k. more-found (is_from_port k) s p i m 16 (h.room k) (fit.ports k);
  one_each = λ t. more-found (is_from_timer t) s p i m 1 (h.one_each t) (fit.timers t);
  within = λ k x e. more-found (is_from_port k) s p i m (buffers_of x.shape) (h.within k x e) (λ f. fit.share k x f e);
  home = each-set (IsHome s.ports) s.queues (source_number p i) (queue_of s.queues p i ++ m ∷ [])
      (λ q j below same. All-push (IsHome s.ports q j) (queue_of s.queues p i) m
      (subst (λ k. All (IsHome s.ports q j) (get_or s.queues k [])) same (h.home q j below))
      (fit.home q j below same))
      (λ q j below _. h.home q j below);
  timed = timed;
  ports = omega (
    arith,
    ap (λ n. most_ports (n / 16))
        (length-set s.queues (source_number p i) (queue_of s.queues p i ++ m ∷ [])),
    h.ports,
  );
  few = h.few;
  shapes = h.shapes;
  sources = h.sources;
}

-- emptying the slots and queues of a processor
pub buffers-slot : (s : State) (p i : ℕ) → HasBuffers s → HasBuffers (slot_emptied s p i).0
buffers-slot s p i h = held (slot_of s p i)
  where
    held : (o : Option ℕ) → HasBuffers (option_map_or (withdrawn_ticket s p i) o (nothing s)).0
    held None = h
    held (Some t) = unmoved s _ refl refl (timed-slot s (source_number p i) None tt h.timed) h

pub buffers-queue : (s : State) (p i : ℕ) → HasBuffers s → HasBuffers (queue_emptied s p i).0
buffers-queue s p i h =
    fewer-queued s (queue_emptied s p i).0 (source_number p i) [] refl refl refl refl refl refl
    (part-none (queue_of s.queues p i)) h

pub buffers-emptied_below : (s : State) (p n : ℕ) → HasBuffers s → HasBuffers (emptied_below s p n).0
unfolding emptied_below
buffers-emptied_below s p zero h = h
buffers-emptied_below s p (suc i) h =
    let e : Effect = emptied_below s p i in
    buffers-queue (slot_emptied e.0 p i).0 p i (buffers-slot e.0 p i (buffers-emptied_below s p i h))
