-- A reset emits at most 276 notices, and each of them fits.
use Rattle.std.proofs.Common.{◌≡◌, ◌≢◌, ◌⊎◌, inl, inr, ℕ, zero, suc, ◌+◌, ◌<◌, ◌≤◌, Bool, true, false, cond, ◌&&◌, List, [], ◌∷◌, ◌++◌, length, length-append, map, take, get_or, refl, ap, ◌∙◌, subst, arith, nat_eq, nat_lt, eq-eqb}
use Rattle.std.specs.Prelude.{Option, None, Some, if◌then◌else◌, ◌==◌, sum_by, count_by}
use Rattle.std.specs.Option.{option_map_or}
use Rattle.std.specs.List.{All}
use Rattle.std.proofs.lemmas.Bool.{cases_lt}
use Rattle.std.proofs.lemmas.Bool.Decides.{eqb_tells, nat_tests}
use Rattle.std.proofs.lemmas.List.{length-map, set_past, take_all}
use Rattle.std.proofs.lemmas.List.Elements.{All-head, All-tail}
use Rattle.std.proofs.lemmas.List.Sums.{sum_by-set, sum_by-cons, sum_by_more}
use Rattle.std.proofs.Math.ListN.{get_or-eq_default}
use Rattle.board_terms.specs.Messages.{ticket_of}
use Rattle.board_terms.specs.declared.messages.Message.{Message}
use Rattle.board_terms.specs.declared.messages.Message.TheVariants.{FromPort, FromTimer}
use Rattle.board_terms.specs.declared.notices.Notice.TheVariants.{Withdrawn}
use Rattle.board_terms.specs.Sources.{source_number}
use Rattle.message_queues.specs.Queues.{Queues, is_from_port, is_from_timer, queue_of}
use Rattle.event_ports.specs.declared.ports.Port.{Port}
use Rattle.event_ports.specs.Shapes.{buffers_of}
use Rattle.event_ports.specs.Ports.{port_at, buffers_at}
use Rattle.synic_board.specs.State.{State, slot_of, ports_of}
use Rattle.synic_board.specs.Effects.{Effect, nothing}
use Rattle.synic_board.specs.Resetting.{withdrawn_ticket, slot_emptied, queue_emptied, emptied_below, emptied, reset}
use Rattle.synic_board.specs.Buffers.{IsHome, HasBuffers}
use Rattle.synic_board.proofs.keeping.Uses.{found_in, buffers-slot, buffers-emptied_below}

-- sums over a list
sum-split : {X : Type 0} (f g h : X → ℕ) → ((x : X) → f x ≤ g x + h x) → (xs : List X)
    → sum_by f xs ≤ sum_by g xs + sum_by h xs
sum-split f g h le [] = omega arith
sum-split f g h le (x ∷ xs) =
    omega (arith, le x, sum-split f g h le xs, sum_by-cons f x xs, sum_by-cons g x xs, sum_by-cons h x xs)

sum-none : {X : Type 0} (f : X → ℕ) → ((x : X) → f x ≡ 0) → (xs : List X) → sum_by f xs ≡ 0
sum-none f none [] = refl
sum-none f none (x ∷ xs) = omega (arith, none x, sum-none f none xs, sum_by-cons f x xs)

abbrev one_if : Bool → ℕ
one_if b = cond b 1 0

-- a message that satisfies one predicate satisfies one of two others
found-split : (f g h : Message → Bool) → ((m : Message) → one_if (f m) ≤ one_if (g m) + one_if (h m)) → (qs : Queues)
    → found_in f qs ≤ found_in g qs + found_in h qs
found-split f g h le qs =
    sum-split (count_by f) (count_by g) (count_by h)
    (λ q. sum-split (λ m. one_if (f m)) (λ m. one_if (g m)) (λ m. one_if (h m)) le q) qs

found-none : (f : Message → Bool) → ((m : Message) → f m ≡ false) → (qs : Queues) → found_in f qs ≡ 0
found-none f none qs = sum-none (count_by f) (λ q. sum-none (λ m. one_if (f m)) (λ m. ap one_if (none m)) q) qs

-- whether a message is of one of the first n ports, and the port sends to a processor; or of one of the first n
-- timers of a processor
abbrev sends_to : ℕ → Option Port → Bool
sends_to p port = option_map_or (λ (x : Port). x.vp == p) port false

abbrev is_of_ports : List (Option Port) → ℕ → ℕ → Message → Bool
is_of_ports ports p n (FromPort ticket port kind payload) = sends_to p (get_or ports port None) && nat_lt port n
is_of_ports ports p n (FromTimer ticket t expiration) = false

abbrev is_of_timers : ℕ → ℕ → Message → Bool
is_of_timers p n (FromPort ticket port kind payload) = false
is_of_timers p n (FromTimer ticket t expiration) = (t.0 == p) && nat_lt t.1 n

last-below : (k n : ℕ) → one_if (nat_lt k (suc n)) ≤ one_if (nat_lt k n) + one_if (k == n)
last-below k n = grind (arith, nat_tests)

last-of : (a : Bool) (k n : ℕ) → one_if (a && nat_lt k (suc n)) ≤ one_if (a && nat_lt k n) + one_if (a && (k == n))
last-of true k n = last-below k n
last-of false k n = omega arith

both-off : (a b : Bool) → b ≡ false → (a && b) ≡ false
both-off true b e = e
both-off false b e = refl

next-port : (ports : List (Option Port)) (p n : ℕ) (m : Message)
    → one_if (is_of_ports ports p (suc n) m)
    ≤ one_if (is_of_ports ports p n m) + one_if (sends_to p (get_or ports n None) && is_from_port n m)
next-port ports p n (FromPort ticket port kind payload) = by (eqb_tells port n)
  where
    by : ((nat_eq port n ≡ true) × (port ≡ n)) ⊎ ((nat_eq port n ≡ false) × (port ≢ n)) →
        one_if (sends_to p (get_or ports port None) && nat_lt port (suc n))
        ≤ one_if (sends_to p (get_or ports port None) && nat_lt port n) + one_if
        (sends_to p (get_or ports n None) && nat_eq port n)
    by (inl same) =
        subst (λ (k : ℕ). one_if (sends_to p (get_or ports port None) && nat_lt port (suc k))
        ≤ one_if (sends_to p (get_or ports port None) && nat_lt port k) + one_if
        (sends_to p (get_or ports k None) && nat_eq port k))
        same.1 (last-of (sends_to p (get_or ports port None)) port port)
    by (inr other) =
        let whole = last-of (sends_to p (get_or ports port None)) port n in
        let off : (sends_to p (get_or ports port None) && nat_eq port n) ≡ false =
        both-off (sends_to p (get_or ports port None)) (nat_eq port n) other.0 in
        omega (arith, whole, ap one_if off)
next-port ports p n (FromTimer ticket t expiration) = omega arith

next-timer : (p n : ℕ) (m : Message)
    → one_if (is_of_timers p (suc n) m) ≤ one_if (is_of_timers p n m) + one_if (is_from_timer (p, n) m)
next-timer p n (FromPort ticket port kind payload) = omega arith
next-timer p n (FromTimer ticket t expiration) = last-of (t.0 == p) t.1 n

none-below : (a : Bool) (k : ℕ) → (a && nat_lt k 0) ≡ false
none-below true k = grind (arith, nat_tests)
none-below false k = refl

no-port : (ports : List (Option Port)) (p : ℕ) (m : Message) → is_of_ports ports p 0 m ≡ false
no-port ports p (FromPort ticket port kind payload) = none-below (sends_to p (get_or ports port None)) port
no-port ports p (FromTimer ticket t expiration) = refl

no-timer : (p : ℕ) (m : Message) → is_of_timers p 0 m ≡ false
no-timer p (FromPort ticket port kind payload) = refl
no-timer p (FromTimer ticket t expiration) = none-below (t.0 == p) t.1

-- a port uses no more buffers than it was opened with, and a timer one
port-bound : (s : State) (p n : ℕ) → HasBuffers s
    → found_in (λ m. sends_to p (get_or s.ports n None) && is_from_port n m) s.queues
    ≤ buffers_at p (get_or s.ports n None)
port-bound s p n h = by (get_or s.ports n None) refl
  where
    by : (o : Option Port) → get_or s.ports n None ≡ o
        → found_in (λ m. sends_to p o && is_from_port n m) s.queues ≤ buffers_at p o
    by None is = omega (arith, found-none (λ m. false) (λ m. refl) s.queues)
    by (Some x) is = sends (x.vp == p)
      where
        sends : (b : Bool) → found_in (λ m. b && is_from_port n m) s.queues ≤ (if b then buffers_of x.shape else 0)
        sends true = h.within n x is
        sends false = omega (arith, found-none (λ m. false) (λ m. refl) s.queues)

ports-bound : (s : State) (p n : ℕ) → n ≤ length s.ports → HasBuffers s
    → found_in (is_of_ports s.ports p n) s.queues ≤ sum_by (buffers_at p) (take n s.ports)
ports-bound s p zero within h = omega (arith, found-none (is_of_ports s.ports p 0) (no-port s.ports p) s.queues)
ports-bound s p (suc n) within h =
    let one : suc n ≡ n + 1 = omega arith in
    let more = ap (λ (k : ℕ). sum_by (buffers_at p) (take k s.ports)) one in
    omega (
      arith,
      found-split (is_of_ports s.ports p (suc n)) (is_of_ports s.ports p n)
          (λ m. sends_to p (get_or s.ports n None) && is_from_port n m) (next-port s.ports p n) s.queues,
      ports-bound s p n (omega (arith, within)) h,
      port-bound s p n h,
      more ∙ sum_by_more (buffers_at p) s.ports n None (omega (arith, within)),
    )

timers-bound : (s : State) (p n : ℕ) → HasBuffers s → found_in (is_of_timers p n) s.queues ≤ n
timers-bound s p zero h = omega (arith, found-none (is_of_timers p 0) (no-timer p) s.queues)
timers-bound s p (suc n) h =
    omega (
      arith,
      found-split (is_of_timers p (suc n)) (is_of_timers p n) (is_from_timer (p, n))
          (next-timer p n) s.queues,
      timers-bound s p n h,
      h.one_each (p, n),
    )

-- how many of the messages that may be queued for a processor are queued
abbrev homes : ℕ → State → ℕ
homes p s = found_in (is_of_ports s.ports p (length s.ports)) s.queues + found_in (is_of_timers p 4) s.queues

homes-bound : (s : State) (p : ℕ) → HasBuffers s → homes p s ≤ 260
homes-bound s p h =
    omega (
      arith,
      ports-bound s p (length s.ports) (omega arith) h,
      ap (sum_by (buffers_at p)) (take_all (length s.ports) s.ports (omega arith)),
      h.few p,
      timers-bound s p 4 h,
    )

-- an open port is one of the board's
pub port-below : (s : State) (port : ℕ) (p : Port) → port_at (ports_of s) port ≡ Some p → port < length s.ports
port-below s port p is = split (cases_lt port (length s.ports))
  where
    split : (port < length s.ports) ⊎ (length s.ports ≤ port) → port < length s.ports
    split (inl low) = low
    split (inr high) = let none : port_at (ports_of s) port ≡ None = get_or-eq_default s.ports None high in absurd (cc)

home-found : (s : State) (p i : ℕ) (m : Message) → IsHome s.ports p i m
    → 1 ≤ one_if (is_of_ports s.ports p (length s.ports) m) + one_if (is_of_timers p 4 m)
home-found s p i (FromPort ticket port kind payload) home =
    let low : port < length s.ports = port-below s port _ home.1.1 in
    let to : sends_to p (get_or s.ports port None) ≡ true = ap (sends_to p) home.1.1 ∙ eq-eqb p p refl in
    let yes : nat_lt port (length s.ports) ≡ true = grind (arith, nat_tests) in
    omega (arith, ap one_if (ap (λ (b : Bool). b && nat_lt port (length s.ports)) to ∙ yes))
home-found s p i (FromTimer ticket t expiration) home =
    let same = home.0 in let below = home.1 in grind (arith, nat_tests)

-- they are all the messages of one of its queues
all-found : (s : State) (p i : ℕ) (q : List Message) → All (IsHome s.ports p i) q
    → length q ≤ count_by (is_of_ports s.ports p (length s.ports)) q + count_by (is_of_timers p 4) q
all-found s p i [] h = omega arith
all-found s p i (m ∷ q) h =
    omega (
      arith,
      home-found s p i m (All-head (IsHome s.ports p i) m q h),
      all-found s p i q (All-tail (IsHome s.ports p i) m q h),
      sum_by-cons (λ x. cond (is_of_ports s.ports p (length s.ports) x) 1 0) m q,
      sum_by-cons (λ x. cond (is_of_timers p 4 x) 1 0) m q,
    )

-- so each message withdrawn from a queue was one of them
queue-emitted : (s : State) (p i : ℕ) → i < 16 → HasBuffers s
    → length (queue_emptied s p i).1 + homes p (queue_emptied s p i).0 ≤ homes p s
queue-emitted s p i below h = by (cases_lt (source_number p i) (length s.queues))
  where
    emitted : length (queue_emptied s p i).1 ≡ length (queue_of s.queues p i)
    emitted = length-map (map ticket_of (queue_of s.queues p i)) (λ t. Withdrawn p i t)
        ∙ length-map (queue_of s.queues p i) ticket_of

    by : (source_number p i < length s.queues) ⊎ (length s.queues ≤ source_number p i)
        → length (queue_emptied s p i).1 + homes p (queue_emptied s p i).0 ≤ homes p s
    by (inl inside) =
        omega (
          arith,
          emitted,
          all-found s p i (queue_of s.queues p i) (h.home p i below),
          sum_by-set (count_by (is_of_ports s.ports p (length s.ports))) s.queues (source_number p i) [] [] inside,
          sum_by-set (count_by (is_of_timers p 4)) s.queues (source_number p i) [] [] inside,
        )
    by (inr past) =
        let none : queue_of s.queues p i ≡ [] = get_or-eq_default s.queues [] past in
        let same : homes p (queue_emptied s p i).0 ≡ homes p s =
        ap (λ (qs : Queues). homes p (record s { queues = qs })) (set_past s.queues (source_number p i) [] past) in
        omega (arith, emitted, ap length none, same)

slot-emitted : (s : State) (p i : ℕ) → length (slot_emptied s p i).1 + homes p (slot_emptied s p i).0 ≤ 1 + homes p s
slot-emitted s p i =
    elim (slot_of s p i) as (λ o. length (option_map_or (withdrawn_ticket s p i) o (nothing s)).1 + homes p
    (option_map_or (withdrawn_ticket s p i) o (nothing s)).0 ≤ 1 + homes p s) [
      | None ↦ omega arith
      | Some t ↦
          omega arith
    ]

emptied-emitted : (s : State) (p n : ℕ) → n ≤ 16 → HasBuffers s
    → length (emptied_below s p n).1 + homes p (emptied_below s p n).0 ≤ n + homes p s
unfolding emptied_below
emptied-emitted s p zero bound h = omega arith
emptied-emitted s p (suc i) bound h =
    let e : Effect = emptied_below s p i in
    let slot : Effect = slot_emptied e.0 p i in
    let queue : Effect = queue_emptied slot.0 p i in
    let left = buffers-slot e.0 p i (buffers-emptied_below s p i h) in
    omega (
      arith,
      emptied-emitted s p i (omega (arith, bound)) h,
      slot-emitted e.0 p i,
      queue-emitted slot.0 p i (omega (arith, bound)) left,
      length-append e.1 (slot.1 ++ queue.1),
      length-append slot.1 queue.1,
    )

pub bound-reset : (s : State) (p : ℕ) → HasBuffers s → length (reset s p).2 ≤ 276
bound-reset s p h =
    omega (arith, emptied-emitted s p 16 (omega arith) h, homes-bound s p h, length-append (emptied s p).1 [])

-- the notice of a slot fits, and then those of its queue
pub slot-fits : (s : State) (p n : ℕ) → n < 16 → HasBuffers s → length (emptied_below s p n).1 < 320
slot-fits s p n below h = omega (arith, emptied-emitted s p n (omega (arith, below)) h, homes-bound s p h)

pub queue-fits : (s : State) (p n : ℕ) → n < 16 → HasBuffers s →
    length (emptied_below s p n).1 + length (slot_emptied (emptied_below s p n).0 p n).1 + length
    (queue_of (slot_emptied (emptied_below s p n).0 p n).0.queues p n) ≤ 320
unfolding emptied_below
queue-fits s p n below h =
    let e : Effect = emptied_below s p n in
    let slot : Effect = slot_emptied e.0 p n in
    let q : List Message = queue_of slot.0.queues p n in
    let queue : Effect = queue_emptied slot.0 p n in
    omega (
      arith,
      emptied-emitted s p (suc n) (omega (arith, below)) h,
      homes-bound s p h,
      length-append e.1 (slot.1 ++ queue.1),
      length-append slot.1 queue.1,
      length-map (map ticket_of q) (λ t. Withdrawn p n t),
      length-map q ticket_of,
    )
