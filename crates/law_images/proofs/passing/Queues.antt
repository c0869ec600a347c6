-- The queued messages.
use Rattle.std.proofs.Common.{◌≡◌, ◌⊎◌, inl, inr, ℕ, zero, suc, ◌+◌, ◌*◌, ◌/◌, ◌%◌, ◌<◌, ◌≤◌, Bool, true, List, [], ◌∷◌, ◌++◌, cond, length, get_or, set, take, replicate, refl, sym, ap, subst, ◌∙◌, arith}
use Rattle.std.specs.Prelude.{◌==◌, Option, None, Some, slice_get, slice_index_or, sum_by, count_by}
use Rattle.std.specs.Option.{option_map_or}
use Rattle.std.specs.List.{All}
use Rattle.std.proofs.lemmas.Bool.{cases_lt}
use Rattle.std.proofs.lemmas.Bool.Decides.{nat_tests}
use Rattle.std.proofs.lemmas.List.{length-set, get_or-set_same, set-set, take_all}
use Rattle.std.proofs.lemmas.List.Elements.{All-nil, All-cons}
use Rattle.std.proofs.Math.ListN.{get_or-eq_default}
use Rattle.std.proofs.lemmas.List.Sums.{sum_by-cons, sum_by_more_le}
use Rattle.std.proofs.Math.ListN.{get_or-eq_default}
use Rattle.board_terms.specs.declared.messages.Message.{Message}
use Rattle.board_terms.specs.declared.messages.Message.TheVariants.{FromPort, FromTimer}
use Rattle.board_terms.specs.Messages.{ticket_of}
use Rattle.board_terms.specs.Ranges.{HasMessageRanges}
use Rattle.message_queues.specs.Queues.{Queues, HasBuffer, processors_of, most_ports, is_from_port, is_from_timer, port_used, queue_of}
use Rattle.event_ports.specs.declared.ports.Port.{Port}
use Rattle.synic_board.specs.State.{State, processors}
use Rattle.synic_board.specs.Locations.{times, locations}
use Rattle.synic_board.specs.Sound.{IsMessage}
use Rattle.synic_board.specs.Timed.{Ascends, HasExpired}
use Rattle.synic_board.specs.Buffers.{IsHome}
use Rattle.synic_board.specs.Restoring.{IsWithinShare, MayJoin}
use Rattle.synic_board.proofs.keeping.Counts.{one, in_queue, in_queues, in_slot, in_slots, in_queue-cons, times-locations}
use Rattle.synic_board.proofs.keeping.Emptied.{port-below}
use Rattle.text_image.specs.declared.piece.Piece.TheVariants as pieces
use Rattle.text_image.specs.Image.{each_below, message_fields, queue_lines, queues_lines, queued_lines}
use Rattle.text_restore.specs.Restoring.{rank}
use Rattle.law_images.specs.States.{IsBoardState}
use Rattle.law_images.proofs.Fronts.{front, length-front, front-none, front-more, front-start, front-whole, front-sum-room}
use Rattle.law_images.proofs.Tests.{test-same}
use Rattle.law_images.proofs.Walks.{Point, point, Passes, passes-one, passes-each, passes-from, passes-to}

-- an element of a list
record Got (q : List Message) (k : ℕ) (m : Message) : Type 0 where
  within : k < length q
  is : (d : Message) → get_or q k d ≡ m
  more : take (suc k) q ≡ take k q ++ m ∷ []

got : (q : List Message) (k : ℕ) (m : Message) → slice_get q k ≡ Some m → Got q k m
got [] k m e = absurd (cc)
got (x ∷ q) zero m e =
    let same : x ≡ m = cc in record { within = omega arith; is = λ d. same; more = ap (λ (y : Message). y ∷ []) same }
got (x ∷ q) (suc k) m e =
    let g = got q k m e in
    record { within = omega (arith, g.within); is = g.is; more = ap (λ (y : List Message). x ∷ y) g.more }

none-got : (q : List Message) (k : ℕ) → k < length q → slice_get q k ≡ None → ⊥
none-got [] k h e = omega (arith, h)
none-got (x ∷ q) zero h e = cc
none-got (x ∷ q) (suc k) h e = none-got q k (omega (arith, h)) e

in_queue-sum : (t : ℕ) (q : List Message) → in_queue t q ≡ sum_by (λ (m : Message). one (ticket_of m) t) q
in_queue-sum t [] = refl
in_queue-sum t (m ∷ q) =
    in_queue-cons t m q ∙ ap (λ (n : ℕ). one (ticket_of m) t + n) (in_queue-sum t q)
    ∙ sym (sum_by-cons (λ (x : Message). one (ticket_of x) t) m q)

abbrev counted : Bool → ℕ
counted b = cond b 1 0

module _ (qs : Queues) (j k : ℕ) (m : Message) (inside : j < length qs) (g : Got (get_or qs j []) k m) where
  abbrev drafted : Queues
  drafted = set (front j qs []) j (take k (get_or qs j []))

  -- the messages that satisfy a predicate, with one more
  more-counted : (f : Message → Bool) → f m ≡ true → sum_by (count_by f) drafted + 1 ≤ sum_by (count_by f) qs
  more-counted f is = front-sum-room (count_by f) j 1 qs [] (take k (get_or qs j [])) refl inside part
    where
      last : counted (f (get_or (get_or qs j []) k m)) ≡ 1
      last = ap (λ (x : Message). counted (f x)) (g.is m) ∙ ap counted is

      part : count_by f (take k (get_or qs j [])) + 1 ≤ count_by f (get_or qs j [])
      part = omega (arith, last, sum_by_more_le (λ (x : Message). counted (f x)) (get_or qs j []) k m g.within)

  -- its ticket, with one more
  more-placed : in_queues (ticket_of m) drafted + 1 ≤ in_queues (ticket_of m) qs
  more-placed = front-sum-room (in_queue (ticket_of m)) j 1 qs [] (take k (get_or qs j [])) refl inside part
    where
      t : ℕ
      t = ticket_of m

      q : List Message
      q = get_or qs j []

      last : one (ticket_of (get_or q k m)) t ≡ 1
      last = ap (λ (x : Message). one (ticket_of x) t) (g.is m) ∙ ap counted (test-same t)

      part : in_queue t (take k q) + 1 ≤ in_queue t q
      part = omega (
        arith,
        last,
        in_queue-sum t (take k q),
        in_queue-sum t q,
        sum_by_more_le (λ (x : Message). one (ticket_of x) t) q k m g.within,
      )

-- the tickets before a message of a queue are less than its own
before-all : (next : ℕ) (q : List Message) (k : ℕ) (m : Message) → k < length q → get_or q k m ≡ m → Ascends next q
    → All (λ x. ticket_of x < ticket_of m) (take k q)
before-all next [] k m within is h = absurd (omega (arith, within))
before-all next (x ∷ q) zero m within is h = All-nil (λ x. ticket_of x < ticket_of m)
before-all next (x ∷ q) (suc k) m within is h =
    All-cons (λ x. ticket_of x < ticket_of m) x (take k q)
    (subst (λ (y : Message). ticket_of x < ticket_of y) is (h.1 k m (omega (arith, within))))
    (before-all next q k m (omega (arith, within)) is h.2)

-- a message of a board has a buffer before it is queued
has-buffer : (s : State) → IsBoardState s
    → (p j k : ℕ) (m : Message) (inside : j < length s.queues) (g : Got (get_or s.queues j []) k m) → (i : ℕ)
    → 16 * p ≤ j → IsHome s.ports p i m →
    HasBuffer (drafted s.queues j k m inside g) m
has-buffer s h p j k (FromPort ticket port kind payload) inside g i place home = (
  omega (
    arith,
    port-below s port _ home.1.1,
    h.buffers.ports,
    ap (λ n. most_ports (n / 16))
        (length-set (front j s.queues []) j (take k (get_or s.queues j [])) ∙ length-front j s.queues []),
  ),
  omega (
    arith,
    more-counted s.queues j k (FromPort ticket port kind payload) inside g (is_from_port port)
        (test-same port),
    h.buffers.room port,
  ),
)
has-buffer s h p j k (FromTimer ticket timer expiration) inside g i place home = (
  there,
  free _
      (omega (
        arith,
        more-counted s.queues j k (FromTimer ticket timer expiration) inside g
            (is_from_timer timer) itself,
        h.buffers.one_each timer,
      )),
)
  where
    m : Message
    m = FromTimer ticket timer expiration

    there : timer.0 < processors_of (drafted s.queues j k m inside g)
    there = omega (
      arith,
      home.0,
      place,
      inside,
      h.sound.whole.queues,
      length-front j s.queues [],
      length-set (front j s.queues []) j (take k (get_or s.queues j [])),
    )

    itself : is_from_timer timer (FromTimer ticket timer expiration) ≡ true
    itself = rw (test-same timer.0, test-same timer.1) refl

    free : (n : ℕ) → n ≡ 0 → (n == 0) ≡ true
    free n e = grind (arith, nat_tests)

-- and its port has one of those that it was opened with
has-share : (s : State) → IsBoardState s
    → (j k : ℕ) (m : Message) (inside : j < length s.queues) (g : Got (get_or s.queues j []) k m) (now : State) →
    now.queues ≡ drafted s.queues j k m inside g → now.ports ≡ s.ports → IsWithinShare now m
has-share s h j k (FromPort ticket port kind payload) inside g now queues ports = λ p e.
    omega (
      arith,
      ap (λ (qs : Queues). port_used qs port) queues,
      more-counted s.queues j k (FromPort ticket port kind payload) inside g (is_from_port port) (test-same port),
      h.buffers.within port p (ap (λ (ps : List (Option Port)). slice_index_or ps port None) (sym ports) ∙ e),
    )
has-share s h j k (FromTimer ticket timer expiration) inside g now queues ports = tt

-- a ticket in a slot is counted
counted-slot : (x k : ℕ) (slots : List (Option ℕ)) → get_or slots k None ≡ Some x → 1 ≤ in_slots x slots
counted-slot x k slots is = split (cases_lt k (length slots))
  where
    split : (k < length slots) ⊎ (length slots ≤ k) → 1 ≤ in_slots x slots
    split (inl inside) =
        let one : in_slot x (get_or slots k None) ≡ 1 =
        ap (in_slot x) is ∙ ap (λ (b : Bool). cond b 1 0) (test-same x) in
        omega (arith, one, sum_by_more_le (in_slot x) slots k None inside)
    split (inr past) = let none : get_or slots k None ≡ None = get_or-eq_default slots None past in absurd (cc)

module _ (s : State) (h : IsBoardState s) (t : State) (full : processors t ≡ processors s)
    (same_ports : t.ports ≡ s.ports) (next : t.next_ticket ≡ s.next_ticket)
    (no_slots : (x : ℕ) → in_slots x t.slots ≡ 0)
    (same_time : t.moment ≡ s.moment) where
  abbrev with_queues : Queues → State
  with_queues queues = record t { queues = queues }

  -- a message of a board may be queued before it is
  joins : (p i k : ℕ) (m : Message) → i < 16
      → (inside : 16 * p + i < length s.queues) (g : Got (get_or s.queues (16 * p + i) []) k m) →
      MayJoin (with_queues (drafted s.queues (16 * p + i) k m inside g)) p i m
  joins p i k m low inside g = record {
    message = subst IsMessage (g.is m) (h.sound.whole.messages j [] inside k m g.within);
    home = subst (λ (ports : List (Option Port)). IsHome ports p i m) (sym same_ports) home;
    buffer = has-buffer s h p j k m inside g i (omega arith) home;
    share = has-share s h j k m inside g board refl same_ports;
    ticket = record { given = given; nowhere = nowhere };
    order = subst (λ (xs : List Message). All (λ x. ticket_of x < ticket_of m) xs) (sym drafted_queue)
        (before-all s.next_ticket (get_or s.queues j []) k m g.within (g.is m) (h.buffers.timed.order j));
    behind = λ x is. absurd (omega (arith, counted-slot x j t.slots is, no_slots x));
    time = subst (λ n. HasExpired n i m) (sym same_time)
        (subst (λ n. HasExpired s.moment n m) source
        (subst (HasExpired s.moment (j % 16)) (g.is m) (h.buffers.timed.timely j k m g.within)));
  }
    where
      j : ℕ
      j = 16 * p + i

      source : j % 16 ≡ i
      source = omega (arith, low)

      drafted_queue : get_or (drafted s.queues j k m inside g) j [] ≡ take k (get_or s.queues j [])
      drafted_queue =
          get_or-set_same (front j s.queues []) j (take k (get_or s.queues j [])) []
          (omega (arith, length-front j s.queues [], inside))

      home : IsHome s.ports p i m
      home = subst (IsHome s.ports p i) (g.is m) (h.buffers.home p i low k m g.within)

      board : State
      board = with_queues (drafted s.queues j k m inside g)

      there : in_queues (ticket_of m) (drafted s.queues j k m inside g) + 1 ≤ in_queues (ticket_of m) s.queues
      there = more-placed s.queues j k m inside g

      total : times (ticket_of m) (locations s) ≡ in_queues (ticket_of m) s.queues + in_slots (ticket_of m) s.slots
      total = times-locations (ticket_of m) s

      given : ticket_of m < t.next_ticket
      given = by (cases_lt (ticket_of m) t.next_ticket)
        where
          by : (ticket_of m < t.next_ticket) ⊎ (t.next_ticket ≤ ticket_of m) → ticket_of m < t.next_ticket
          by (inl under) = under
          by (inr over) =
              absurd
              (omega (arith, there, total, h.sound.tickets.given_before (ticket_of m) (omega (arith, over, next))))

      nowhere : times (ticket_of m) (locations board) ≡ 0
      nowhere = omega (
        arith,
        there,
        total,
        h.sound.tickets.once (ticket_of m),
        times-locations (ticket_of m) board,
        no_slots (ticket_of m),
      )

  -- a queue, message by message
  module _ (p i : ℕ) (below : p < processors s) (low : i < 16) where
    abbrev j : ℕ
    j = 16 * p + i

    abbrev q : List Message
    q = queue_of s.queues p i

    abbrev old : Queues
    old = front (16 * p + i) s.queues []

    inside : 16 * p + i < length s.queues
    inside = omega (arith, h.shape.queues, below, low)

    abbrev queue-at : ℕ → Point
    queue-at k = point (with_queues (set old j (take k q))) (processors s) (rank 8 p i 1)

    message-passed : (k : ℕ) → k < length q → Passes (queue-at k) (queued_lines s p i k) (queue-at (suc k))
    message-passed k within = by (slice_get q k) refl
      where
        by : (o : Option Message) → slice_get q k ≡ o
            → Passes (queue-at k) (option_map_or (λ (m : Message). message_fields p i m ∷ []) o []) (queue-at (suc k))
        by None e = absurd (none-got q k within e)
        by (Some m) e =
            let g = got q k m e in
            let now : get_or (set old j (take k q)) j [] ≡ take k q =
            get_or-set_same old j (take k q) [] (omega (arith, length-front j s.queues [], inside)) in
            let new : set old j (take (suc k) q)
            ≡ set (set old j (take k q)) j (get_or (set old j (take k q)) j [] ++ m ∷ []) =
            sym (set-set old j (take k q) (take (suc k) q))
            ∙ ap (set (set old j (take k q)) j) (g.more ∙ ap (λ (y : List Message). y ++ m ∷ []) (sym now)) in
            passes-one (queue-at k) (pieces.Queued p i m) (queue-at (suc k)) (record {
              fits = (
                omega (arith, h.settled.bound, below),
                omega (arith, low),
                subst HasMessageRanges (g.is m) (h.ranges.queues j [] inside k m g.within),
              );
              later = λ last before. omega (arith, before);
              turn = sym full;
              restores = (omega (arith, full, below), low, joins p i k m low inside g, ap with_queues new);
              count = refl;
              before = omega arith;
            })

    abbrev start : Point
    start = point (with_queues old) (processors s) (rank 8 p i 0)

    abbrev end : Point
    end = point (with_queues (front (16 * p + suc i) s.queues [])) (processors s) (rank 8 p (suc i) 0)

    queue-passed : Passes start (queue_lines s p i) end
    queue-passed =
        passes-from start (queue-at 0) end (queue_lines s p i)
        (ap with_queues (front-start j s.queues [] inside)) refl (omega arith)
        (passes-to (queue-at 0) (queue-at (length q)) end (queue_lines s p i)
        (ap with_queues (following ∙ front-more j s.queues [] [] inside
        ∙ ap (set old j) (sym (take_all (length q) q (omega arith))))) refl (omega arith)
        (passes-each (length q) (queued_lines s p i) queue-at message-passed))
      where
        following : front (16 * p + suc i) s.queues [] ≡ front (suc (16 * p + i)) s.queues []
        following = let e : 16 * p + suc i ≡ suc (16 * p + i) = omega arith in ap (λ (n : ℕ). front n s.queues []) e

  abbrev queues-at : ℕ → ℕ → Point
  queues-at p i = point (with_queues (front (16 * p + i) s.queues [])) (processors s) (rank 8 p i 0)

  pub queues-passed : Passes (point (with_queues (replicate (16 * processors s) [])) (processors s) (rank 8 0 0 0))
      (each_below (processors s) (queues_lines s))
      (point (with_queues s.queues) (processors s) (rank 9 0 0 0))
  queues-passed =
      passes-from (point (with_queues (replicate (16 * processors s) [])) (processors s) (rank 8 0 0 0))
      (queues-at 0 0) (point (with_queues s.queues) (processors s) (rank 9 0 0 0))
      (each_below (processors s) (queues_lines s)) (ap with_queues (sym none)) refl (omega arith)
      (passes-to (queues-at 0 0) (queues-at (processors s) 0)
      (point (with_queues s.queues) (processors s) (rank 9 0 0 0)) (each_below (processors s) (queues_lines s))
      (ap with_queues (sym (front-whole s.queues [] (16 * processors s + 0) (omega (arith, h.shape.queues))))) refl
      (omega (arith, h.settled.bound))
      (passes-each (processors s) (queues_lines s) (λ p. queues-at p 0) step))
    where
      none : replicate (16 * processors s) [] ≡ front 0 s.queues []
      none = ap (λ (n : ℕ). replicate {A = List Message} n []) (sym h.shape.queues) ∙ front-none s.queues []

      step : (p : ℕ) → p < processors s → Passes (queues-at p 0) (queues_lines s p) (queues-at (suc p) 0)
      step p below =
          let e : 16 * suc p + 0 ≡ 16 * p + 16 = omega arith in
          passes-to (queues-at p 0) (queues-at p 16) (queues-at (suc p) 0) (queues_lines s p)
          (ap (λ (n : ℕ). with_queues (front n s.queues [])) e) refl (omega arith)
          (passes-each 16 (queue_lines s p) (queues-at p) (λ i low. queue-passed p i below low))
