-- What may join a queue is just what leaves a sound board.
use Rattle.std.proofs.Common.{◌≡◌, ◌⊎◌, inl, inr, ℕ, ◌+◌, ◌/◌, ◌%◌, ◌<◌, ◌≤◌, Bool, true, cond, ◌&&◌, List, [], ◌∷◌, ◌++◌, length, refl, ap, subst, ◌∙◌, arith}
use Rattle.std.specs.Prelude.{◌==◌, count_by, Option, None, Some}
use Rattle.std.specs.List.{All}
use Rattle.std.proofs.lemmas.Bool.{cases_lt}
use Rattle.std.proofs.lemmas.Bool.Decides.{nat_tests}
use Rattle.std.proofs.lemmas.List.{length-set, get_or-set_same}
use Rattle.std.proofs.lemmas.List.Elements.{All-nil, All-cons, All-pop}
use Rattle.std.proofs.lemmas.List.Sums.{sum_by-set, sum_by_push}
use Rattle.board_terms.specs.declared.messages.Message.{Message}
use Rattle.board_terms.specs.declared.messages.Message.TheVariants.{FromPort, FromTimer}
use Rattle.board_terms.specs.Messages.{ticket_of}
use Rattle.board_terms.specs.Sources.{source_number}
use Rattle.event_ports.specs.declared.ports.Port.{Port}
use Rattle.event_ports.specs.Ports.{port_at}
use Rattle.message_queues.specs.Queues.{is_from_port, is_from_timer, timer_used, queue_of, processors_of, most_ports, HasBuffer}
use Rattle.synic_board.specs.State.{State, processors, ports_of, slot_of}
use Rattle.synic_board.specs.Locations.{times, locations}
use Rattle.synic_board.specs.Sound.{IsMessage, IsSound}
use Rattle.synic_board.specs.Timed.{Ascends, Precedes, HasExpired}
use Rattle.synic_board.specs.Buffers.{IsHome, HasBuffers}
use Rattle.synic_board.specs.Restoring.{with_message, IsWithinShare, MayJoin}
use Rattle.synic_board.proofs.keeping.Counts.{in_queue, one, times-locations, in_queue-push}
use Rattle.synic_board.proofs.keeping.Emptied.{port-below}
use Rattle.synic_board.proofs.keeping.Placements.{queue-good}
use Rattle.synic_board.proofs.keeping.Uses.{found_in}

itself : (t : ℕ) → (t == t) ≡ true
itself t = grind (arith, nat_tests)

one-itself : (t : ℕ) → one t t ≡ 1
one-itself t = grind (arith, nat_tests)

abbrev one_if : Bool → ℕ
one_if b = cond b 1 0

ascends-last : (next : ℕ) (q : List Message) (m : Message) → Ascends next (q ++ m ∷ [])
    → All (λ x. ticket_of x < ticket_of m) q
ascends-last next [] m h = All-nil (λ x. ticket_of x < ticket_of m)
ascends-last next (x ∷ q) m h =
    All-cons (λ y. ticket_of y < ticket_of m) x q
    (All-pop (λ y. ticket_of x < ticket_of y) (q ++ m ∷ []) q (Some m) refl h.1).1 (ascends-last next q m h.2)

pub may-join : (s : State) (p i : ℕ) (m : Message) → p < processors s → i < 16 → IsSound s
    → IsSound (with_message s p i m) → HasBuffers (with_message s p i m) → MayJoin s p i m
may-join s p i m below under before sound buffers = record {
  message = last IsMessage (queue-good (processors s) now p i sound.whole below under);
  home = home;
  buffer = room m refl home;
  share = share m refl;
  ticket = record {
    given = given (cases_lt (ticket_of m) s.next_ticket);
    nowhere = omega (arith, moved (ticket_of m), one-itself (ticket_of m), sound.tickets.once (ticket_of m));
  };
  order = ascends-last s.next_ticket (queue_of s.queues p i) m
      (subst (Ascends s.next_ticket) (get_or-set_same s.queues j q [] inside) (buffers.timed.order j));
  behind = λ t is. behind (slot_of s p i) t is (buffers.timed.ahead j);
  time = subst (λ k. HasExpired s.moment k m) place (last (HasExpired s.moment (j % 16)) (buffers.timed.timely j));
}
  where
    now : State
    now = with_message s p i m

    j : ℕ
    j = source_number p i

    q : List Message
    q = queue_of s.queues p i ++ m ∷ []

    place : j % 16 ≡ i
    place = omega (arith, under)

    inside : j < length s.queues
    inside = omega (arith, before.whole.queues, below, under)

    last : (P : Message → Type 0) → All P (queue_of now.queues p i) → P m
    last P all =
        (All-pop P q (queue_of s.queues p i) (Some m) refl
        (subst (All P) (get_or-set_same s.queues j q [] inside) all)).1

    behind : (o : Option ℕ) (t : ℕ) → o ≡ Some t → Precedes s.next_ticket o (queue_of now.queues p i) → t < ticket_of m
    behind None t is h = absurd (cc)
    behind (Some x) t is h =
        let same : x ≡ t = cc in
        let first : x < ticket_of m = last (λ y. x < ticket_of y) h.1 in
        omega (arith, same, first)

    home : IsHome s.ports p i m
    home = last (IsHome s.ports p i) (buffers.home p i under)

    more : (f : Message → Bool) → f m ≡ true → found_in f now.queues ≡ found_in f s.queues + 1
    more f e = omega (
      arith,
      sum_by-set (count_by f) s.queues j q [] inside,
      sum_by_push (λ x. cond (f x) 1 0) (queue_of s.queues p i) m,
      ap one_if e,
    )

    -- the port is among as many as the queues have buffers for
    reached : (port : ℕ) (x : Port) → port_at (ports_of s) port ≡ Some x → port < most_ports (processors_of s.queues)
    reached port x is =
        omega (arith, port-below s port x is, buffers.ports, ap (λ n. most_ports (n / 16)) (length-set s.queues j q))

    room : (x : Message) → m ≡ x → IsHome s.ports p i x → HasBuffer s.queues x
    room (FromPort ticket port kind payload) is at = (
      reached port _ at.1.1,
      omega
          (arith, buffers.room port, more (is_from_port port) (ap (is_from_port port) is ∙ itself port)),
    )
    room (FromTimer ticket t expiration) is at =
        let found : is_from_timer t m ≡ true = ap (is_from_timer t) is ∙ (λ k. itself t.0 k && itself t.1 k) in
        let none : timer_used s.queues t ≡ 0 = omega (arith, buffers.one_each t, more (is_from_timer t) found) in
        let there : t.0 < processors_of s.queues = omega (arith, before.whole.queues, below, at.0) in
        (there, ap (λ n. n == 0) none)

    share : (x : Message) → m ≡ x → IsWithinShare s x
    share (FromPort ticket port kind payload) is =
        λ k e. omega (
          arith,
          buffers.within port k e,
          more (is_from_port port) (ap (is_from_port port) is ∙ itself port),
        )
    share (FromTimer ticket t expiration) is = tt

    moved : (t : ℕ) → times t (locations now) ≡ times t (locations s) + one (ticket_of m) t
    moved t = omega (
      arith,
      times-locations t s,
      times-locations t now,
      sum_by-set (in_queue t) s.queues j q [] inside,
      in_queue-push t (queue_of s.queues p i) m,
    )

    given : (ticket_of m < s.next_ticket) ⊎ (s.next_ticket ≤ ticket_of m) → ticket_of m < s.next_ticket
    given (inl low) = low
    given (inr high) =
        absurd
        (omega (arith, moved (ticket_of m), one-itself (ticket_of m), sound.tickets.given_before (ticket_of m) high))
