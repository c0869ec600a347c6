-- Delivery attempts, and accepting and withdrawing messages.
use Rattle.std.proofs.Common.{◌≡◌, ◌⊎◌, inl, inr, ℕ, zero, suc, ◌+◌, ◌*◌, ◌<◌, ◌≤◌, Bool, true, false, cond, ◌&&◌, List, [], ◌∷◌, ◌++◌, length, map, refl, ap, sym, ◌∙◌, arith, nat_lt, length-set}
use Rattle.std.specs.Prelude.{if◌then◌else◌, not, filter}
use Rattle.std.specs.List.{All}
use Rattle.std.proofs.lemmas.Bool.Decides.{nat_tests}
use Rattle.std.proofs.lemmas.Bool.{cases_eq}
use Rattle.std.proofs.lemmas.List.{get_or-set_same, get_or-set_other}
use Rattle.std.proofs.lemmas.List.Elements.{All-set, All-append, All-cons, All-nil, All-filter}
use Rattle.std.proofs.lemmas.List.Sums.{sum_by-set, sum_by-cons}
use Rattle.board_terms.specs.declared.messages.Message.{Message}
use Rattle.board_terms.specs.Messages.{ticket_of}
use Rattle.board_terms.specs.declared.notices.Notice.{Notice}
use Rattle.board_terms.specs.declared.notices.Notice.TheVariants.{Accepted, Pending, Withdrawn}
use Rattle.board_terms.specs.Sources.{source_number}
use Rattle.message_queues.specs.Queues.{queue_of, is_from_port, withdrawn_of, left_of}
use Rattle.message_queues.specs.Image.{slot_type}
use Rattle.gpa_space.specs.Page.{with_bit, pending_place}
use Rattle.gpa_space.specs.Space.{is_pending}
use Rattle.synic_board.specs.State.{State, space_of}
use Rattle.synic_board.specs.Interrupts.{raised}
use Rattle.synic_board.specs.Delivery.{delivers, is_slot_empty, placed, marked, tried, tried_below, accepted, delivered}
use Rattle.synic_board.specs.Posts.{withdrawn}
use Rattle.synic_board.specs.Locations.{times, is_end_of, times_ended}
use Rattle.synic_board.specs.Sound.{IsWhole, IsMessage}
use Rattle.synic_board.proofs.keeping.Counts.{in_queue, one, times-locations, in_queue-cons, in_queue-push, given-none, given-one}
use Rattle.synic_board.proofs.keeping.Left.{leaves-same, leaves-marked}
use Rattle.synic_board.proofs.keeping.Wholes.{IsIntact, Keeps, EndsNone, keeps-still, keeps-nothing, keeps-after}
use Rattle.synic_board.proofs.keeping.Requests.{either, keeps-raised}
use Rattle.synic_board.proofs.keeping.Slots.{slot_type-pending}
use Rattle.synic_board.proofs.keeping.Placements.{page_of, page-long, queue-good, keeps-placed}

-- MessagePending is set in an occupied slot

marked-page : (n : ℕ) (s : State) (p i : ℕ) → IsWhole n s → p < n
    → length (with_bit (page_of s p) (pending_place i) 0) ≡ 4096
marked-page n s p i h below = length-set (page_of s p) (pending_place i) _ ∙ page-long n s p h below

marked-whole : (n : ℕ) (s : State) (p i : ℕ) → IsWhole n s → p < n → IsWhole n (marked s p i).0
marked-whole n s p i h below = record {
  registers = h.registers;
  own = length-set s.own (2 * p) (with_bit (page_of s p) (pending_place i) 0) ∙ h.own;
  pages = All-set (λ page. length page ≡ 4096) s.own (2 * p) (with_bit (page_of s p) (pending_place i) 0)
      (marked-page n s p i h below) h.pages;
  queues = h.queues;
  slots = h.slots;
  ports = h.ports;
  timers = h.timers;
  messages = h.messages;
}

pub marked-type : (n : ℕ) (s : State) (p i q j : ℕ) → IsWhole n s → p < n
    → slot_type (page_of (marked s p i).0 q) j ≡ slot_type (page_of s q) j
marked-type n s p i q j h below = split (cases_eq q p)
  where
    split : (q ≡ p) ⊎ (q ≡ p → ⊥) → slot_type (page_of (marked s p i).0 q) j ≡ slot_type (page_of s q) j
    split (inl same) =
        ap (λ k. slot_type (page_of (marked s p i).0 k) j) same
        ∙ ap (λ page. slot_type page j)
        (get_or-set_same s.own (2 * p) (with_bit (page_of s p) (pending_place i) 0) [] (omega (arith, h.own)))
        ∙ slot_type-pending (page_of s p) i j
        ∙ ap (λ k. slot_type (page_of s k) j) (sym same)
    split (inr ne) =
        ap (λ page. slot_type page j)
        (get_or-set_other s.own (2 * p) (2 * q) (with_bit (page_of s p) (pending_place i) 0) []
        (λ e. ne (omega (arith, e))))

marked-ends : (b : Bool) (p i : ℕ) → EndsNone (if b then [] else Pending p i ∷ [])
marked-ends true p i t = refl
marked-ends false p i t = refl

keeps-marked : (n : ℕ) (s : State) (p i : ℕ) → IsIntact n s → p < n → Keeps n s (marked s p i)
keeps-marked n s p i h below =
    keeps-still n s (marked s p i)
    (record {
      count = h.count;
      whole = marked-whole n s p i h.whole below;
      empty = λ q j within inside z. h.empty q j within inside (sym (marked-type n s p i q j h.whole below) ∙ z);
    })
    (record { queues = refl; slots = refl; next = refl }) (leaves-marked n s p i h.whole.own below)
    (marked-ends (is_pending (space_of s) p i) p i)

both : (a b : Bool) → (a && b) ≡ true → b ≡ true
both true b e = e
both false b e = absurd (cc)

pub keeps-tried : (n : ℕ) (s : State) (p i : ℕ) → IsIntact n s → p < n → i < 16 → Keeps n s (tried s p i)
unfolding tried
keeps-tried n s p i h below under =
    either (Keeps n s) (delivers s p && nat_lt 0 (length (queue_of s.queues p i))) _ _
    (λ may. either (Keeps n s) (is_slot_empty s p i) _ _
    (λ free. let first = keeps-placed n s p i h below under
    (both (delivers s p) (nat_lt 0 (length (queue_of s.queues p i))) may) (grind (arith, nat_tests)) in
    keeps-after n s (placed s p i) (raised (placed s p i).0 p i) first (keeps-raised n (placed s p i).0 p i first.kept))
    (λ _. keeps-marked n s p i h below))
    (λ _. keeps-nothing n s h)

pub keeps-tried_below : (n : ℕ) (s : State) (p i : ℕ) → IsIntact n s → p < n → i ≤ 16 → Keeps n s (tried_below s p i)
unfolding tried_below
keeps-tried_below n s p zero h below bound = keeps-nothing n s h
keeps-tried_below n s p (suc i) h below bound =
    let first = keeps-tried_below n s p i h below (omega arith) in
    keeps-after n s (tried_below s p i) (tried (tried_below s p i).0 p i) first
    (keeps-tried n (tried_below s p i).0 p i first.kept below (omega arith))

-- a message that takes the next ticket joins its queue
keeps-accepted : (n : ℕ) (s : State) (p i : ℕ) (m : Message) → IsIntact n s → p < n → i < 16 → IsMessage m
    → ticket_of m ≡ s.next_ticket → Keeps n s (accepted s p i m)
keeps-accepted n s p i m h below under good next =
    let q : List Message = queue_of s.queues p i ++ m ∷ [] in
    let more : All IsMessage q =
    All-append IsMessage (queue_of s.queues p i) (m ∷ []) (queue-good n s p i h.whole below under)
    (All-cons IsMessage m [] good (All-nil IsMessage)) in
    record {
      kept = record {
        count = h.count;
        whole = record {
          registers = h.whole.registers;
          own = h.whole.own;
          pages = h.whole.pages;
          queues = length-set s.queues (source_number p i) q ∙ h.whole.queues;
          slots = h.whole.slots;
          ports = h.whole.ports;
          timers = h.whole.timers;
          messages = All-set (All IsMessage) s.queues (source_number p i) q more h.whole.messages;
        };
        empty = h.empty;
      };
      tickets_monotone = omega arith;
      conserves = λ t. omega (
        arith,
        times-locations t s,
        times-locations t (accepted s p i m).0,
        sum_by-set (in_queue t) s.queues (source_number p i) q [] (omega (arith, h.whole.queues)),
        in_queue-push t (queue_of s.queues p i) m,
        ap (λ x. one x t) next,
        given-one t s (accepted s p i m).0 refl,
        accepted-ends t,
      );
      leaves = leaves-same n s (accepted s p i m).0 refl refl;
    }
  where
    accepted-ends : EndsNone (Accepted p i (ticket_of m) ∷ [])
    accepted-ends t = refl

pub keeps-delivered : (n : ℕ) (s : State) (p i : ℕ) (m : Message) → IsIntact n s → p < n → i < 16 → IsMessage m
    → ticket_of m ≡ s.next_ticket → Keeps n s (delivered s p i m)
keeps-delivered n s p i m h below under good next =
    let first = keeps-accepted n s p i m h below under good next in
    keeps-after n s (accepted s p i m) (tried (accepted s p i m).0 p i) first
    (keeps-tried n (accepted s p i m).0 p i first.kept below under)

-- the messages of a port are withdrawn from a queue
pub ends-each : (t p i : ℕ) (tickets : List ℕ) → times_ended t (map (λ x. Withdrawn p i x) tickets) ≡ times t tickets
ends-each t p i [] = refl
ends-each t p i (x ∷ tickets) =
    let more = ends-each t p i tickets in
    omega (
      arith,
      more,
      sum_by-cons (λ (k : Notice). cond (is_end_of t k) 1 0) (Withdrawn p i x)
          (map (λ y. Withdrawn p i y) tickets),
      sum_by-cons (λ y. one y t) x tickets,
    )

parted : (t port : ℕ) (q : List Message) → in_queue t (left_of port q) + times t (withdrawn_of port q) ≡ in_queue t q
parted t port [] = refl
parted t port (m ∷ q) = go (is_from_port port m) (parted t port q)
  where
    go : (b : Bool) → in_queue t (left_of port q) + times t (withdrawn_of port q) ≡ in_queue t q →
        in_queue t (cond (not b) (m ∷ left_of port q) (left_of port q)) + times t
        (map ticket_of (cond b (m ∷ filter (is_from_port port) q) (filter (is_from_port port) q)))
        ≡ in_queue t (m ∷ q)
    go true more = omega (arith, more, in_queue-cons t m q, in_queue-cons t m (filter (is_from_port port) q))
    go false more = omega (arith, more, in_queue-cons t m q, in_queue-cons t m (left_of port q))

pub keeps-withdrawn : (n : ℕ) (s : State) (p i port : ℕ) → IsIntact n s → p < n → i < 16
    → Keeps n s (withdrawn s p i port)
keeps-withdrawn n s p i port h below under =
    let q : List Message = left_of port (queue_of s.queues p i) in
    record {
      kept = record {
        count = h.count;
        whole = record {
          registers = h.whole.registers;
          own = h.whole.own;
          pages = h.whole.pages;
          queues = length-set s.queues (source_number p i) q ∙ h.whole.queues;
          slots = h.whole.slots;
          ports = h.whole.ports;
          timers = h.whole.timers;
          messages = All-set (All IsMessage) s.queues (source_number p i) q
              (All-filter (λ m. not (is_from_port port m)) IsMessage (queue_of s.queues p i)
              (queue-good n s p i h.whole below under)) h.whole.messages;
        };
        empty = h.empty;
      };
      tickets_monotone = omega arith;
      conserves = λ t. omega (
        arith,
        times-locations t s,
        times-locations t (withdrawn s p i port).0,
        sum_by-set (in_queue t) s.queues (source_number p i) q [] (omega (arith, h.whole.queues)),
        parted t port (queue_of s.queues p i),
        ends-each t p i (withdrawn_of port (queue_of s.queues p i)),
        given-none t s (withdrawn s p i port).0 refl,
      );
      leaves = leaves-same n s (withdrawn s p i port).0 refl refl;
    }
