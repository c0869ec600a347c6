-- Placing the head of a queue in its slot, which held no ticket.
use Rattle.std.proofs.Common.{◌≡◌, ◌≢◌, ◌⊎◌, inl, inr, ℕ, ◌+◌, ◌*◌, ◌<◌, Bool, true, false, List, [], ◌∷◌, length, refl, ap, sym, subst, ◌∙◌, arith, nat_lt, suc, length-set}
use Rattle.std.specs.Prelude.{None, Some, slice_index_or, slice_set}
use Rattle.std.specs.List.{All}
use Rattle.std.specs.Int.{bit_at}
use Rattle.std.proofs.lemmas.Bool.{cases_eq}
use Rattle.std.proofs.lemmas.Bool.Decides.{nat_tests}
use Rattle.std.proofs.lemmas.List.{get_or-set_same, get_or-set_other}
use Rattle.std.proofs.lemmas.List.Elements.{All-set}
use Rattle.std.proofs.lemmas.List.Sums.{sum_by-set}
use Rattle.board_terms.specs.declared.messages.Message.{Message}
use Rattle.board_terms.specs.Messages.{ticket_of}
use Rattle.board_terms.specs.declared.pages.Kind.TheVariants.{Sim}
use Rattle.board_terms.specs.Sources.{source_number}
use Rattle.message_queues.specs.Queues.{queue_of}
use Rattle.message_queues.specs.Image.{image, slot_type}
use Rattle.message_queues.proofs.WrittenSlots.{length-image, slot_type-written, slot_type-other}
use Rattle.gpa_space.specs.Page.{with_slot}
use Rattle.gpa_space.specs.Space.{own_page}
use Rattle.synic_board.specs.State.{State, space_of, slot_of}
use Rattle.synic_board.specs.Delivery.{placed_state, placed_head, placed_notices, placed}
use Rattle.synic_board.specs.Slots.{slot_byte, LeavesSlot}
use Rattle.synic_board.specs.Locations.{times, locations}
use Rattle.synic_board.specs.Sound.{IsWhole, IsFree, IsMessage}
use Rattle.synic_board.proofs.keeping.Counts.{in_queue, in_slot, one, times-locations, in_queue-cons, given-none}
use Rattle.synic_board.proofs.keeping.Left.{Leaves, leaves-page, slot-other}
use Rattle.synic_board.proofs.keeping.Wholes.{IsIntact, Keeps, EndsNone}
use Rattle.synic_board.proofs.keeping.Slots.{length-with_slot, other_place}

-- the message page of a processor
abbrev pub page_of : State → ℕ → List ℕ
page_of s p = own_page (space_of s) p Sim

pub page-long : (n : ℕ) (s : State) (p : ℕ) → IsWhole n s → p < n → length (page_of s p) ≡ 4096
page-long n s p h below = h.pages (2 * p) [] (omega (arith, h.own))

-- a message of a queue
pub queue-good : (n : ℕ) (s : State) (p i : ℕ) → IsWhole n s → p < n → i < 16 → All IsMessage (queue_of s.queues p i)
queue-good n s p i h below under = h.messages (source_number p i) [] (omega (arith, h.queues))

pub tail-good : (m : Message) (rest : List Message) → All IsMessage (m ∷ rest) → IsMessage m × All IsMessage rest
tail-good m rest h = (h 0 m (omega arith), λ k d below. h (suc k) d (omega arith))

-- the image that is written
abbrev pub image_of : State → Message → List Message → List ℕ
image_of s m rest = image m (nat_lt 0 (length rest)) s.moment

placed-whole : (n : ℕ) (s : State) (p i : ℕ) (m : Message) (rest : List Message) → IsWhole n s → p < n → i < 16
    → IsMessage m → All IsMessage rest → IsWhole n (placed_state s p i m rest)
placed-whole n s p i m rest h below under good more = record {
  registers = h.registers;
  own = length-set s.own (2 * p) (with_slot (page_of s p) i (image_of s m rest)) ∙ h.own;
  pages = All-set (λ page. length page ≡ 4096) s.own (2 * p) (with_slot (page_of s p) i (image_of s m rest))
      (length-with_slot (page_of s p) (image_of s m rest) i (page-long n s p h below)
      (length-image m (nat_lt 0 (length rest)) s.moment good.2) under) h.pages;
  queues = length-set s.queues (source_number p i) rest ∙ h.queues;
  slots = length-set s.slots (source_number p i) (Some (ticket_of m)) ∙ h.slots;
  ports = h.ports;
  timers = h.timers;
  messages = All-set (All IsMessage) s.queues (source_number p i) rest more h.messages;
}

-- the slots of other sources are unchanged, and that of the source is occupied
free-other : (n : ℕ) (s : State) (p i q j : ℕ) (m : Message) (rest : List Message) → IsIntact n s → p < n → i < 16
    → q < n → j < 16 → IsMessage m → (p ≡ q → i ≢ j) →
    IsFree (placed_state s p i m rest) q j
free-other n s p i q j m rest h below under within inside good apart e =
    get_or-set_other s.slots (source_number p i) (source_number q j) (Some (ticket_of m)) None
    (λ same. other_place p i q j under inside apart (sym same))
    ∙ h.empty q j within inside (sym (same_type (cases_eq q p)) ∙ e)
  where
    same_type : (q ≡ p) ⊎ (q ≢ p) → slot_type (page_of (placed_state s p i m rest) q) j ≡ slot_type (page_of s q) j
    same_type (inl same) =
        ap (λ k. slot_type (slice_index_or (slice_set s.own (2 * p) (with_slot (page_of s p) i (image_of s m rest)))
        (2 * k) []) j) same
        ∙ ap (λ page. slot_type page j)
        (get_or-set_same s.own (2 * p) (with_slot (page_of s p) i (image_of s m rest)) []
        (omega (arith, h.whole.own)))
        ∙ slot_type-other (page_of s p) (image_of s m rest) i j (page-long n s p h.whole below)
        (length-image m (nat_lt 0 (length rest)) s.moment good.2) under inside (λ e. apart (sym same) (sym e))
        ∙ ap (λ k. slot_type (page_of s k) j) (sym same)
    same_type (inr ne) =
        ap (λ page. slot_type page j)
        (get_or-set_other s.own (2 * p) (2 * q) (with_slot (page_of s p) i (image_of s m rest)) []
        (λ e. ne (omega (arith, e))))

pub occupied : (n : ℕ) (s : State) (p i : ℕ) (m : Message) (rest : List Message) → IsIntact n s → p < n → i < 16
    → IsMessage m → slot_type (page_of (placed_state s p i m rest) p) i ≢ 0
occupied n s p i m rest h below under good e =
    good.0
    (sym (slot_type-written (page_of s p) i m (nat_lt 0 (length rest)) s.moment
    (page-long n s p h.whole below) under good.2 good.1)
    ∙ sym (ap (λ page. slot_type page i)
    (get_or-set_same s.own (2 * p) (with_slot (page_of s p) i (image_of s m rest)) []
    (omega (arith, h.whole.own)))) ∙ e)

placed-empty : (n : ℕ) (s : State) (p i : ℕ) (m : Message) (rest : List Message) → IsIntact n s → p < n → i < 16
    → IsMessage m → (q j : ℕ) → q < n → j < 16 → IsFree (placed_state s p i m rest) q j
placed-empty n s p i m rest h below under good q j within inside = split (cases_eq p q) (cases_eq i j)
  where
    split : (p ≡ q) ⊎ (p ≢ q) → (i ≡ j) ⊎ (i ≢ j) → IsFree (placed_state s p i m rest) q j
    split (inr ne) _ = free-other n s p i q j m rest h below under within inside good (λ e. absurd (ne e))
    split (inl e) (inr ne) = free-other n s p i q j m rest h below under within inside good (λ _. ne)
    split (inl e) (inl f) =
        λ z. absurd (occupied n s p i m rest h below under good
        ((λ k. slot_type (page_of (placed_state s p i m rest) (e k)) (f k)) ∙ z))

-- the message moves from its queue to its slot
placed-moves : (n : ℕ) (s : State) (p i : ℕ) (m : Message) (rest : List Message) → IsWhole n s → p < n → i < 16
    → queue_of s.queues p i ≡ m ∷ rest →
    slot_of s p i ≡ None → (t : ℕ) → times t (locations (placed_state s p i m rest)) ≡ times t (locations s)
placed-moves n s p i m rest h below under is free t =
    let a = times-locations t s in
    let b = times-locations t (placed_state s p i m rest) in
    let c = sum_by-set (in_queue t) s.queues (source_number p i) rest [] (omega (arith, h.queues)) in
    let d = sum_by-set (in_slot t) s.slots (source_number p i) (Some (ticket_of m)) None (omega (arith, h.slots)) in
    let e : in_queue t (queue_of s.queues p i) ≡ one (ticket_of m) t + in_queue t rest =
    ap (in_queue t) is ∙ in_queue-cons t m rest in
    let f : in_slot t (slot_of s p i) ≡ 0 = ap (in_slot t) free in
    omega (arith, a, b, c, d, e, f)

no-ends : (ticket p i : ℕ) (pending : Bool) → EndsNone (placed_notices ticket p i pending)
no-ends ticket p i true t = refl
no-ends ticket p i false t = refl

-- a message is placed in an empty slot, so each occupied one is unchanged
leaves-placed : (n : ℕ) (s : State) (p i : ℕ) (m : Message) (rest : List Message) → IsIntact n s → p < n → i < 16
    → IsMessage m → slot_type (page_of s p) i ≡ 0 → Leaves n s (placed_state s p i m rest)
leaves-placed n s p i m rest h below under good empty q j within inside full = by (cases_eq q p)
  where
    bytes : List ℕ
    bytes = image_of s m rest

    new : List ℕ
    new = with_slot (page_of s p) i bytes

    now : State
    now = placed_state s p i m rest

    apart : p ≡ q → i ≢ j
    apart same e =
        let filled : slot_type (page_of s q) j ≡ 0 =
        (λ k. slot_type (page_of s (sym same k)) (sym e k)) ∙ empty in absurd (grind (arith, nat_tests))

    ticket : slot_of now q j ≡ slot_of s q j
    ticket = get_or-set_other s.slots (source_number p i) (source_number q j) (Some (ticket_of m)) None
        (λ same. other_place p i q j under inside apart (sym same))

    by : (q ≡ p) ⊎ (q ≢ p) → LeavesSlot s now q j
    by (inr ne) =
        leaves-page s now q j (get_or-set_other s.own (2 * p) (2 * q) new [] (λ e. ne (omega (arith, e)))) ticket
    by (inl same) =
        record {
          ticket = ticket;
          bytes = λ k bound _. byte k bound;
          flags = λ bit _. ap (λ b. bit_at b bit) (byte 5 (omega arith));
        }
      where
        byte : (k : ℕ) → k < 256 → slot_byte now q j k ≡ slot_byte s q j k
        byte k bound =
            ap (λ l. slice_index_or (slice_index_or (slice_set s.own (2 * p) new) (2 * l) []) (256 * j + k) 0) same
            ∙ ap (λ page. slice_index_or page (256 * j + k) 0)
            (get_or-set_same s.own (2 * p) new [] (omega (arith, h.whole.own)))
            ∙ slot-other (page_of s p) bytes i j k (page-long n s p h.whole below)
            (length-image m (nat_lt 0 (length rest)) s.moment good.2) under inside
            (λ e. apart (sym same) (sym e)) bound
            ∙ ap (λ l. slice_index_or (page_of s l) (256 * j + k) 0) (sym same)

keeps-head : (n : ℕ) (s : State) (p i : ℕ) (m : Message) (rest : List Message) → IsIntact n s → p < n → i < 16
    → queue_of s.queues p i ≡ m ∷ rest →
    slot_type (page_of s p) i ≡ 0 → slot_of s p i ≡ None → Keeps n s (placed_head s p i (m ∷ rest))
keeps-head n s p i m rest h below under is empty free =
    let good = tail-good m rest (subst (All IsMessage) is (queue-good n s p i h.whole below under)) in
    record {
      kept = record {
        count = h.count;
        whole = placed-whole n s p i m rest h.whole below under good.0 good.1;
        empty = placed-empty n s p i m rest h below under good.0;
      };
      tickets_monotone = omega arith;
      conserves = λ t. omega (
        arith,
        placed-moves n s p i m rest h.whole below under is free t,
        no-ends (ticket_of m) p i (nat_lt 0 (length rest)) t,
        given-none t s (placed_state s p i m rest) refl,
      );
      leaves = leaves-placed n s p i m rest h below under good.0 empty;
    }

-- the head of a queue is placed in an empty slot
pub keeps-placed : (n : ℕ) (s : State) (p i : ℕ) → IsIntact n s → p < n → i < 16
    → nat_lt 0 (length (queue_of s.queues p i)) ≡ true → slot_type (page_of s p) i ≡ 0 → Keeps n s (placed s p i)
keeps-placed n s p i h below under some empty = go (queue_of s.queues p i) refl some
  where
    go : (q : List Message) → queue_of s.queues p i ≡ q → nat_lt 0 (length q) ≡ true → Keeps n s (placed s p i)
    go [] is some = absurd (cc)
    go (m ∷ rest) is some =
        subst (λ q. Keeps n s (placed_head s p i q)) (sym is)
        (keeps-head n s p i m rest h below under is empty (h.empty p i below under empty))
