-- A board that is being restored is sound at each moment.
use Rattle.std.proofs.Common.{◌≡◌, ◌≢◌, ◌⊎◌, inl, inr, ℕ, suc, ◌+◌, ◌-◌, ◌*◌, ◌%◌, ◌<◌, ◌≤◌, Bool, true, false, cond, List, [], ◌∷◌, ◌++◌, ◌||◌, IsTrue, length, length-set, refl, ap, sym, subst, ◌∙◌, arith}
use Rattle.std.specs.Prelude.{◌==◌, ◌↔◌, slice_get, nat_lt, not, count_by, Option, None, Some}
use Rattle.std.specs.List.{All, list_any}
use Rattle.std.specs.Option.{option_map_or}
use Rattle.std.proofs.lemmas.Bool.{cases_eq}
use Rattle.std.proofs.lemmas.Bool.Decides.{nat_tests}
use Rattle.std.proofs.lemmas.List.{get_or-set_other}
use Rattle.std.proofs.lemmas.List.Elements.{All-set, All-append, All-push, All-cons, All-nil, All-head, All-tail, All-weaker}
use Rattle.std.proofs.lemmas.List.Sums.{sum_by-set, sum_by-cons, sum_by_push}
use Rattle.board_terms.specs.declared.messages.Message.{Message}
use Rattle.board_terms.specs.declared.messages.PortShape.TheVariants.{Messages}
use Rattle.board_terms.specs.declared.messages.Message.TheVariants.{FromPort, FromTimer}
use Rattle.board_terms.specs.Messages.{ticket_of}
use Rattle.board_terms.specs.Sources.{source_number}
use Rattle.lapic_core.specs.Apic.{Apic}
use Rattle.message_queues.specs.Queues.{queue_of, port_used, HasBuffer}
use Rattle.stimer_bank.specs.declared.timer.Timer.{Timer}
use Rattle.stimer_bank.specs.Bank.{with_suspension as bank_with_suspension}
use Rattle.board_terms.specs.declared.messages.PortShape.{PortShape}
use Rattle.board_terms.specs.declared.pages.Kind.{Kind}
use Rattle.board_terms.specs.declared.pages.Kind.TheVariants.{Sim, Sief}
use Rattle.board_terms.specs.declared.refusal.Refusal.{Refusal}
use Rattle.event_ports.specs.Shapes.{buffers_of}
use Rattle.event_ports.specs.declared.ports.Port.{Port}
use Rattle.event_ports.specs.Ports.{open_refusal, port_at}
use Rattle.gpa_space.specs.Page.{overwritten}
use Rattle.gpa_space.specs.Space.{own_page, overlay_of}
use Rattle.synic_regs.specs.Regs.{Regs, with_value, is_refused}
use Rattle.synic_regs.specs.declared.register.Register.{Register}
use Rattle.synic_board.specs.declared.event.Event.TheVariants.{OpenPort}
use Rattle.synic_board.specs.declared.event.Reply.TheVariants.{Done}
use Rattle.synic_board.specs.Effects.{Outcome, refused, unchanged}
use Rattle.synic_board.specs.Posts.{with_port, opened_port}
use Rattle.synic_board.specs.Registers.{stored}
use Rattle.synic_board.specs.Step.{step}
use Rattle.synic_board.specs.State.{State, processors, opened, regs_of, with_regs, space_of, ports_of, bank_of, with_apic, slot_of, with_slot_ticket}
use Rattle.synic_board.specs.Timers.{at_moment}
use Rattle.synic_board.specs.Delivery.{is_slot_empty}
use Rattle.synic_board.specs.Locations.{times, locations, AreTickets}
use Rattle.synic_board.specs.Sound.{IsMessage, IsFree}
use Rattle.synic_board.specs.Timed.{Ascends, HasExpired, IsTimed}
use Rattle.synic_board.specs.Buffers.{IsHome, SendsTo}
use Rattle.synic_board.specs.Paired.{HasPairedTimers}
use Rattle.synic_board.specs.Restoring.{with_processor, with_saved_timer, with_own_bytes, with_guest_bytes, with_message, HasNoTickets, IsUnplaced, HasFreeBuffer, IsWithinShare, MayCount, MayJoin, MayOccupy}
use Rattle.synic_board.specs.inside.Drafts.{IsDraft}
use Rattle.synic_board.proofs.keeping.Counts.{in_queue, in_queues, in_slot, in_slots, one, times-locations, in_queue-push}
use Rattle.synic_board.proofs.keeping.Wholes.{IsIntact, AreStill, kept_from_sound, sound_from_kept, still, tickets-conserved, kept-apic}
use Rattle.synic_board.proofs.keeping.Changes.{kept-moment, kept-regs, kept-bank, kept-timer}
use Rattle.synic_board.proofs.keeping.Requests.{either}
use Rattle.synic_board.proofs.keeping.Posts.{keeps-opened_port}
use Rattle.synic_board.proofs.keeping.Stores.{own-whole, own-other, length-overwritten}
use Rattle.synic_board.proofs.keeping.Slots.{other_place}
use Rattle.synic_board.proofs.keeping.Placements.{queue-good}
use Rattle.synic_board.proofs.keeping.Uses.{unmoved, Fits, port-fits, timer-fits, buffers-joined}
use Rattle.synic_board.proofs.keeping.Timed.{ascends-push, precedes-push, timed-same, timed-moment, timed-queue, timed-slot, timed-timer}
use Rattle.synic_board.proofs.keeping.Opened.{sound-opened, no-locations}
use Rattle.synic_board.proofs.keeping.Buffers.{buffers-opened, buffers-opened_port}
use Rattle.synic_board.proofs.keeping.Settled.{settled-same, settled-processor, settled-timer, settled-step, settled-opened}

-- a change that moves no message
pub draft-still : (s now : State) (tickets : List ℕ) → IsIntact (processors s) now → AreStill s now
    → now.ports ≡ s.ports → IsTimed now → HasPairedTimers now → IsDraft s tickets → IsDraft now tickets
draft-still s now tickets intact same ports timed settled h = record {
  sound = sound_from_kept (processors s) now intact
      (tickets-conserved s now [] (omega (arith, same.next)) (still s now [] same (λ t. refl)) h.sound.tickets);
  buffers = unmoved s now same.queues ports timed h.buffers;
  settled = settled;
  listed = λ t. omega (
    arith,
    h.listed t,
    times-locations t s,
    times-locations t now,
    ap (in_queues t) same.queues,
    ap (in_slots t) same.slots,
  );
}

pub draft-opened : (n pages ticket : ℕ) → n ≤ 64 → IsDraft (opened n pages ticket) []
draft-opened n pages ticket bound = record {
  sound = sound-opened n pages ticket;
  buffers = buffers-opened n pages ticket;
  settled = settled-opened n pages ticket bound;
  listed = λ t. sym (no-locations n pages ticket t);
}

pub draft-moment : (s : State) (moment : ℕ) (tickets : List ℕ) → s.moment ≤ moment → IsDraft s tickets
    → IsDraft (at_moment s moment) tickets
draft-moment s moment tickets later h =
    draft-still s (at_moment s moment) tickets (kept-moment (processors s) s moment (kept_from_sound s h.sound))
    (record { queues = refl; slots = refl; next = refl }) refl (timed-moment s moment later h.buffers.timed)
    (settled-same s _ refl refl refl h.settled) h

pub draft-processor : (s : State) (p : ℕ) (a : Apic) (tickets : List ℕ) → p < processors s → IsDraft s tickets
    → IsDraft (with_processor s p a) tickets
draft-processor s p a tickets on h =
    let n = processors s in
    let first = kept-apic n s p a (kept_from_sound s h.sound) in
    let marked = bank_with_suspension (bank_of s) p a.suspended in
    draft-still s (with_processor s p a) tickets (kept-bank n (with_apic s p a) marked h.sound.whole.timers first)
    (record { queues = refl; slots = refl; next = refl }) refl
    (timed-same s (with_processor s p a) refl refl refl refl refl h.buffers.timed)
    (settled-processor s p a on h.settled) h

pub draft-timer : (s : State) (t : ℕ × ℕ) (x : Timer) (tickets : List ℕ) → t.0 < processors s → t.1 < 4 → MayCount s x
    → IsDraft s tickets → IsDraft (with_saved_timer s t x) tickets
draft-timer s t x tickets on low may h =
    draft-still s (with_saved_timer s t x) tickets (kept-timer (processors s) s t x (kept_from_sound s h.sound))
    (record { queues = refl; slots = refl; next = refl }) refl (timed-timer s t x may.sound may.near h.buffers.timed)
    (settled-timer s t x h.settled) h

pub draft-regs : (s : State) (p : ℕ) (r : Regs) (tickets : List ℕ) → IsDraft s tickets
    → IsDraft (with_regs s p r) tickets
draft-regs s p r tickets h =
    draft-still s (with_regs s p r) tickets (kept-regs (processors s) s p r (kept_from_sound s h.sound))
    (record { queues = refl; slots = refl; next = refl }) refl
    (timed-same s (with_regs s p r) refl refl refl refl refl h.buffers.timed)
    (settled-same s _ refl refl refl h.settled) h

pub draft-stored : (s : State) (p : ℕ) (r : Register) (value : ℕ) (tickets : List ℕ) → IsDraft s tickets
    → IsDraft (stored s p r value).0 tickets
draft-stored s p r value tickets h =
    either (λ (o : Outcome). IsDraft o.0 tickets) (is_refused r value) _ _ (λ _. h)
    (λ _. draft-regs s p (with_value (regs_of s p) r value) tickets h)

settled-opened_port : (s : State) (port p i : ℕ) (shape : PortShape) → HasPairedTimers s
    → HasPairedTimers (opened_port s port p i shape).0
unfolding step
settled-opened_port s port p i shape h = settled-step s (OpenPort port p i shape) h

pub draft-port : (s : State) (port p i : ℕ) (shape : PortShape) (tickets : List ℕ) → IsDraft s tickets
    → IsDraft (opened_port s port p i shape).0 tickets
draft-port s port p i shape tickets h =
    let o : Outcome = opened_port s port p i shape in
    let keeps = keeps-opened_port (processors s) s port p i shape (kept_from_sound s h.sound) in
    let same = port-still s port p i shape in
    record {
      sound = sound_from_kept (processors s) o.0 keeps.kept
          (tickets-conserved s o.0 o.2 keeps.tickets_monotone keeps.conserves h.sound.tickets);
      buffers = buffers-opened_port s port p i shape h.buffers;
      settled = settled-opened_port s port p i shape h.settled;
      listed = λ t. omega (
        arith,
        h.listed t,
        times-locations t s,
        times-locations t o.0,
        ap (in_queues t) same.0,
        ap (in_slots t) same.1,
      );
    }
  where
    port-still : (s : State) (port p i : ℕ) (shape : PortShape) → ((opened_port s port p i shape).0.queues ≡ s.queues)
        × ((opened_port s port p i shape).0.slots ≡ s.slots)
    port-still s port p i shape = judged (open_refusal (ports_of s) port p i shape)
      where
        judged : (o : Option Refusal) →
            ((option_map_or (refused s) o
            (unchanged (with_port s port (record { vp = p; sint = i; shape = shape })) Done)).0.queues ≡ s.queues)
            × ((option_map_or (refused s) o
            (unchanged (with_port s port (record { vp = p; sint = i; shape = shape })) Done)).0.slots ≡ s.slots)
        judged None = (refl, refl)
        judged (Some r) = (refl, refl)

-- bytes of pages
pub draft-guest : (s : State) (page at : ℕ) (bytes : List ℕ) (tickets : List ℕ) → IsDraft s tickets
    → IsDraft (with_guest_bytes s page at bytes) tickets
draft-guest s page at bytes tickets h =
    let whole = kept_from_sound s h.sound in
    draft-still s (with_guest_bytes s page at bytes) tickets (record {
      count = refl;
      whole = record {
        registers = whole.whole.registers;
        own = whole.whole.own;
        pages = whole.whole.pages;
        queues = whole.whole.queues;
        slots = whole.whole.slots;
        ports = whole.whole.ports;
        timers = whole.whole.timers;
        messages = whole.whole.messages;
      };
      empty = whole.empty;
    }) (record { queues = refl; slots = refl; next = refl }) refl
    (timed-same s (with_guest_bytes s page at bytes) refl refl refl refl refl h.buffers.timed)
    (settled-same s _ refl refl refl h.settled) h

pub draft-own : (s : State) (p : ℕ) (kind : Kind) (at : ℕ) (bytes : List ℕ) (tickets : List ℕ) → p < processors s
    → at + length bytes ≤ 4096 → HasNoTickets s p →
    IsDraft s tickets → IsDraft (with_own_bytes s p kind at bytes) tickets
draft-own s p kind at bytes tickets below fits none h =
    draft-still s (with_own_bytes s p kind at bytes) tickets (record {
      count = refl;
      whole = own-whole n s k page whole.whole long;
      empty = λ q j within inside. free q j within inside (cases_eq q p);
    }) (record { queues = refl; slots = refl; next = refl }) refl
    (timed-same s (with_own_bytes s p kind at bytes) refl refl refl refl refl h.buffers.timed)
    (settled-same s _ refl refl refl h.settled) h
  where
    n : ℕ
    n = processors s

    k : ℕ
    k = overlay_of p kind

    whole : IsIntact n s
    whole = kept_from_sound s h.sound

    page : List ℕ
    page = overwritten (own_page (space_of s) p kind) at bytes

    low : (kind : Kind) → overlay_of p kind < length s.own
    low Sim = omega (arith, whole.whole.own, below)
    low Sief = omega (arith, whole.whole.own, below)

    apart : (kind : Kind) (q : ℕ) → q ≢ p → 2 * q ≢ overlay_of p kind
    apart Sim q ne e = ne (omega (arith, e))
    apart Sief q ne e = omega (arith, e)

    long : length page ≡ 4096
    long = length-overwritten (own_page (space_of s) p kind) bytes at (whole.whole.pages k [] (low kind)) fits

    free : (q j : ℕ) → q < n → j < 16 → (q ≡ p) ⊎ (q ≢ p) → IsFree (with_own_bytes s p kind at bytes) q j
    free q j within inside (inl same) z = ap (λ (x : ℕ). slot_of s x j) same ∙ none j inside
    free q j within inside (inr ne) z = own-other n s k q j page whole within inside (apart kind q ne) z

-- a ticket that was nowhere
one-other : (x t : ℕ) → x ≢ t → one x t ≡ 0
one-other x t ne = grind (arith, nat_tests)

one-bound : (x t : ℕ) → one x t ≤ 1
one-bound x t = grind (arith, nat_tests)

tickets-joined : (s now : State) (x : ℕ) → now.next_ticket ≡ s.next_ticket → IsUnplaced s x
    → ((t : ℕ) → times t (locations now) ≡ times t (locations s) + one x t) → AreTickets s → AreTickets now
tickets-joined s now x next loose more h = record {
  once = λ t. once t (cases_eq x t);
  given_before =
      λ t high. omega (
        arith,
        more t,
        h.given_before t (omega (arith, next, high)),
        one-other x t (λ e. omega (arith, e, next, high, loose.given)),
      );
}
  where
    once : (t : ℕ) → (x ≡ t) ⊎ (x ≢ t) → times t (locations now) ≤ 1
    once t (inl same) = omega (arith, more t, one-bound x t, ap (λ y. times y (locations s)) same, loose.nowhere)
    once t (inr other) = omega (arith, more t, h.once t, one-other x t other)

listed-joined : (s now : State) (tickets : List ℕ) (x : ℕ)
    → ((t : ℕ) → times t (locations now) ≡ times t (locations s) + one x t) →
    ((t : ℕ) → times t tickets ≡ times t (locations s)) → (t : ℕ)
    → times t (tickets ++ x ∷ []) ≡ times t (locations now)
listed-joined s now tickets x more h t = omega (arith, more t, h t, sum_by_push (λ y. one y t) tickets x)

-- a port that is open for messages to a source
pub has-free : (s : State) (port p i buffers used : ℕ) (at : Port) → port_at (ports_of s) port ≡ Some at → at.vp ≡ p
    → at.sint ≡ i → at.shape ≡ Messages buffers → used ≡ port_used s.queues port →
    IsTrue (nat_lt used buffers) ↔ (SendsTo s.ports port p i × HasFreeBuffer s port)
has-free s port p i buffers used at is vp sint shape same = (
  λ low. (sends, λ q e. let now : buffers_of q.shape ≡ buffers = share q e in omega (arith, below low, same, now)),
  λ free. (let now : port_used s.queues port < buffers_of at.shape = free.1 at is in
      let few : used < buffers = omega (arith, now, same, ap buffers_of shape) in above few),
)
  where
    target : Port
    target = record { vp = p; sint = i; shape = Messages buffers }

    is_target : at ≡ target
    is_target = ap (λ n. with_vp n) vp ∙ ap (λ n. with_sint n) sint ∙ ap (λ (x : PortShape). with_shape x) shape
      where
        with_vp : ℕ → Port
        with_vp n = record { vp = n; sint = at.sint; shape = at.shape }

        with_sint : ℕ → Port
        with_sint n = record { vp = p; sint = n; shape = at.shape }

        with_shape : PortShape → Port
        with_shape x = record { vp = p; sint = i; shape = x }

    sends : SendsTo s.ports port p i
    sends = (buffers, is ∙ ap (λ (x : Port). Some x) is_target)

    share : (q : Port) → port_at (ports_of s) port ≡ Some q → buffers_of q.shape ≡ buffers
    share q e = ap (λ (o : Option Port). option_map_or (λ (x : Port). buffers_of x.shape) o 0) (sym e ∙ sends.1)

    below : IsTrue (nat_lt used buffers) → used < buffers
    below low = grind (arith, nat_tests)

    above : used < buffers → IsTrue (nat_lt used buffers)
    above low = grind (arith, nat_tests)

-- a message joins a queue
fits-of : (s : State) (p i : ℕ) (m : Message) → i < 16 → IsHome s.ports p i m → HasBuffer s.queues m
    → IsWithinShare s m → Fits s p i m
fits-of s p i (FromPort ticket port kind payload) under home buffer share =
    port-fits s p i ticket port kind payload under home.0 home.1 buffer.1
    (share (record { vp = p; sint = i; shape = Messages home.1.0 }) home.1.1)
fits-of s p i (FromTimer ticket t expiration) under home buffer share =
    subst (λ q. Fits s q i (FromTimer ticket t expiration)) home.0
    (timer-fits s t i ticket expiration under home.1 buffer.1)

pub draft-message : (s : State) (p i : ℕ) (m : Message) (tickets : List ℕ) → p < processors s → i < 16
    → MayJoin s p i m → IsDraft s tickets →
    IsDraft (with_message s p i m) (tickets ++ ticket_of m ∷ [])
draft-message s p i m tickets below under may h = record {
  sound = sound_from_kept n now intact (tickets-joined s now (ticket_of m) refl may.ticket moved h.sound.tickets);
  buffers = buffers-joined s s.next_ticket p i m (fits-of s p i m under may.home may.buffer may.share) timed h.buffers;
  settled = settled-same s now refl refl refl h.settled;
  listed = listed-joined s now tickets (ticket_of m) moved h.listed;
}
  where
    n : ℕ
    n = processors s

    now : State
    now = with_message s p i m

    whole : IsIntact n s
    whole = kept_from_sound s h.sound

    q : List Message
    q = queue_of s.queues p i ++ m ∷ []

    place : source_number p i % 16 ≡ i
    place = omega (arith, under)

    timed : IsTimed now
    timed = timed-queue s now (source_number p i) q refl refl refl refl refl
        (ascends-push s.next_ticket (queue_of s.queues p i) m may.order may.ticket.given
        (h.buffers.timed.order (source_number p i)))
        (precedes-push s.next_ticket (slot_of s p i) (queue_of s.queues p i) m may.behind
        (h.buffers.timed.ahead (source_number p i)))
        (All-push (HasExpired s.moment (source_number p i % 16)) (queue_of s.queues p i) m
        (h.buffers.timed.timely (source_number p i))
        (subst (λ k. HasExpired s.moment k m) (sym place) may.time)) h.buffers.timed

    intact : IsIntact n now
    intact = record {
      count = refl;
      whole = record {
        registers = whole.whole.registers;
        own = whole.whole.own;
        pages = whole.whole.pages;
        queues = length-set s.queues (source_number p i) q ∙ whole.whole.queues;
        slots = whole.whole.slots;
        ports = whole.whole.ports;
        timers = whole.whole.timers;
        messages = All-set (All IsMessage) s.queues (source_number p i) q
            (All-append IsMessage (queue_of s.queues p i) (m ∷ []) (queue-good n s p i whole.whole below under)
            (All-cons IsMessage m [] may.message (All-nil IsMessage))) whole.whole.messages;
      };
      empty = whole.empty;
    }

    moved : (t : ℕ) → times t (locations now) ≡ times t (locations s) + one (ticket_of m) t
    moved t = omega (
      arith,
      times-locations t s,
      times-locations t now,
      sum_by-set (in_queue t) s.queues (source_number p i) q [] (omega (arith, whole.whole.queues, below, under)),
      in_queue-push t (queue_of s.queues p i) m,
    )

-- a ticket is in a slot
pub draft-ticket : (s : State) (p i x : ℕ) (tickets : List ℕ) → p < processors s → i < 16 → MayOccupy s p i x
    → IsDraft s tickets → IsDraft (with_slot_ticket s p i (Some x)) (tickets ++ x ∷ [])
draft-ticket s p i x tickets below under may h = record {
  sound = sound_from_kept n now intact (tickets-joined s now x refl may.ticket moved h.sound.tickets);
  buffers = unmoved s now refl refl
      (timed-slot s (source_number p i) (Some x) (may.ticket.given, may.ahead) h.buffers.timed) h.buffers;
  settled = settled-same s now refl refl refl h.settled;
  listed = listed-joined s now tickets x moved h.listed;
}
  where
    n : ℕ
    n = processors s

    now : State
    now = with_slot_ticket s p i (Some x)

    whole : IsIntact n s
    whole = kept_from_sound s h.sound

    free : (q j : ℕ) → q < n → j < 16 → (p ≡ q) ⊎ (p ≢ q) → (i ≡ j) ⊎ (i ≢ j) → IsFree now q j
    free q j within inside (inr ne) _ z =
        get_or-set_other s.slots (source_number p i) (source_number q j) (Some x) None
        (λ same. other_place p i q j under inside (λ e. absurd (ne e)) (sym same))
        ∙ whole.empty q j within inside z
    free q j within inside (inl e) (inr ne) z =
        get_or-set_other s.slots (source_number p i) (source_number q j) (Some x) None
        (λ same. other_place p i q j under inside (λ _. ne) (sym same))
        ∙ whole.empty q j within inside z
    free q j within inside (inl e) (inl f) z =
        let filled : is_slot_empty s q j ≡ false =
        (λ k. is_slot_empty s (sym e k) (sym f k)) ∙ may.occupied in absurd (grind (arith, nat_tests))

    intact : IsIntact n now
    intact = record {
      count = refl;
      whole = record {
        registers = whole.whole.registers;
        own = whole.whole.own;
        pages = whole.whole.pages;
        queues = whole.whole.queues;
        slots = length-set s.slots (source_number p i) (Some x) ∙ whole.whole.slots;
        ports = whole.whole.ports;
        timers = whole.whole.timers;
        messages = whole.whole.messages;
      };
      empty = λ q j within inside. free q j within inside (cases_eq p q) (cases_eq i j);
    }

    moved : (t : ℕ) → times t (locations now) ≡ times t (locations s) + one x t
    moved t = omega (
      arith,
      times-locations t s,
      times-locations t now,
      sum_by-set (in_slot t) s.slots (source_number p i) (Some x) None (omega (arith, whole.whole.slots, below, under)),
      ap (in_slot t) may.free,
    )

-- a test that finds none
abbrev one_if : Bool → ℕ
one_if b = cond b 1 0

none-counted : {X : Type 0} (p : X → Bool) (xs : List X) → list_any p xs ≡ false → count_by p xs ≡ 0
none-counted p [] e = refl
none-counted {X} p (x ∷ xs) e = by (p x) refl e (none-counted p xs)
  where
    by : (b : Bool) → p x ≡ b → (b || list_any p xs) ≡ false → (list_any p xs ≡ false → count_by p xs ≡ 0)
        → count_by p (x ∷ xs) ≡ 0
    by true h e more = absurd (cc)
    by false h e more = omega (arith, sum_by-cons (λ y. cond (p y) 1 0) x xs, ap one_if h, more e)

none-found : {X : Type 0} (p : X → Bool) (xs : List X) → count_by p xs ≡ 0 → list_any p xs ≡ false
none-found p [] e = refl
none-found {X} p (x ∷ xs) e = by (p x) refl (none-found p xs)
  where
    by : (b : Bool) → p x ≡ b → (count_by p xs ≡ 0 → list_any p xs ≡ false) → list_any p (x ∷ xs) ≡ false
    by true h more = absurd (omega (arith, sum_by-cons (λ y. cond (p y) 1 0) x xs, ap one_if h, e))
    by false h more =
        ap (λ b. b || list_any p xs) h ∙ more (omega (arith, sum_by-cons (λ y. cond (p y) 1 0) x xs, ap one_if h, e))

pub loose-of : (s : State) (tickets : List ℕ) (t : ℕ) (r : Bool) → IsDraft s tickets → t < s.next_ticket
    → r ≡ list_any (λ y. y == t) tickets →
    (IsTrue (not r) → IsUnplaced s t) × (IsUnplaced s t → IsTrue (not r))
loose-of s tickets t r h given is = (forth, back)
  where
    forth : IsTrue (not r) → IsUnplaced s t
    forth fresh =
        let none : r ≡ false = grind (arith, nat_tests) in
        record { given = given; nowhere = sym (h.listed t) ∙ none-counted (λ y. y == t) tickets (sym is ∙ none) }

    back : IsUnplaced s t → IsTrue (not r)
    back loose = ap not (is ∙ none-found (λ y. y == t) tickets (h.listed t ∙ loose.nowhere))

-- of messages in the order of tickets, the last one has the greatest
pub in-order : (next : ℕ) (q : List Message) → Ascends next q → (o : Option Message) → slice_get q (length q - 1) ≡ o
    → (t : ℕ) →
    IsTrue (option_map_or (λ m. nat_lt (ticket_of m) t) o true) ↔ All (λ x. ticket_of x < t) q
in-order next [] h None is t = (λ _. All-nil (λ x. ticket_of x < t), λ _. refl)
in-order next [] h (Some m) is t = absurd (cc)
in-order next (x ∷ []) h None is t = absurd (cc)
in-order next (x ∷ []) h (Some m) is t =
    let same : ticket_of x ≡ ticket_of m = ap (λ (o : Option Message). option_map_or ticket_of o 0) is in (
      λ low. All-cons (λ x. ticket_of x < t) x [] (grind (arith, nat_tests, same, low))
          (All-nil (λ x. ticket_of x < t)),
      λ all. let first = All-head (λ x. ticket_of x < t) x [] all in grind (arith, nat_tests, same, first),
    )
in-order next (x ∷ y ∷ q) h o is t =
    let at : length (x ∷ y ∷ q) - 1 ≡ suc (length (y ∷ q) - 1) = omega arith in
    let rest = in-order next (y ∷ q) h.2 o (ap (slice_get (x ∷ y ∷ q)) (sym at) ∙ is) t in
    let before : ticket_of x < ticket_of y = All-head (λ z. ticket_of x < ticket_of z) y q h.1 in (
      λ low.
          let all = rest.0 low in
          let second = All-head (λ z. ticket_of z < t) y q all in
          All-cons (λ z. ticket_of z < t) x (y ∷ q) (omega (arith, before, second)) all,
      λ all. rest.1 (All-tail (λ z. ticket_of z < t) x (y ∷ q) all),
    )

-- and the first one the least
pub in-front : (next : ℕ) (q : List Message) → Ascends next q → (o : Option Message) → slice_get q 0 ≡ o → (t : ℕ)
    → IsTrue (option_map_or (λ m. nat_lt t (ticket_of m)) o true) ↔ All (λ x. t < ticket_of x) q
in-front next [] h None is t = (λ _. All-nil (λ x. t < ticket_of x), λ _. refl)
in-front next [] h (Some m) is t = absurd (cc)
in-front next (x ∷ q) h None is t = absurd (cc)
in-front next (x ∷ q) h (Some m) is t =
    let same : ticket_of x ≡ ticket_of m = ap (λ (o : Option Message). option_map_or ticket_of o 0) is in (
      λ low.
          let before : t < ticket_of x = grind (arith, nat_tests, same, low) in
          All-cons (λ x. t < ticket_of x) x q before
          (All-weaker (λ y. ticket_of x < ticket_of y) (λ y. t < ticket_of y)
          (λ y more. omega (arith, before, more)) q h.1),
      λ all. let first = All-head (λ x. t < ticket_of x) x q all in grind (arith, nat_tests, same, first),
    )
