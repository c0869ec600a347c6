-- An open port, a timer, a queued message, and a ticket in a slot.
use Rattle.std.proofs.Common.{◌≡◌, ℕ, zero, suc, ◌+◌, ◌*◌, ◌<◌, ◌≤◌, Bool, true, false, List, [], ◌∷◌, ◌++◌, ◌&&◌, cond, length, refl, sym, ap, subst, ◌∙◌, arith, nat_le, length-append}
use Rattle.std.specs.Prelude.{◌==◌, Option, None, Some, is_none, slice_get}
use Rattle.std.specs.Option.{option_map_or}
use Rattle.std.proofs.lemmas.Bool.Decides.{nat_tests}
use Rattle.std.proofs.lemmas.List.{get_or-set_same, get_or-set_other, length-set}
use Rattle.board_terms.specs.declared.messages.Message.{Message}
use Rattle.board_terms.specs.declared.messages.PortShape.{PortShape}
use Rattle.board_terms.specs.declared.refusal.Refusal.{Refusal}
use Rattle.board_terms.specs.declared.refusal.Refusal.TheVariants.{UnknownPort}
use Rattle.event_ports.specs.declared.ports.Port.{Port}
use Rattle.event_ports.specs.Ports.{open_refusal}
use Rattle.message_queues.specs.Queues.{queue_of}
use Rattle.stimer_bank.specs.declared.timer.Timer.{Timer}
use Rattle.stimer_bank.specs.Bank.{idle_timer}
use Rattle.synic_board.specs.declared.event.Reply.TheVariants.{Done, Refused}
use Rattle.synic_board.specs.Effects.{Outcome, refused, unchanged}
use Rattle.synic_board.specs.Posts.{with_port, opened_port}
use Rattle.synic_board.specs.State.{State, ports_of, with_slot_ticket}
use Rattle.synic_board.specs.Restoring.{with_saved_timer, with_message}
use Rattle.text_image.specs.declared.piece.Piece.TheVariants as pieces
use Rattle.text_image.specs.Pieces.{piece_fields}
use Rattle.text_image.specs.Image.{Lines, each_below, port_line, timer_line, timer_fields, message_fields, slot_line}
use Rattle.text_restore.specs.Restoring.{rank_of}
use Rattle.law_images.proofs.Growing.{each-same}
use Rattle.law_images.proofs.Spots.{Ports, Timers, Queues, Slots, IsSpot, AgreeElsewhere}
use Rattle.law_images.proofs.Printed.{printed}
use Rattle.law_images.proofs.Extending.{IsShaped, IsBlank, Extends, first-added}

-- a port that can be opened is one of the board's
record IsOpened (s : State) (k : ℕ) (port : Port) (new : State) : Type 0 where
  low : k < length s.ports
  is : new ≡ with_port s k port

is-opened : (s : State) (k p i : ℕ) (shape : PortShape) (new : State) → (new, Done, []) ≡ opened_port s k p i shape
    → IsOpened s k (record { vp = p; sint = i; shape = shape }) new
is-opened s k p i shape new e = by (open_refusal (ports_of s) k p i shape) refl e
  where
    port : Port
    port = record { vp = p; sint = i; shape = shape }

    numbered : (t : Bool) (rest : Option Refusal) → nat_le (length s.ports) k ≡ t
        → cond t (Some UnknownPort) rest ≡ None → k < length s.ports
    numbered true rest is none = cc
    numbered false rest is none = grind (arith, nat_tests)

    by : (o : Option Refusal) → open_refusal (ports_of s) k p i shape ≡ o
        → (new, Done, []) ≡ option_map_or (refused s) o (unchanged (with_port s k port) Done) → IsOpened s k port new
    by None is e = record { low = numbered (nat_le (length s.ports) k) _ refl is; is = ap (λ (x : Outcome). x.0) e }
    by (Some r) is e = let reply : Done ≡ Refused r = ap (λ (x : Outcome). x.1) e in cc

port-extends : (n m ticket : ℕ) (s : State) (last lapics k p i : ℕ) (shape : PortShape) → IsShaped n m ticket s
    → IsBlank n m s last lapics →
    last < rank_of (pieces.Port k p i shape) → k < length s.ports
    → Extends n m ticket s lapics (pieces.Port k p i shape)
    (with_port s k (record { vp = p; sint = i; shape = shape })) lapics
port-extends n m ticket s last lapics k p i shape h blank later low = record {
  shaped = record {
    apics = h.apics;
    pages = h.pages;
    next = h.next;
    regs = h.regs;
    own = h.own;
    ports = length-set s.ports k (Some port) ∙ h.ports;
    timers = h.timers;
    queues = h.queues;
    slots = h.slots;
    sints = h.sints;
    page_bytes = h.page_bytes;
    own_bytes = h.own_bytes;
  };
  section = Ports;
  a = k;
  b = 0;
  c = 0;
  spot = spot;
  is = refl;
  frame = frame;
  added = first-added (printed s lapics Ports k 0 0) (printed (with_port s k port) lapics Ports k 0 0)
      (piece_fields (pieces.Port k p i shape)) (blank Ports k 0 0 spot later)
      (ap (lines k) (get_or-set_same s.ports k (Some port) None low));
}
  where
    port : Port
    port = record { vp = p; sint = i; shape = shape }

    lines : ℕ → Option Port → Lines
    lines number o = option_map_or (λ (x : Port). port_line number x ∷ []) o []

    spot : IsSpot n m Ports k 0 0
    spot = (omega (arith, low, h.ports), omega arith, omega arith)

    frame : AgreeElsewhere n m (rank_of (pieces.Port k p i shape)) (printed s lapics)
        (printed (with_port s k port) lapics)
    frame Ports q b c h' other =
        ap (lines q) (get_or-set_other s.ports k q (Some port) None (λ e. other (omega (arith, e, h'.1, h'.2))))
    frame σ a b c h' other = refl

pub opened_port-extends : (n m ticket : ℕ) (s : State) (last lapics k p i : ℕ) (shape : PortShape) (new : State)
    → IsShaped n m ticket s → IsBlank n m s last lapics →
    last < rank_of (pieces.Port k p i shape) → (new, Done, []) ≡ opened_port s k p i shape
    → Extends n m ticket s lapics (pieces.Port k p i shape) new lapics
opened_port-extends n m ticket s last lapics k p i shape new h blank later e =
    let o = is-opened s k p i shape new e in
    subst (λ (t : State). Extends n m ticket s lapics (pieces.Port k p i shape) t lapics) (sym o.is)
    (port-extends n m ticket s last lapics k p i shape h blank later o.low)

-- a timer that is not idle
pub timer-extends : (n m ticket : ℕ) (s : State) (last lapics p i config count : ℕ) (due : Option ℕ) → n ≤ 64
    → IsShaped n m ticket s → IsBlank n m s last lapics →
    last < rank_of (pieces.Timer p i config count due) → p < n → i < 4
    → ((config == 0) && ((count == 0) && is_none due) ≡ false) →
    Extends n m ticket s lapics (pieces.Timer p i config count due)
    (with_saved_timer s (p, i) (record { config = config; count = count; due = due })) lapics
timer-extends n m ticket s last lapics p i config count due few h blank later on low some = record {
  shaped = record {
    apics = h.apics;
    pages = h.pages;
    next = h.next;
    regs = h.regs;
    own = h.own;
    ports = h.ports;
    timers = length-set s.timers (4 * p + i) x ∙ h.timers;
    queues = h.queues;
    slots = h.slots;
    sints = h.sints;
    page_bytes = h.page_bytes;
    own_bytes = h.own_bytes;
  };
  section = Timers;
  a = p;
  b = i;
  c = 0;
  spot = spot;
  is = refl;
  frame = frame;
  added = first-added (printed s lapics Timers p i 0) (printed new lapics Timers p i 0)
      (timer_fields (p, i) config count due) (blank Timers p i 0 spot later)
      (ap (lines p i) (get_or-set_same s.timers (4 * p + i) x idle_timer (omega (arith, h.timers, few, on, low)))
      ∙ ap (λ (t : Bool). cond t [] (timer_fields (p, i) config count due ∷ [])) some);
}
  where
    x : Timer
    x = record { config = config; count = count; due = due }

    new : State
    new = with_saved_timer s (p, i) x

    lines : ℕ → ℕ → Timer → Lines
    lines q j y = timer_line (q, j) y.config y.count y.due

    spot : IsSpot n m Timers p i 0
    spot = (on, low, omega arith)

    frame : AgreeElsewhere n m (rank_of (pieces.Timer p i config count due)) (printed s lapics) (printed new lapics)
    frame Timers q j c h' other = ap (lines q j) (get_or-set_other s.timers (4 * p + i) (4 * q + j) x idle_timer
        (λ e. let same : q ≡ p = omega (arith, e, low, h'.1) in other (omega (arith, e, same, h'.2))))
    frame σ a b c h' other = refl

-- one more message in a queue
slice_get-front : (q : List Message) (m : Message) (k : ℕ) → k < length q → slice_get (q ++ m ∷ []) k ≡ slice_get q k
slice_get-front [] m k h = absurd (omega (arith, h))
slice_get-front (x ∷ q) m zero h = refl
slice_get-front (x ∷ q) m (suc k) h = slice_get-front q m k (omega (arith, h))

slice_get-last : (q : List Message) (m : Message) → slice_get (q ++ m ∷ []) (length q) ≡ Some m
slice_get-last [] m = refl
slice_get-last (x ∷ q) m = slice_get-last q m

abbrev lines_in : ℕ → ℕ → List Message → ℕ → Lines
lines_in p i q k = option_map_or (λ (m : Message). message_fields p i m ∷ []) (slice_get q k) []

queue-grows : (p i : ℕ) (q : List Message) (m : Message) →
    each_below (length (q ++ m ∷ [])) (lines_in p i (q ++ m ∷ []))
    ≡ each_below (length q) (lines_in p i q) ++ message_fields p i m ∷ []
unfolding each_below
queue-grows p i q m =
    let size : length (q ++ m ∷ []) ≡ suc (length q) = omega (arith, length-append q (m ∷ [])) in
    let line : Option Message → Lines =
    λ (o : Option Message). option_map_or (λ (x : Message). message_fields p i x ∷ []) o [] in
    let front = each-same (length q) (lines_in p i q) (lines_in p i (q ++ m ∷ []))
    (λ k below. ap line (slice_get-front q m k below)) in
    ap (λ (n : ℕ). each_below n (lines_in p i (q ++ m ∷ []))) size ∙ (λ j. front j ++ line (slice_get-last q m j))

pub message-extends : (n m ticket : ℕ) (s : State) (lapics p i : ℕ) (x : Message) → IsShaped n m ticket s → p < n
    → i < 16 →
    Extends n m ticket s lapics (pieces.Queued p i x) (with_message s p i x) lapics
message-extends n m ticket s lapics p i x h on low = record {
  shaped = record {
    apics = h.apics;
    pages = h.pages;
    next = h.next;
    regs = h.regs;
    own = h.own;
    ports = h.ports;
    timers = h.timers;
    queues = length-set s.queues (16 * p + i) now ∙ h.queues;
    slots = h.slots;
    sints = h.sints;
    page_bytes = h.page_bytes;
    own_bytes = h.own_bytes;
  };
  section = Queues;
  a = p;
  b = i;
  c = 0;
  spot = (on, low, omega arith);
  is = refl;
  frame = frame;
  added = ap (lines p i) (get_or-set_same s.queues (16 * p + i) now [] (omega (arith, h.queues, on, low)))
      ∙ queue-grows p i (queue_of s.queues p i) x;
}
  where
    now : List Message
    now = queue_of s.queues p i ++ x ∷ []

    lines : ℕ → ℕ → List Message → Lines
    lines q j y = each_below (length y) (lines_in q j y)

    frame : AgreeElsewhere n m (rank_of (pieces.Queued p i x)) (printed s lapics)
        (printed (with_message s p i x) lapics)
    frame Queues q j c h' other = ap (lines q j) (get_or-set_other s.queues (16 * p + i) (16 * q + j) now []
        (λ e. let same : q ≡ p = omega (arith, e, low, h'.1) in other (omega (arith, e, same, h'.2))))
    frame σ a b c h' other = refl

-- the ticket of the message in a slot
pub ticket-extends : (n m ticket : ℕ) (s : State) (last lapics p i x : ℕ) → IsShaped n m ticket s
    → IsBlank n m s last lapics → last < rank_of (pieces.Slot p i x) → p < n → i < 16 →
    Extends n m ticket s lapics (pieces.Slot p i x) (with_slot_ticket s p i (Some x)) lapics
ticket-extends n m ticket s last lapics p i x h blank later on low = record {
  shaped = record {
    apics = h.apics;
    pages = h.pages;
    next = h.next;
    regs = h.regs;
    own = h.own;
    ports = h.ports;
    timers = h.timers;
    queues = h.queues;
    slots = length-set s.slots (16 * p + i) (Some x) ∙ h.slots;
    sints = h.sints;
    page_bytes = h.page_bytes;
    own_bytes = h.own_bytes;
  };
  section = Slots;
  a = p;
  b = i;
  c = 0;
  spot = spot;
  is = refl;
  frame = frame;
  added = first-added (printed s lapics Slots p i 0) (printed (with_slot_ticket s p i (Some x)) lapics Slots p i 0)
      (piece_fields (pieces.Slot p i x)) (blank Slots p i 0 spot later)
      (ap (slot_line p i) (get_or-set_same s.slots (16 * p + i) (Some x) None (omega (arith, h.slots, on, low))));
}
  where
    spot : IsSpot n m Slots p i 0
    spot = (on, low, omega arith)

    frame : AgreeElsewhere n m (rank_of (pieces.Slot p i x)) (printed s lapics)
        (printed (with_slot_ticket s p i (Some x)) lapics)
    frame Slots q j c h' other = ap (slot_line q j) (get_or-set_other s.slots (16 * p + i) (16 * q + j) (Some x) None
        (λ e. let same : q ≡ p = omega (arith, e, low, h'.1) in other (omega (arith, e, same, h'.2))))
    frame σ a b c h' other = refl
