-- Resetting, suspending and resuming a processor.
use Rattle.std.proofs.Common.{◌≡◌, ◌≢◌, ◌⊎◌, inl, inr, ℕ, zero, suc, ◌+◌, ◌*◌, ◌<◌, ◌≤◌, Bool, [], ◌∷◌, length, map, refl, ap, sym, ◌∙◌, arith, length-set, zero-add, set}
use Rattle.std.specs.Prelude.{Option, None, Some}
use Rattle.std.specs.Option.{option_map_or}
use Rattle.std.specs.List.{All}
use Rattle.std.proofs.lemmas.Bool.{cases_eq}
use Rattle.std.proofs.lemmas.List.{get_or-set_other, length-replicate}
use Rattle.std.proofs.lemmas.List.Elements.{All-set, All-nil}
use Rattle.std.proofs.lemmas.List.Sums.{sum_by-set}
use Rattle.board_terms.specs.Messages.{ticket_of}
use Rattle.board_terms.specs.declared.notices.Notice.TheVariants.{Withdrawn}
use Rattle.board_terms.specs.declared.pages.Kind.TheVariants.{Sim}
use Rattle.lapic_core.specs.Apic.{Apic, empty_apic, with_suspension as apic_with_suspension}
use Rattle.synic_regs.specs.Regs.{reset_regs}
use Rattle.board_terms.specs.Sources.{source_number}
use Rattle.message_queues.specs.Queues.{queue_of}
use Rattle.message_queues.specs.Image.{slot_type}
use Rattle.gpa_space.specs.Page.{zero_page}
use Rattle.gpa_space.specs.Space.{own_page}
use Rattle.stimer_bank.specs.Bank.{with_suspension as bank_with_suspension}
use Rattle.synic_board.specs.State.{State, space_of, bank_of, apic_of, with_apic, slot_of, with_slot_ticket}
use Rattle.synic_board.specs.Effects.{Effect, nothing}
use Rattle.synic_board.specs.Suspending.{with_suspension}
use Rattle.synic_board.specs.Resetting.{withdrawn_ticket, slot_emptied, queue_emptied, source_emptied, emptied_below, emptied, cleared, reset}
use Rattle.synic_board.specs.Locations.{times_ended}
use Rattle.synic_board.specs.Slots.{LeavesSlot}
use Rattle.synic_board.specs.Sound.{IsMessage}
use Rattle.synic_board.proofs.Clocks.{many-reset}
use Rattle.synic_board.proofs.keeping.Counts.{in_queue, in_slot, one, times-locations, given-none}
use Rattle.synic_board.proofs.keeping.Left.{leaves-page, leaves-same}
use Rattle.synic_board.proofs.keeping.Wholes.{IsIntact, Keeps, KeepsMessages, KeepsMessagesOf, messages-kept, keeps-nothing, keeps-still, messages-after, kept-apic, still}
use Rattle.synic_board.proofs.keeping.Changes.{kept-bank}
use Rattle.synic_board.proofs.keeping.Attempts.{ends-each}
use Rattle.synic_board.proofs.keeping.Stores.{without-whole, without-slot}

-- the suspension flag
pub keeps-suspension : (n : ℕ) (s : State) (p : ℕ) (mark : Bool) → IsIntact n s → p < n
    → Keeps n s (with_suspension s p mark, [])
keeps-suspension n s p mark h below =
    let apic : Apic = apic_with_suspension (apic_of s p) mark in
    let marked : State = with_apic s p apic in
    keeps-still n s (with_suspension s p mark, [])
    (kept-bank n marked (bank_with_suspension (bank_of s) p mark) h.whole.timers (kept-apic n s p apic h))
    (record { queues = refl; slots = refl; next = refl }) (leaves-same n s (with_suspension s p mark) refl refl)
    (λ t. refl)

-- a slot loses its ticket, which is withdrawn
keeps-freed : (n : ℕ) (s : State) (p i x : ℕ) → IsIntact n s → p < n → i < 16 → slot_of s p i ≡ Some x
    → KeepsMessages n s (withdrawn_ticket s p i x)
keeps-freed n s p i x h below under is = record {
  kept = record {
    count = h.count;
    whole = without-whole n s p i h.whole;
    empty =
        λ q j within inside z. without-slot n s p i q j h.whole below under inside (λ _. h.empty q j within inside z);
  };
  tickets_monotone = omega arith;
  conserves = λ t. omega (
    arith,
    times-locations t s,
    times-locations t (with_slot_ticket s p i None),
    sum_by-set (in_slot t) s.slots (source_number p i) None None (omega (arith, h.whole.slots)),
    ap (in_slot t) is,
    given-none t s (with_slot_ticket s p i None) refl,
    emitted t,
  );
}
  where
    emitted : (t : ℕ) → times_ended t (Withdrawn p i x ∷ []) ≡ one x t
    emitted t = zero-add (one x t)

keeps-slot : (n : ℕ) (s : State) (p i : ℕ) → IsIntact n s → p < n → i < 16 → KeepsMessages n s (slot_emptied s p i)
keeps-slot n s p i h below under = held (slot_of s p i) refl
  where
    held : (o : Option ℕ) → slot_of s p i ≡ o → KeepsMessages n s (option_map_or (withdrawn_ticket s p i) o (nothing s))
    held None is = messages-kept n s (nothing s) (keeps-nothing n s h)
    held (Some x) is = keeps-freed n s p i x h below under is

-- the messages of a queue are withdrawn
keeps-queue : (n : ℕ) (s : State) (p i : ℕ) → IsIntact n s → p < n → i < 16 → KeepsMessages n s (queue_emptied s p i)
keeps-queue n s p i h below under = record {
  kept = record {
    count = h.count;
    whole = record {
      registers = h.whole.registers;
      own = h.whole.own;
      pages = h.whole.pages;
      queues = length-set s.queues (source_number p i) [] ∙ h.whole.queues;
      slots = h.whole.slots;
      ports = h.whole.ports;
      timers = h.whole.timers;
      messages = All-set (All IsMessage) s.queues (source_number p i) [] (All-nil IsMessage) h.whole.messages;
    };
    empty = h.empty;
  };
  tickets_monotone = omega arith;
  conserves = λ t. omega (
    arith,
    times-locations t s,
    times-locations t (queue_emptied s p i).0,
    sum_by-set (in_queue t) s.queues (source_number p i) [] [] (omega (arith, h.whole.queues)),
    ends-each t p i (map ticket_of (queue_of s.queues p i)),
    given-none t s (queue_emptied s p i).0 refl,
  );
}

-- after the sources below i were emptied: their slots hold no ticket
record Empties (n p i : ℕ) (s : State) (e : Effect) : Type 0 where
  messages : KeepsMessages n s e
  free : (j : ℕ) → j < i → slot_of e.0 p j ≡ None

freed : (n : ℕ) (s : State) (p i j : ℕ) → IsIntact n s → p < n → i < 16 → j ≤ i → (j < i → slot_of s p j ≡ None)
    → slot_of (slot_emptied s p i).0 p j ≡ None
freed n s p i j h below under le free = held (slot_of s p i) refl (cases_eq j i)
  where
    held : (o : Option ℕ) → slot_of s p i ≡ o → (j ≡ i) ⊎ (j ≢ i)
        → slot_of (option_map_or (withdrawn_ticket s p i) o (nothing s)).0 p j ≡ None
    held None is (inl same) = ap (slot_of s p) same ∙ is
    held None is (inr ne) = free (omega (arith, le, ne))
    held (Some x) is at =
        without-slot n s p i p j h.whole below under (omega (arith, le, under))
        (λ apart. free (omega (arith, le, apart refl)))

empties-below : (n : ℕ) (s : State) (p i : ℕ) → IsIntact n s → p < n → i ≤ 16 → Empties n p i s (emptied_below s p i)
unfolding emptied_below
empties-below n s p zero h below bound =
    record {
      messages = messages-kept n s (nothing s) (keeps-nothing n s h);
      free = λ j less. absurd (omega (arith, less));
    }
empties-below n s p (suc i) h below bound =
    let e : Effect = emptied_below s p i in
    let slot : Effect = slot_emptied e.0 p i in
    let first = empties-below n s p i h below (omega (arith, bound)) in
    let second = keeps-slot n e.0 p i first.messages.kept below (omega (arith, bound)) in
    let third = keeps-queue n slot.0 p i second.kept below (omega (arith, bound)) in
    record {
      messages = messages-after n s e (source_emptied e.0 p i) first.messages
          (messages-after n e.0 slot (queue_emptied slot.0 p i) second third);
      free = λ j less. freed n e.0 p i j first.messages.kept below (omega (arith, bound)) (omega (arith, less))
          (first.free j);
    }

-- the message page of another processor
page-other : (s : State) (p q : ℕ) → q ≢ p → own_page (space_of (cleared s p)) q Sim ≡ own_page (space_of s) q Sim
page-other s p q ne =
    get_or-set_other (set s.own (2 * p) zero_page) (2 * p + 1) (2 * q) zero_page [] (λ e. omega (arith, e))
    ∙ get_or-set_other s.own (2 * p) (2 * q) zero_page [] (λ e. ne (omega (arith, e)))

-- the rest is as in a newly opened board
kept-cleared : (n : ℕ) (s : State) (p : ℕ) → IsIntact n s → p < n → ((j : ℕ) → j < 16 → slot_of s p j ≡ None)
    → IsIntact n (cleared s p)
kept-cleared n s p h below free = record {
  count = length-set s.apics p empty_apic ∙ h.count;
  whole = record {
    registers = length-set s.regs p reset_regs ∙ h.whole.registers;
    own = length-set (set s.own (2 * p) zero_page) (2 * p + 1) zero_page ∙ length-set s.own (2 * p) zero_page
        ∙ h.whole.own;
    pages = All-set (λ x. length x ≡ 4096) (set s.own (2 * p) zero_page) (2 * p + 1) zero_page long
        (All-set (λ x. length x ≡ 4096) s.own (2 * p) zero_page long h.whole.pages);
    queues = h.whole.queues;
    slots = h.whole.slots;
    ports = h.whole.ports;
    timers = many-reset (bank_of s) p ∙ h.whole.timers;
    messages = h.whole.messages;
  };
  empty = λ q j within inside z. by q j within inside z (cases_eq q p);
}
  where
    long : length zero_page ≡ 4096
    long = length-replicate {A = ℕ} 4096 0

    by : (q j : ℕ) → q < n → j < 16 → slot_type (own_page (space_of (cleared s p)) q Sim) j ≡ 0 → (q ≡ p) ⊎ (q ≢ p)
        → slot_of s q j ≡ None
    by q j within inside z (inl same) = ap (λ k. slot_of s k j) same ∙ free j inside
    by q j within inside z (inr ne) =
        h.empty q j within inside (sym (ap (λ x. slot_type x j) (page-other s p q ne)) ∙ z)

pub keeps-reset : (n : ℕ) (s : State) (p : ℕ) → IsIntact n s → p < n → KeepsMessagesOf n s (reset s p)
keeps-reset n s p h below =
    let e : Effect = emptied s p in
    let all = empties-below n s p 16 h below (omega arith) in
    messages-after n s e (cleared e.0 p, []) all.messages (record {
      kept = kept-cleared n e.0 p all.messages.kept below all.free;
      tickets_monotone = omega arith;
      conserves = still e.0 (cleared e.0 p) [] (record { queues = refl; slots = refl; next = refl }) (λ t. refl);
    })

-- the slots of another processor are unchanged
record IsLeft (s now : State) (q : ℕ) : Type 0 where
  page : own_page (space_of now) q Sim ≡ own_page (space_of s) q Sim
  slots : (j : ℕ) → j < 16 → slot_of now q j ≡ slot_of s q j

left-slot : (s : State) (p i q : ℕ) → i < 16 → q ≢ p → IsLeft s (slot_emptied s p i).0 q
left-slot s p i q under ne = held (slot_of s p i)
  where
    held : (o : Option ℕ) → IsLeft s (option_map_or (withdrawn_ticket s p i) o (nothing s)).0 q
    held None = record { page = refl; slots = λ j _. refl }
    held (Some x) =
        record {
          page = refl;
          slots = λ j inside.
              get_or-set_other s.slots (source_number p i) (source_number q j) None None
              (λ e. ne (omega (arith, e, inside, under)));
        }

left-below : (s : State) (p i q : ℕ) → i ≤ 16 → q ≢ p → IsLeft s (emptied_below s p i).0 q
unfolding emptied_below
left-below s p zero q bound ne = record { page = refl; slots = λ j _. refl }
left-below s p (suc i) q bound ne =
    let first = left-below s p i q (omega (arith, bound)) ne in
    let second = left-slot (emptied_below s p i).0 p i q (omega (arith, bound)) ne in
    record { page = second.page ∙ first.page; slots = λ j inside. second.slots j inside ∙ first.slots j inside }

pub leaves-reset : (s : State) (p q i : ℕ) → q ≢ p → i < 16 → LeavesSlot s (reset s p).0 q i
leaves-reset s p q i ne under =
    let t : State = (emptied s p).0 in
    let left = left-below s p 16 q (omega arith) ne in
    leaves-page s (cleared t p) q i
    (page-other t p q ne ∙ left.page)
    (left.slots i under)
