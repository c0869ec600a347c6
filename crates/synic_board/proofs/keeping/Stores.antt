-- Guest stores, and the messages that they consume.
use Rattle.std.proofs.Common.{◌≡◌, ◌≢◌, ◌⊎◌, inl, inr, ℕ, zero, suc, ◌+◌, ◌*◌, ◌/◌, ◌%◌, ◌<◌, ◌≤◌, true, List, [], ◌∷◌, ◌++◌, length, take, drop, refl, ap, sym, ◌∙◌, arith, nat_lt, length-set, length-append, length-take, length-drop, zero-add}
use Rattle.std.specs.Prelude.{Option, None, Some, slice_index_or, slice_set, if◌then◌else◌, ◌==◌}
use Rattle.std.specs.Option.{option_map_or}
use Rattle.std.proofs.lemmas.Bool.{cases_eq}
use Rattle.std.proofs.lemmas.Bool.Decides.{nat_tests}
use Rattle.std.proofs.lemmas.List.{get_or-set_same, get_or-set_other}
use Rattle.std.proofs.lemmas.List.Elements.{All-set}
use Rattle.std.proofs.lemmas.List.Quantifiers.{position-Some}
use Rattle.std.proofs.lemmas.List.Sums.{sum_by-set}
use Rattle.board_terms.specs.declared.notices.Notice.TheVariants.{Consumed}
use Rattle.board_terms.specs.declared.refusal.Refusal.{Refusal}
use Rattle.board_terms.specs.declared.pages.Owner.TheVariants.{Guest, Nothing}
use Rattle.board_terms.specs.Sources.{source_number}
use Rattle.message_queues.specs.Image.{slot_type}
use Rattle.gpa_space.specs.Page.{overwritten}
use Rattle.gpa_space.specs.Space.{Space, page_count, refusal_of, overlay_owner, visible, is_mapped_at}
use Rattle.synic_board.specs.State.{State, processors, overlay_registers, space_of, slot_of, with_space, with_slot_ticket}
use Rattle.synic_board.specs.Effects.{Effect, nothing}
use Rattle.synic_board.specs.Delivery.{is_slot_empty}
use Rattle.synic_board.specs.Stores.{consumed_ticket, consumed, consumed_below, consumed_in, stored_bytes}
use Rattle.synic_board.specs.declared.event.Reply.TheVariants.{Refused}
use Rattle.synic_board.specs.Locations.{times_ended, Conserves}
use Rattle.synic_board.proofs.Overlays.{length-overlays}
use Rattle.synic_board.proofs.keeping.Counts.{in_slot, one, times-locations, given-none}
use Rattle.synic_board.specs.Sound.{IsWhole, IsFree}
use Rattle.synic_board.proofs.keeping.Wholes.{IsIntact, KeepsMessages, KeepsMessagesOf, messages-kept, AreStill, keeps-unchanged, still, conserves-after}
use Rattle.synic_board.proofs.keeping.Requests.{either}
use Rattle.synic_board.proofs.keeping.Placements.{page_of}

-- the slots of processor p from number i on may be empty and still hold a ticket
record IsPartly (n p i : ℕ) (s : State) : Type 0 where
  count : processors s ≡ n
  whole : IsWhole n s
  empty : (q j : ℕ) → q < n → j < 16 → (q ≡ p → j < i) → IsFree s q j

-- after the slots below i were processed
record Consumes (n p i : ℕ) (s : State) (e : Effect) : Type 0 where
  partly : IsPartly n p i e.0
  next : e.0.next_ticket ≡ s.next_ticket
  conserves : Conserves s e.0 e.1

-- a slot loses its ticket
pub without-whole : (n : ℕ) (s : State) (p i : ℕ) → IsWhole n s → IsWhole n (with_slot_ticket s p i None)
without-whole n s p i h = record {
  registers = h.registers;
  own = h.own;
  pages = h.pages;
  queues = h.queues;
  slots = length-set s.slots (source_number p i) None ∙ h.slots;
  ports = h.ports;
  timers = h.timers;
  messages = h.messages;
}

pub without-slot : (n : ℕ) (s : State) (p i q j : ℕ) → IsWhole n s → p < n → i < 16 → j < 16
    → ((p ≡ q → i ≢ j) → slot_of s q j ≡ None) → slot_of (with_slot_ticket s p i None) q j ≡ None
without-slot n s p i q j h below under inside free = split (cases_eq (source_number q j) (source_number p i))
  where
    split : (source_number q j ≡ source_number p i) ⊎ (source_number q j ≢ source_number p i)
        → slot_of (with_slot_ticket s p i None) q j ≡ None
    split (inl same) =
        ap (λ k. slice_index_or (slice_set s.slots (source_number p i) None) k None) same
        ∙ get_or-set_same s.slots (source_number p i) None None (omega (arith, h.slots))
    split (inr ne) =
        get_or-set_other s.slots (source_number p i) (source_number q j) None None ne
        ∙ free (λ a b. ne (omega (arith, a, b)))

consumes-ticket : (n : ℕ) (s : State) (p i x : ℕ) → IsPartly n p i s → p < n → i < 16 → slot_of s p i ≡ Some x
    → Consumes n p (suc i) s (consumed_ticket s p i (Some x))
consumes-ticket n s p i x h below under is = record {
  partly = record {
    count = h.count;
    whole = without-whole n s p i h.whole;
    empty = λ q j within inside low z.
        without-slot n s p i q j h.whole below under inside
        (λ apart. h.empty q j within inside (λ e. omega (arith, low e, apart (sym e))) z);
  };
  next = refl;
  conserves = λ t. omega (
    arith,
    times-locations t s,
    times-locations t (with_slot_ticket s p i None),
    sum_by-set (in_slot t) s.slots (source_number p i) None None (omega (arith, h.whole.slots)),
    ap (in_slot t) is,
    given-none t s (with_slot_ticket s p i None) refl,
    emitted t,
  );
}
  where
    emitted : (t : ℕ) → times_ended t (Consumed p i x ∷ []) ≡ one x t
    emitted t = zero-add (one x t)

consumes-nothing : (n : ℕ) (s : State) (p i : ℕ) → IsPartly n p i s → IsFree s p i → Consumes n p (suc i) s (nothing s)
consumes-nothing n s p i h free = record {
  partly = record {
    count = h.count;
    whole = h.whole;
    empty = λ q j within inside low. split q j within inside low (cases_eq q p) (cases_eq j i);
  };
  next = refl;
  conserves = still s s [] (record { queues = refl; slots = refl; next = refl }) (λ t. refl);
}
  where
    split : (q j : ℕ) → q < n → j < 16 → (q ≡ p → j < suc i) → (q ≡ p) ⊎ (q ≢ p) → (j ≡ i) ⊎ (j ≢ i) → IsFree s q j
    split q j within inside low (inl e) (inl f) =
        λ z. (λ k. slot_of s (e k) (f k)) ∙ free ((λ k. slot_type (page_of s (sym e k)) (sym f k)) ∙ z)
    split q j within inside low (inl e) (inr ne) = h.empty q j within inside (λ e. omega (arith, low e, ne))
    split q j within inside low (inr ne) _ = h.empty q j within inside (λ e. absurd (ne e))

consumes-one : (n : ℕ) (s : State) (p i : ℕ) → IsPartly n p i s → p < n → i < 16
    → Consumes n p (suc i) s (consumed s p i)
unfolding consumed
consumes-one n s p i h below under =
    either (Consumes n p (suc i) s) (is_slot_empty s p i) _ _
    (λ _. held (slot_of s p i) refl)
    (λ full. consumes-nothing n s p i h (λ z. absurd (grind (arith, nat_tests))))
  where
    held : (o : Option ℕ) → slot_of s p i ≡ o → Consumes n p (suc i) s (consumed_ticket s p i o)
    held None is = consumes-nothing n s p i h (λ _. is)
    held (Some x) is = consumes-ticket n s p i x h below under is

consumes-below : (n : ℕ) (s : State) (p i : ℕ) → IsPartly n p 0 s → p < n → i ≤ 16
    → Consumes n p i s (consumed_below s p i)
unfolding consumed_below
consumes-below n s p zero h below bound =
    record {
      partly = h;
      next = refl;
      conserves = still s s [] (record { queues = refl; slots = refl; next = refl }) (λ t. refl);
    }
consumes-below n s p (suc i) h below bound =
    let e : Effect = consumed_below s p i in
    let first = consumes-below n s p i h below (omega arith) in
    let second = consumes-one n e.0 p i first.partly below (omega arith) in
    record {
      partly = second.partly;
      next = second.next ∙ first.next;
      conserves = conserves-after s e (consumed e.0 p i) (omega (arith, first.next))
          (omega (arith, second.next)) first.conserves second.conserves;
    }

keeps-consumed : (n : ℕ) (s now : State) (p : ℕ) → AreStill s now → IsPartly n p 0 now → p < n
    → KeepsMessages n s (consumed_below now p 16)
keeps-consumed n s now p same h below =
    let all = consumes-below n now p 16 h below (omega arith) in
    record {
      kept = record {
        count = all.partly.count;
        whole = all.partly.whole;
        empty = λ q j within inside. all.partly.empty q j within inside (λ _. inside);
      };
      tickets_monotone = omega (arith, all.next, same.next);
      conserves = conserves-after s (now, []) (consumed_below now p 16) (omega (arith, same.next))
          (omega (arith, all.next)) (still s now [] same (λ t. refl)) all.conserves;
    }

-- a store does not change the length of a page
pub length-overwritten : (page bytes : List ℕ) (at : ℕ) → length page ≡ 4096 → at + length bytes ≤ 4096
    → length (overwritten page at bytes) ≡ 4096
length-overwritten page bytes at l fits =
    omega (
      arith,
      length-append (take at page ++ bytes) (drop (at + length bytes) page),
      length-append (take at page) bytes,
      length-take at page,
      length-drop (at + length bytes) page,
    )

-- an overlay's own page is written
abbrev pub with_own : State → ℕ → List ℕ → State
with_own s k page = record s { own = slice_set s.own k page }

pub own-whole : (n : ℕ) (s : State) (k : ℕ) (page : List ℕ) → IsWhole n s → length page ≡ 4096
    → IsWhole n (with_own s k page)
own-whole n s k page h l = record {
  registers = h.registers;
  own = length-set s.own k page ∙ h.own;
  pages = All-set (λ x. length x ≡ 4096) s.own k page l h.pages;
  queues = h.queues;
  slots = h.slots;
  ports = h.ports;
  timers = h.timers;
  messages = h.messages;
}

-- the slots of another page
pub own-other : (n : ℕ) (s : State) (k q j : ℕ) (page : List ℕ) → IsIntact n s → q < n → j < 16 → 2 * q ≢ k
    → IsFree (with_own s k page) q j
own-other n s k q j page h within inside ne z =
    h.empty q j within inside (sym (ap (λ x. slot_type x j) (get_or-set_other s.own k (2 * q) page [] ne)) ∙ z)

keeps-own : (n : ℕ) (s : State) (k : ℕ) (page : List ℕ) → IsIntact n s → k < 2 * n → length page ≡ 4096
    → KeepsMessages n s (consumed_in (with_own s k page) (overlay_owner k))
keeps-own n s k page h low l =
    either (λ o. KeepsMessages n s (consumed_in (with_own s k page) o)) (k % 2 == 0) _ _
    (λ e. keeps-consumed n s (with_own s k page) (k / 2) (record { queues = refl; slots = refl; next = refl })
    (record {
      count = h.count;
      whole = own-whole n s k page h.whole l;
      empty = λ q j within inside off.
          own-other n s k q j page h within inside
          (λ f. let same : q ≡ k / 2 = omega arith in absurd (omega (arith, off same)));
    })
    (omega arith))
    (λ e. let odd : k % 2 ≢ 0 = λ f. absurd (grind (arith, nat_tests)) in record {
      kept = record {
        count = h.count;
        whole = own-whole n s k page h.whole l;
        empty = λ q j within inside. own-other n s k q j page h within inside (λ f. odd (omega arith));
      };
      tickets_monotone = omega arith;
      conserves = still s (with_own s k page) [] (record { queues = refl; slots = refl; next = refl }) (λ t. refl);
    })

guest-kept : (n : ℕ) (s : State) (pages : List (List ℕ)) → IsIntact n s → IsIntact n (record s { pages = pages })
guest-kept n s pages h = record {
  count = h.count;
  whole = record {
    registers = h.whole.registers;
    own = h.whole.own;
    pages = h.whole.pages;
    queues = h.whole.queues;
    slots = h.whole.slots;
    ports = h.whole.ports;
    timers = h.whole.timers;
    messages = h.whole.messages;
  };
  empty = h.empty;
}

-- an accepted store to that visible overlay, or to the guest page
abbrev store_at : State → ℕ → ℕ → List ℕ → Option ℕ → Space
store_at s page at bytes o =
    let stored : List ℕ =
    overwritten (option_map_or (λ overlay. slice_index_or s.own overlay []) o (slice_index_or s.pages page [])) at
    bytes in
    option_map_or (λ overlay. record (space_of s) { own = slice_set s.own overlay stored }) o
    (record (space_of s) { pages = slice_set s.pages page stored })

keeps-store_at : (n : ℕ) (s : State) (page at : ℕ) (bytes : List ℕ) → IsIntact n s → at + length bytes ≤ 4096
    → nat_lt page (page_count (space_of s)) ≡ true → (o : Option ℕ) →
    visible (space_of s) page ≡ o →
    KeepsMessages n s (consumed_in (with_space s (store_at s page at bytes o))
    (if nat_lt page (page_count (space_of s)) then option_map_or overlay_owner o Guest else Nothing))
keeps-store_at n s page at bytes h fits inside o is = rw inside (seen o is)
  where
    seen : (o : Option ℕ) → visible (space_of s) page ≡ o
        → KeepsMessages n s (consumed_in (with_space s (store_at s page at bytes o))
        (option_map_or overlay_owner o Guest))
    seen None is = record {
      kept = guest-kept n s (slice_set s.pages page (overwritten (slice_index_or s.pages page []) at bytes)) h;
      tickets_monotone = omega arith;
      conserves = still s
          (record s { pages = slice_set s.pages page (overwritten (slice_index_or s.pages page []) at bytes) }) []
          (record { queues = refl; slots = refl; next = refl }) (λ t. refl);
    }
    seen (Some k) is =
        let low : k < 2 * n =
        omega (
          arith,
          (position-Some (is_mapped_at page) (overlay_registers s.regs) k 0 is).0,
          length-overlays s.regs,
          h.whole.registers,
        ) in
        keeps-own n s k (overwritten (slice_index_or s.own k []) at bytes) h low
        (length-overwritten (slice_index_or s.own k []) bytes at
        (h.whole.pages k [] (omega (arith, h.whole.own))) fits)

fits-page : (s : Space) (address count : ℕ) → refusal_of s address count ≡ None → address % 4096 + count ≤ 4096
fits-page s address count none = grind (arith, nat_tests)

in-space : (s : Space) (address count : ℕ) → refusal_of s address count ≡ None
    → nat_lt (address / 4096) (page_count s) ≡ true
in-space s address count none = grind (arith, nat_tests)

pub keeps-stored_bytes : (n : ℕ) (s : State) (address : ℕ) (bytes : List ℕ) → IsIntact n s
    → KeepsMessagesOf n s (stored_bytes s address bytes)
keeps-stored_bytes n s address bytes h = judged (refusal_of (space_of s) address (length bytes)) refl
  where
    judged : (o : Option Refusal) → refusal_of (space_of s) address (length bytes) ≡ o
        → KeepsMessagesOf n s (stored_bytes s address bytes)
    judged (Some r) is = rw is (messages-kept n s (nothing s) (keeps-unchanged n s (Refused r) h))
    judged None is =
        rw is (keeps-store_at n s (address / 4096) (address % 4096) bytes h
        (fits-page (space_of s) address (length bytes) is)
        (in-space (space_of s) address (length bytes) is) (visible (space_of s) (address / 4096)) refl)
