-- Effects that preserve soundness and conserve the messages.
use Rattle.std.proofs.Common.{◌≡◌, ◌⊎◌, inl, inr, ℕ, ◌<◌, ◌≤◌, List, ◌++◌, refl, ap, sym, subst, ◌∙◌, arith, length-set}
use Rattle.std.proofs.lemmas.Bool.{cases_lt}
use Rattle.board_terms.specs.declared.notices.Notice.{Notice}
use Rattle.lapic_core.specs.Apic.{Apic}
use Rattle.synic_board.specs.State.{State, processors, with_apic}
use Rattle.synic_board.specs.declared.event.Reply.{Reply}
use Rattle.synic_board.specs.Effects.{Effect, Outcome, nothing, after, unchanged}
use Rattle.synic_board.specs.Locations.{locations, times, times_ended, Conserves, AreTickets}
use Rattle.synic_board.specs.Sound.{IsWhole, IsFree, IsSound}
use Rattle.synic_board.proofs.keeping.Left.{Leaves, leaves-after, leaves-same}
use Rattle.synic_board.proofs.keeping.Counts.{in_queues, in_slots, times-locations, ended-append, given-after, given-none, given-low, given-high, given-le}

-- a state with n processors is sound, except for its tickets
pub record IsIntact (n : ℕ) (s : State) : Type 0 where
  pub count : processors s ≡ n
  pub whole : IsWhole n s
  pub empty : (p i : ℕ) → p < n → i < 16 → IsFree s p i

pub kept_from_sound : (s : State) → IsSound s → IsIntact (processors s) s
kept_from_sound s h = record { count = refl; whole = h.whole; empty = h.empty }

pub sound_from_kept : (n : ℕ) (s : State) → IsIntact n s → AreTickets s → IsSound s
sound_from_kept n s kept tickets =
    let h =
    subst (λ k. IsIntact k s) (sym kept.count) kept in record { whole = h.whole; empty = h.empty; tickets = tickets }

-- an effect conserves the messages and preserves the rest
pub record KeepsMessages (n : ℕ) (s : State) (e : Effect) : Type 0 where
  pub kept : IsIntact n e.0
  pub tickets_monotone : s.next_ticket ≤ e.0.next_ticket
  pub conserves : Conserves s e.0 e.1

-- and leaves the occupied slots unchanged
pub record Keeps (n : ℕ) (s : State) (e : Effect) : Type 0 where
  pub kept : IsIntact n e.0
  pub tickets_monotone : s.next_ticket ≤ e.0.next_ticket
  pub conserves : Conserves s e.0 e.1
  pub leaves : Leaves n s e.0

pub messages-kept : (n : ℕ) (s : State) (e : Effect) → Keeps n s e → KeepsMessages n s e
messages-kept n s e h = record { kept = h.kept; tickets_monotone = h.tickets_monotone; conserves = h.conserves }

-- no message ends
abbrev pub EndsNone : List Notice → Type 0
EndsNone notices = (t : ℕ) → times_ended t notices ≡ 0

-- no message moves
pub record AreStill (s now : State) : Type 0 where
  pub queues : now.queues ≡ s.queues
  pub slots : now.slots ≡ s.slots
  pub next : now.next_ticket ≡ s.next_ticket

pub still : (s now : State) (notices : List Notice) → AreStill s now → EndsNone notices → Conserves s now notices
still s now notices same none t =
    omega (
      arith,
      times-locations t s,
      times-locations t now,
      none t,
      given-none t s now same.next,
      ap (in_queues t) same.queues,
      ap (in_slots t) same.slots,
    )

pub keeps-still : (n : ℕ) (s : State) (e : Effect) → IsIntact n e.0 → AreStill s e.0 → Leaves n s e.0 → EndsNone e.1
    → Keeps n s e
keeps-still n s e h same left none =
    record {
      kept = h;
      tickets_monotone = omega (arith, same.next);
      conserves = still s e.0 e.1 same none;
      leaves = left;
    }

pub keeps-nothing : (n : ℕ) (s : State) → IsIntact n s → Keeps n s (nothing s)
keeps-nothing n s h =
    keeps-still n s (nothing s) h (record { queues = refl; slots = refl; next = refl }) (leaves-same n s s refl refl)
    (λ t. refl)

-- an outcome, without its reply
abbrev pub KeepsOutcome : ℕ → State → Outcome → Type 0
KeepsOutcome n s o = Keeps n s (o.0, o.2)

abbrev pub KeepsMessagesOf : ℕ → State → Outcome → Type 0
KeepsMessagesOf n s o = KeepsMessages n s (o.0, o.2)

pub keeps-unchanged : (n : ℕ) (s : State) (reply : Reply) → IsIntact n s → KeepsOutcome n s (unchanged s reply)
keeps-unchanged n s reply h = keeps-nothing n s h

-- one effect after another
pub conserves-after : (s : State) (e f : Effect) → s.next_ticket ≤ e.0.next_ticket → e.0.next_ticket ≤ f.0.next_ticket
    → Conserves s e.0 e.1 → Conserves e.0 f.0 f.1 → Conserves s f.0 (e.1 ++ f.1)
conserves-after s e f h k first second t =
    omega (arith, first t, second t, ended-append t e.1 f.1, given-after t s e.0 f.0 h k)

pub messages-after : (n : ℕ) (s : State) (e f : Effect) → KeepsMessages n s e → KeepsMessages n e.0 f
    → KeepsMessages n s (after e f)
messages-after n s e f first second = record {
  kept = second.kept;
  tickets_monotone = omega (arith, first.tickets_monotone, second.tickets_monotone);
  conserves = conserves-after s e f first.tickets_monotone second.tickets_monotone first.conserves second.conserves;
}

pub keeps-after : (n : ℕ) (s : State) (e f : Effect) → Keeps n s e → Keeps n e.0 f → Keeps n s (after e f)
keeps-after n s e f first second = record {
  kept = second.kept;
  tickets_monotone = omega (arith, first.tickets_monotone, second.tickets_monotone);
  conserves = conserves-after s e f first.tickets_monotone second.tickets_monotone first.conserves second.conserves;
  leaves = leaves-after n s e.0 f.0 first.leaves second.leaves;
}

-- an effect that conserves the messages keeps each ticket in one place
pub tickets-conserved : (s now : State) (notices : List Notice) → s.next_ticket ≤ now.next_ticket
    → Conserves s now notices → AreTickets s → AreTickets now
tickets-conserved s now notices tickets_monotone conserves tickets = record { once = once; given_before = given_before }
  where
    at_most : (t : ℕ) → (t < s.next_ticket) ⊎ (s.next_ticket ≤ t) → times t (locations now) ≤ 1
    at_most t (inl low) = omega (arith, conserves t, tickets.once t, given-low t s now low)
    at_most t (inr high) = omega (arith, conserves t, tickets.given_before t high, given-le t s now)

    once : (t : ℕ) → times t (locations now) ≤ 1
    once t = at_most t (cases_lt t s.next_ticket)

    given_before : (t : ℕ) → now.next_ticket ≤ t → times t (locations now) ≡ 0
    given_before t h = omega (arith, conserves t, tickets.given_before t (omega arith), given-high t s now h)

-- another local APIC
pub kept-apic : (n : ℕ) (s : State) (p : ℕ) (a : Apic) → IsIntact n s → IsIntact n (with_apic s p a)
kept-apic n s p a h = record {
  count = length-set s.apics p a ∙ h.count;
  whole = record {
    registers = h.whole.registers;
    own = h.whole.own;
    pages = h.whole.pages;
    queues = h.whole.queues;
    slots = h.whole.slots;
    ports = h.whole.ports;
    timers = h.whole.timers;
    messages = h.whole.messages;
  };
  empty = h.empty;
}
