-- Invariants of every event.
use Rattle.std.proofs.Common.{◌≡◌, ◌∙◌, Bool, true, false, ℕ, ◌%◌, ◌^◌, ◌<◌, ◌≤◌, List, [], refl, sym, subst, arith, nat_lt}
use Rattle.std.specs.Prelude.{Option, None, Some, nat_le}
use Rattle.std.specs.Option.{option_map_or}
use Rattle.std.proofs.lemmas.Bool.Decides.{nat_tests}
use Rattle.board_terms.specs.declared.notices.Notice.{Notice}
use Rattle.board_terms.specs.declared.refusal.Refusal.TheVariants.{BadTarget, NoSuchProcessor, AlreadySuspended, NotSuspended}
use Rattle.lapic_core.specs.Apic.{next, with_task_priority, after_end}
use Rattle.synic_regs.specs.declared.register.Register.{Register}
use Rattle.synic_regs.specs.declared.register.Register.TheVariants.{ReferenceCounter, Eoi, Tpr, Control, Version, Sief, Sim, Eom, Source, TimerConfig, TimerCount}
use Rattle.synic_regs.specs.Registers.{register_of, Exists}
use Rattle.synic_regs.specs.Regs.{is_refused, with_value}
use Rattle.synic_regs.proofs.Numbers.{have_their_numbers}
use Rattle.synic_board.specs.declared.event.Event.{Event}
use Rattle.synic_board.specs.declared.event.Event.TheVariants.{OpenPort, ClosePort, Write, Read, Post, Signal, Assert, Absorb, Store, Load, Tick, Take, Suspend, Resume, Reset, Send}
use Rattle.synic_board.specs.declared.event.Reply.{Reply}
use Rattle.synic_board.specs.declared.event.Reply.TheVariants.{Done, GeneralProtection, Refused}
use Rattle.synic_board.specs.State.{State, processors, slot_of, apic_of, regs_of, with_apic, with_regs}
use Rattle.synic_board.specs.Effects.{Outcome, at_processor, answered, unchanged}
use Rattle.synic_board.specs.Interrupts.{requested, taken_at, taken, ended, with_priority}
use Rattle.synic_board.specs.Absorbing.{absorbed}
use Rattle.synic_board.specs.Registers.{stored, written_register, written, read}
use Rattle.synic_board.specs.Stores.{read_bytes}
use Rattle.synic_board.specs.Suspending.{is_suspended, suspended, resumed}
use Rattle.synic_board.specs.Resetting.{reset}
use Rattle.synic_board.specs.Sending.{sent}
use Rattle.synic_board.specs.Step.{step}
use Rattle.synic_board.specs.Locations.{Conserves}
use Rattle.synic_board.specs.Slots.{IsApart, LeavesSlot}
use Rattle.synic_board.specs.Delivery.{is_slot_empty}
use Rattle.synic_board.specs.Sound.{IsSound, PayloadFits}
use Rattle.synic_board.proofs.keeping.Left.{leaves-page, leaves-same}
use Rattle.synic_board.proofs.keeping.Wholes.{IsIntact, Keeps, KeepsOutcome, KeepsMessagesOf, messages-kept, kept_from_sound, sound_from_kept, tickets-conserved, kept-apic, keeps-still, keeps-nothing, keeps-unchanged}
use Rattle.synic_board.proofs.keeping.Requests.{either, still-apic, leaves-apic, keeps-requested, keeps-absorbed_below, keeps-sent_below}
use Rattle.synic_board.proofs.keeping.Attempts.{keeps-tried_below}
use Rattle.synic_board.proofs.keeping.Changes.{kept-regs}
use Rattle.synic_board.proofs.keeping.Posts.{keeps-opened_port, keeps-closed, keeps-posted, keeps-signalled}
use Rattle.synic_board.proofs.keeping.Stores.{keeps-stored_bytes}
use Rattle.synic_board.proofs.keeping.Resets.{keeps-suspension, keeps-reset, leaves-reset}
use Rattle.synic_board.proofs.keeping.Clocks.{keeps-written_config, keeps-written_count, keeps-ticked}

keeps-stored : (n : ℕ) (s : State) (p : ℕ) (r : Register) (value : ℕ) → IsIntact n s
    → KeepsOutcome n s (stored s p r value)
keeps-stored n s p r value h =
    either (KeepsOutcome n s) (is_refused r value) _ _
    (λ _. keeps-unchanged n s GeneralProtection h)
    (λ _. keeps-still n s (with_regs s p (with_value (regs_of s p) r value), [])
    (kept-regs n s p (with_value (regs_of s p) r value) h)
    (record { queues = refl; slots = refl; next = refl })
    (leaves-same n s (with_regs s p (with_value (regs_of s p) r value)) refl refl) (λ t. refl))

keeps-written_register : (n : ℕ) (s : State) (p : ℕ) (r : Register) (value : ℕ) → IsIntact n s → p < n → Exists r
    → KeepsOutcome n s (written_register s p r value)
keeps-written_register n s p ReferenceCounter value h below exists = keeps-unchanged n s GeneralProtection h
keeps-written_register n s p Eoi value h below exists =
    keeps-still n s (ended s p, []) (kept-apic n s p (after_end (apic_of s p)) h)
    (still-apic s p (after_end (apic_of s p))) (leaves-apic n s p (after_end (apic_of s p))) (λ t. refl)
keeps-written_register n s p Tpr value h below exists = keeps-still n s (with_priority s p value, [])
    (kept-apic n s p (with_task_priority (apic_of s p) (value % 256)) h)
    (still-apic s p (with_task_priority (apic_of s p) (value % 256)))
    (leaves-apic n s p (with_task_priority (apic_of s p) (value % 256))) (λ t. refl)
keeps-written_register n s p Control value h below exists = keeps-stored n s p Control value h
keeps-written_register n s p Version value h below exists = keeps-unchanged n s GeneralProtection h
keeps-written_register n s p Sief value h below exists = keeps-stored n s p Sief value h
keeps-written_register n s p Sim value h below exists = keeps-stored n s p Sim value h
keeps-written_register n s p Eom value h below exists = keeps-tried_below n s p 16 h below (omega arith)
keeps-written_register n s p (Source k) value h below exists = keeps-stored n s p (Source k) value h
keeps-written_register n s p (TimerConfig k) value h below exists =
    keeps-written_config n s (p, k) value (omega (arith, below, exists)) h
keeps-written_register n s p (TimerCount k) value h below exists =
    keeps-written_count n s (p, k) value (omega (arith, below, exists)) h

keeps-written : (n : ℕ) (s : State) (p number value : ℕ) → IsIntact n s → p < n
    → KeepsOutcome n s (written s p number value)
keeps-written n s p number value h below = named (register_of number) refl
  where
    named : (o : Option Register) → register_of number ≡ o
        → KeepsOutcome n s (option_map_or (λ r. written_register s p r value) o (unchanged s GeneralProtection))
    named None is = keeps-unchanged n s GeneralProtection h
    named (Some r) is = keeps-written_register n s p r value h below ((have_their_numbers number r).0 is).0

keeps-absorbed : (n : ℕ) (s : State) (p part bits : ℕ) → IsIntact n s → KeepsOutcome n s (absorbed s p part bits)
keeps-absorbed n s p part bits h =
    either (KeepsOutcome n s) (nat_le part 3) _ _ (λ _. keeps-absorbed_below n s p part bits 64 h)
    (λ _. keeps-unchanged n s (Refused BadTarget) h)

keeps-sent : (n : ℕ) (s : State) (v mask : ℕ) → IsIntact n s → KeepsOutcome n s (sent s v mask)
keeps-sent n s v mask h =
    either (KeepsOutcome n s) (nat_lt mask (2 ^ processors s)) _ _ (λ _. keeps-sent_below n s v mask 64 h)
    (λ _. keeps-unchanged n s (Refused NoSuchProcessor) h)

keeps-taken : (n : ℕ) (s : State) (p : ℕ) → IsIntact n s → KeepsOutcome n s (taken s p)
keeps-taken n s p h =
    elim (next (apic_of s p)) as (λ o. Keeps n s (option_map_or (λ v. with_apic s p (taken_at s p v)) o s, [])) [
      | None ↦ keeps-nothing n s h
      | Some v ↦ keeps-still n s (with_apic s p (taken_at s p v), []) (kept-apic n s p (taken_at s p v) h)
          (still-apic s p (taken_at s p v)) (leaves-apic n s p (taken_at s p v)) (λ t. refl)
    ]

on-board : (n : ℕ) (s : State) (p : ℕ) (o : Outcome) → IsIntact n s → (p < n → KeepsOutcome n s o)
    → KeepsOutcome n s (at_processor s p o)
on-board n s p o h there =
    either (KeepsOutcome n s) (nat_lt p (processors s)) _ _
    (λ on. there (let c = h.count in grind (arith, nat_tests))) (λ _. keeps-unchanged n s (Refused NoSuchProcessor) h)

keeps-suspended : (n : ℕ) (s : State) (p : ℕ) → IsIntact n s → p < n → KeepsOutcome n s (suspended s p)
keeps-suspended n s p h below =
    either (KeepsOutcome n s) (is_suspended s p) _ _ (λ _. keeps-unchanged n s (Refused AlreadySuspended) h)
    (λ _. keeps-suspension n s p true h below)

keeps-resumed : (n : ℕ) (s : State) (p : ℕ) → IsIntact n s → p < n → KeepsOutcome n s (resumed s p)
keeps-resumed n s p h below =
    either (KeepsOutcome n s) (is_suspended s p) _ _ (λ _. keeps-suspension n s p false h below)
    (λ _. keeps-unchanged n s (Refused NotSuspended) h)

-- an event that leaves all occupied slots unchanged: no store, and no reset
abbrev LeavesAll : Event → Type 0
LeavesAll (Store address bytes) = ⊥
LeavesAll (Reset p) = ⊥
LeavesAll e = Unit {0}

keeps-other : (n : ℕ) (s : State) (e : Event) → LeavesAll e → PayloadFits e → IsIntact n s → KeepsOutcome n s (step s e)
unfolding step
keeps-other n s (OpenPort port p i shape) other fits h = keeps-opened_port n s port p i shape h
keeps-other n s (ClosePort port) other fits h = keeps-closed n s port h
keeps-other n s (Write p number value) other fits h =
    on-board n s p (written s p number value) h (λ below. keeps-written n s p number value h below)
keeps-other n s (Read p number) other fits h =
    on-board n s p (unchanged s (read s p number)) h (λ _. keeps-unchanged n s (read s p number) h)
keeps-other n s (Post port kind payload) other fits h = keeps-posted n s port kind payload fits h
keeps-other n s (Signal port flag) other fits h = keeps-signalled n s port flag h
keeps-other n s (Assert p v) other fits h =
    on-board n s p (answered Done (requested s p v)) h (λ _. keeps-requested n s p v h)
keeps-other n s (Absorb p part bits) other fits h =
    on-board n s p (absorbed s p part bits) h (λ _. keeps-absorbed n s p part bits h)
keeps-other n s (Store address bytes) other fits h = absurd other
keeps-other n s (Load address count) other fits h = keeps-unchanged n s (read_bytes s address count) h
keeps-other n s (Tick moment) other fits h = keeps-ticked n s moment h
keeps-other n s (Take p) other fits h = on-board n s p (taken s p) h (λ _. keeps-taken n s p h)
keeps-other n s (Suspend p) other fits h = on-board n s p (suspended s p) h (λ below. keeps-suspended n s p h below)
keeps-other n s (Resume p) other fits h = on-board n s p (resumed s p) h (λ below. keeps-resumed n s p h below)
keeps-other n s (Reset p) other fits h = absurd other
keeps-other n s (Send v mask) other fits h = keeps-sent n s v mask h

other-kept : (n : ℕ) (s : State) (e : Event) → LeavesAll e → PayloadFits e → IsIntact n s
    → KeepsMessagesOf n s (step s e)
other-kept n s e other fits h = messages-kept n s ((step s e).0, (step s e).2) (keeps-other n s e other fits h)

pub keeps-step : (n : ℕ) (s : State) (e : Event) → PayloadFits e → IsIntact n s → KeepsMessagesOf n s (step s e)
unfolding step
keeps-step n s (Store address bytes) fits h = keeps-stored_bytes n s address bytes.items h
keeps-step n s (Reset p) fits h =
    either (KeepsMessagesOf n s) (nat_lt p (processors s)) (reset s p) (unchanged s (Refused NoSuchProcessor))
    (λ on. keeps-reset n s p h (let c = h.count in grind (arith, nat_tests)))
    (λ _. messages-kept n s (s, []) (keeps-unchanged n s (Refused NoSuchProcessor) h))
keeps-step n s e fits h = other-kept n s e tt fits h

-- each accepted message stays in one place, or ends once
pub conserves : (s now : State) (e : Event) (reply : Reply) (notices : List Notice) → PayloadFits e
    → (now, reply, notices) ≡ step s e → IsSound s → Conserves s now notices
conserves s now e reply notices fits is sound =
    subst (λ (o : Outcome). Conserves s o.0 o.2) (sym is)
    (keeps-step (processors s) s e fits (kept_from_sound s sound)).conserves

-- no ticket is given twice
pub tickets_monotone : (s now : State) (e : Event) (reply : Reply) (notices : List Notice) → PayloadFits e
    → (now, reply, notices) ≡ step s e → IsSound s → s.next_ticket ≤ now.next_ticket
tickets_monotone s now e reply notices fits is sound =
    subst (λ (o : Outcome). s.next_ticket ≤ o.0.next_ticket) (sym is)
    (keeps-step (processors s) s e fits (kept_from_sound s sound)).tickets_monotone

-- every event preserves soundness
pub sound : (s now : State) (e : Event) (reply : Reply) (notices : List Notice) → PayloadFits e
    → (now, reply, notices) ≡ step s e → IsSound s → IsSound now
sound s now e reply notices fits is before =
    let k = keeps-step (processors s) s e fits (kept_from_sound s before) in
    subst (λ (o : Outcome). IsSound o.0) (sym is)
    (sound_from_kept (processors s) (step s e).0 k.kept
    (tickets-conserved s (step s e).0 (step s e).2 k.tickets_monotone k.conserves before.tickets))

-- an occupied slot is left unchanged, and one that holds a ticket is occupied
pub slot-left : (s : State) (e : Event) (p i : ℕ) → IsSound s → PayloadFits e → IsApart p e → p < processors s
    → i < 16 → is_slot_empty s p i ≡ false → LeavesSlot s (step s e).0 p i
unfolding step
slot-left s e p i sound fits apart below under full = by e fits apart
  where
    left : (e : Event) → LeavesAll e → PayloadFits e → LeavesSlot s (step s e).0 p i
    left e other fits =
        (keeps-other (processors s) s e other fits (kept_from_sound s sound)).leaves p i below under full

    by : (e : Event) → PayloadFits e → IsApart p e → LeavesSlot s (step s e).0 p i
    by (Store address bytes) fits apart = absurd apart
    by (Reset q) fits apart =
        either (λ (o : Outcome). LeavesSlot s o.0 p i) (nat_lt q (processors s)) (reset s q)
        (unchanged s (Refused NoSuchProcessor))
        (λ _. leaves-reset s q p i (λ e. apart (sym e)) under) (λ _. leaves-page s s p i refl refl)
    by e fits apart = left e tt fits

pub ticket-left : (s : State) (e : Event) (p i ticket : ℕ) → IsSound s → PayloadFits e → IsApart p e
    → p < processors s → i < 16 → slot_of s p i ≡ Some ticket → LeavesSlot s (step s e).0 p i
ticket-left s e p i ticket sound fits other below under held =
    slot-left s e p i sound fits other below under (by (is_slot_empty s p i) refl)
  where
    by : (b : Bool) → is_slot_empty s p i ≡ b → b ≡ false
    by false is = refl
    by true is =
        let free : slot_of s p i ≡ None =
        sound.empty p i below under (grind (arith, nat_tests)) in let no : None ≡ Some ticket =
        sym free ∙ held in absurd (cc)
