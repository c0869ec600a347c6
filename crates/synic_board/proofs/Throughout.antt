-- Induction over the machine: a property of each part of the effects holds for every effect, and a property of each
-- kind of outcome holds for every event.
use Rattle.std.proofs.Common.{◌≡◌, ℕ, zero, suc, ◌+◌, ◌*◌, ◌/◌, ◌%◌, ◌^◌, ◌<◌, ◌&&◌, List, [], ◌∷◌, length, refl, sym, ap, ◌∙◌, nat_lt, nat_le, not, Bool, true, false, cond, Result, Ok, Err}
use Rattle.std.specs.Prelude.{Option, None, Some, ◌==◌, if◌then◌else◌}
use Rattle.std.specs.Option.{option_map_or}
use Rattle.std.specs.FinSet as set
use Rattle.std.specs.Int.{bit_at}
use Rattle.std.specs.FinSet.{contains-remove}
use Rattle.std.proofs.lemmas.Bool.Decides.{Decides-ltb}
use Rattle.std.proofs.lemmas.Cmp.{nat_cmp_total}
use Rattle.arrayvec.specs.ArrayVec.{ArrayVec}
use Rattle.lapic_core.specs.Vectors.{Vectors, greatest}
use Rattle.lapic_core.specs.Apic.{Apic, request, next, with_task_priority, after_end, end_vector, take_vector}
use Rattle.board_terms.specs.declared.messages.Message.{Message}
use Rattle.board_terms.specs.declared.messages.Message.TheVariants.{FromPort, FromTimer}
use Rattle.board_terms.specs.Messages.{ticket_of}
use Rattle.board_terms.specs.declared.notices.Notice.TheVariants.{Consumed, Requested}
use Rattle.board_terms.specs.declared.pages.Owner.{Owner}
use Rattle.board_terms.specs.declared.pages.Owner.TheVariants.{Guest, Sim, Sief, Nothing}
use Rattle.board_terms.specs.declared.refusal.Refusal.{Refusal}
use Rattle.board_terms.specs.declared.refusal.Refusal.TheVariants.{BadTarget, SynicOff, ClockBack, NoSuchProcessor, AlreadySuspended, NotSuspended}
use Rattle.event_ports.specs.declared.ports.Port.{Port}
use Rattle.event_ports.specs.Ports.{open_refusal, target_of, message_target_of, flag_place_of}
use Rattle.synic_regs.specs.Registers.{register_of}
use Rattle.synic_regs.specs.Regs.{Regs, raised_by, has, enable, is_refused, with_value, auto_vectors}
use Rattle.synic_regs.specs.declared.register.Register.{Register}
use Rattle.synic_regs.specs.declared.register.Register.TheVariants.{ReferenceCounter, Eoi, Tpr, Control, Version, Sief as SiefRegister, Sim as SimRegister, Eom, Source, TimerConfig, TimerCount}
use Rattle.message_queues.specs.Queues.{queue_of}
use Rattle.gpa_space.specs.Space.{refusal_of, owner_of, is_flag_set}
use Rattle.stimer_bank.specs.declared.timer.Mode.{Mode}
use Rattle.stimer_bank.specs.declared.timer.Mode.TheVariants.{Direct, Posted}
use Rattle.stimer_bank.specs.Timer.{is_due}
use Rattle.stimer_bank.specs.Bank.{timer_in, is_due_in, with_config, with_count, dues, due_list}
use Rattle.stimer_bank.proofs.Shown.{due-reached}
use Rattle.synic_board.specs.declared.event.Event.{Event}
use Rattle.synic_board.specs.declared.event.Event.TheVariants.{OpenPort, ClosePort, Write, Read, Post, Signal, Assert, Absorb, Store, Load, Tick, Take, Suspend, Resume, Reset, Send}
use Rattle.synic_board.specs.declared.event.Reply.{Reply}
use Rattle.synic_board.specs.declared.event.Reply.TheVariants as replies
use Rattle.synic_board.specs.State.{State, processors, apic_of, regs_of, space_of, ports_of, bank_of, with_apic, with_regs, with_bank, slot_of, with_slot_ticket}
use Rattle.synic_board.specs.Effects.{Effect, Outcome, nothing, after, at_processor, answered, unchanged, refused}
use Rattle.synic_board.specs.Interrupts.{is_requested, requested, raised, taken_at, taken}
use Rattle.synic_board.specs.Absorbing.{is_posted, absorbed, absorbed_bit, absorbed_below}
use Rattle.synic_board.specs.Delivery.{delivers, is_slot_empty, placed_state, placed_notices, placed_head, placed, marked, tried, tried_below, accepted, delivered}
use Rattle.synic_board.specs.Posts.{with_port, without_port, withdrawn, closed_at, post_refusal, posted_at, with_flag, flagged, signalled_place, signalled_at}
use Rattle.synic_board.specs.Registers.{stored, written_register, written, read}
use Rattle.synic_board.specs.Stores.{consumed_ticket, consumed, consumed_below, consumed_in, with_bytes, read_bytes}
use Rattle.synic_board.specs.Timers.{mode_at, is_ready_for, is_ready, expiry_notices, signalled_by, expired_state, expiry_at, fired, attempted, attempted_until, most_expiries, at_moment, ticked}
use Rattle.synic_board.specs.Suspending.{is_suspended, with_suspension, suspended, resumed}
use Rattle.synic_board.specs.Resetting.{withdrawn_ticket, slot_emptied, queue_emptied, source_emptied, emptied_below, emptied, reset}
use Rattle.synic_board.specs.Sending.{sent_to, sent_below}
use Rattle.synic_board.specs.Replies.{IsReply, IsRefusal}
use Rattle.synic_board.specs.Step.{step}
use Rattle.synic_board.proofs.keeping.Requests.{either}

-- the parts of an effect: a vector is requested, and a timer expires
abbrev pub request_made : State → ℕ → ℕ → Effect
request_made s p v = (with_apic s p (request (apic_of s p) v), Requested p v ∷ [])

abbrev pub expiry_made : State → ℕ × ℕ → Effect
expiry_made s t = (expired_state s t, expiry_notices t (expiry_at s t).signal (expiry_at s t).skipped)

-- a head is placed, and a ticket is consumed
abbrev pub placement : State → ℕ → ℕ → Message → List Message → Effect
placement s p i m rest = (placed_state s p i m rest, placed_notices (ticket_of m) p i (nat_lt 0 (length rest)))

abbrev pub consumption : State → ℕ → ℕ → ℕ → Effect
consumption s p i t = (with_slot_ticket s p i None, Consumed p i t ∷ [])

-- a property that holds of each part, and of one effect after another
pub record OfEffects (P : State → Effect → Type 0) : Type 0 where
  pub stays : (s : State) → P s (nothing s)
  pub joins : (s : State) (e f : Effect) → P s e → P e.0 f → P s (after e f)
  pub requests : (s : State) (p v : ℕ) → is_requested s p v ≡ false → P s (request_made s p v)
  pub accepts : (s : State) (p i : ℕ) (m : Message) → P s (accepted s p i m)
  pub locations : (s : State) (p i : ℕ) (m : Message) (rest : List Message) → queue_of s.queues p i ≡ m ∷ rest
      → is_slot_empty s p i ≡ true → P s (placement s p i m rest)
  pub marks : (s : State) (p i : ℕ) → P s (marked s p i)
  pub consumes : (s : State) (p i t : ℕ) → is_slot_empty s p i ≡ true → P s (consumption s p i t)
  pub withdraws : (s : State) (p i port : ℕ) → P s (withdrawn s p i port)
  pub frees : (s : State) (p i t : ℕ) → P s (withdrawn_ticket s p i t)
  pub empties : (s : State) (p i : ℕ) → P s (queue_emptied s p i)
  pub expires : (s : State) (t : ℕ × ℕ) → is_due (timer_in (bank_of s) t) s.moment ≡ true → P s (expiry_made s t)

-- one that holds of every effect
abbrev pub Any : State → Effect → Type 0
Any s e = Unit {0}

pub any : OfEffects Any
any = record {
  stays = λ s. tt;
  joins = λ s e f _ _. tt;
  requests = λ s p v _. tt;
  accepts = λ s p i m. tt;
  locations = λ s p i m rest _ _. tt;
  marks = λ s p i. tt;
  consumes = λ s p i t _. tt;
  withdraws = λ s p i port. tt;
  frees = λ s p i t. tt;
  empties = λ s p i. tt;
  expires = λ s t _. tt;
}

of-requested : (P : State → Effect → Type 0) → OfEffects P → (s : State) (p v : ℕ) → P s (requested s p v)
of-requested P h s p v =
    either (P s) (is_requested s p v) (nothing s) (request_made s p v) (λ _. h.stays s)
    (λ clear. h.requests s p v clear)

of-raised : (P : State → Effect → Type 0) → OfEffects P → (s : State) (p i : ℕ) → P s (raised s p i)
of-raised P h s p i =
    elim (raised_by (regs_of s p) i) as
    (λ o. P s (option_map_or (requested s p) o (nothing s))) [ None ↦ h.stays s | Some v ↦ of-requested P h s p v ]

pub of-tried : (P : State → Effect → Type 0) → OfEffects P → (s : State) (p i : ℕ) → P s (tried s p i)
unfolding tried
of-tried P h s p i =
    either (P s) (delivers s p && nat_lt 0 (length (queue_of s.queues p i)))
    (cond (is_slot_empty s p i) (after (placed s p i) (raised (placed s p i).0 p i)) (marked s p i)) (nothing s)
    (λ _. either (P s) (is_slot_empty s p i) (after (placed s p i) (raised (placed s p i).0 p i)) (marked s p i)
    (λ empty. h.joins s (placed s p i) (raised (placed s p i).0 p i) (head empty (queue_of s.queues p i) refl)
    (of-raised P h (placed s p i).0 p i))
    (λ _. h.marks s p i))
    (λ _. h.stays s)
  where
    head : is_slot_empty s p i ≡ true → (q : List Message) → queue_of s.queues p i ≡ q → P s (placed_head s p i q)
    head empty [] is = h.stays s
    head empty (m ∷ rest) is = h.locations s p i m rest is empty

of-tried_below : (P : State → Effect → Type 0) → OfEffects P → (s : State) (p n : ℕ) → P s (tried_below s p n)
unfolding tried_below
of-tried_below P h s p zero = h.stays s
of-tried_below P h s p (suc i) =
    let e : Effect = tried_below s p i in h.joins s e (tried e.0 p i) (of-tried_below P h s p i) (of-tried P h e.0 p i)

of-delivered : (P : State → Effect → Type 0) → OfEffects P → (s : State) (p i : ℕ) (m : Message)
    → P s (delivered s p i m)
of-delivered P h s p i m =
    let now : State =
    (accepted s p i m).0 in h.joins s (accepted s p i m) (tried now p i) (h.accepts s p i m) (of-tried P h now p i)

of-absorbed_below : (P : State → Effect → Type 0) → OfEffects P → (s : State) (p part bits n : ℕ)
    → P s (absorbed_below s p part bits n)
unfolding absorbed_below
of-absorbed_below P h s p part bits zero = h.stays s
of-absorbed_below P h s p part bits (suc i) =
    let e : Effect = absorbed_below s p part bits i in
    h.joins s e (absorbed_bit e.0 p part bits i) (of-absorbed_below P h s p part bits i)
    (either (P e.0) (is_posted part bits i) (requested e.0 p (64 * part + i)) (nothing e.0)
    (λ _. of-requested P h e.0 p (64 * part + i)) (λ _. h.stays e.0))

of-sent_below : (P : State → Effect → Type 0) → OfEffects P → (s : State) (v mask n : ℕ) → P s (sent_below s v mask n)
unfolding sent_below
of-sent_below P h s v mask zero = h.stays s
of-sent_below P h s v mask (suc p) =
    let e : Effect = sent_below s v mask p in
    h.joins s e (sent_to e.0 v mask p) (of-sent_below P h s v mask p)
    (either (P e.0) (bit_at mask p == 1) (requested e.0 p v) (nothing e.0) (λ _. of-requested P h e.0 p v)
    (λ _. h.stays e.0))

of-consumed : (P : State → Effect → Type 0) → OfEffects P → (s : State) (p i : ℕ) → P s (consumed s p i)
unfolding consumed
of-consumed P h s p i =
    either (P s) (is_slot_empty s p i) (consumed_ticket s p i (slot_of s p i)) (nothing s)
    (λ empty. held empty (slot_of s p i)) (λ _. h.stays s)
  where
    held : is_slot_empty s p i ≡ true → (o : Option ℕ) → P s (consumed_ticket s p i o)
    held empty None = h.stays s
    held empty (Some t) = h.consumes s p i t empty

of-consumed_below : (P : State → Effect → Type 0) → OfEffects P → (s : State) (p n : ℕ) → P s (consumed_below s p n)
unfolding consumed_below
of-consumed_below P h s p zero = h.stays s
of-consumed_below P h s p (suc i) =
    let e : Effect =
    consumed_below s p i in h.joins s e (consumed e.0 p i) (of-consumed_below P h s p i) (of-consumed P h e.0 p i)

of-consumed_in : (P : State → Effect → Type 0) → OfEffects P → (s : State) (owner : Owner) → P s (consumed_in s owner)
of-consumed_in P h s Guest = h.stays s
of-consumed_in P h s (Sim p) = of-consumed_below P h s p 16
of-consumed_in P h s (Sief p) = h.stays s
of-consumed_in P h s Nothing = h.stays s

of-signalled : (P : State → Effect → Type 0) → OfEffects P → (s : State) (t : ℕ × ℕ) (mode : Mode) (o : Option ℕ)
    → P s (signalled_by s t mode o)
of-signalled P h s t mode None = h.stays s
of-signalled P h s t (Direct v) (Some d) = of-requested P h s t.0 v
of-signalled P h s t (Posted i) (Some d) = of-delivered P h s t.0 i (FromTimer s.next_ticket t d)

first-holds : (a b : Bool) → (a && b) ≡ true → a ≡ true
first-holds true b h = refl
first-holds false b h = h

second-holds : (a b : Bool) → (not a && b) ≡ true → b ≡ true
second-holds true b h = absurd (cc)
second-holds false b h = h

of-attempted : (P : State → Effect → Type 0) → OfEffects P → (s : State) (t : ℕ × ℕ) → P s (attempted s t)
unfolding attempted
of-attempted P h s t = either (P s) (is_ready s t) (fired s t (mode_at s t)) (nothing s)
    (λ ready. h.joins s (expiry_made s t) (signalled_by (expired_state s t) t (mode_at s t) (expiry_at s t).signal)
    (h.expires s t (due-reached (bank_of s) t s.moment
    (first-holds (is_due_in (bank_of s) t s.moment) (is_ready_for s t (mode_at s t)) ready)))
    (of-signalled P h (expired_state s t) t (mode_at s t) (expiry_at s t).signal))
    (λ _. h.stays s)

of-attempted_until : (P : State → Effect → Type 0) → OfEffects P → (n : ℕ) (s : State) (ts : List (ℕ × ℕ))
    → P s (attempted_until n s ts)
unfolding attempted_until
of-attempted_until P h zero s ts = h.stays s
of-attempted_until P h (suc n) s [] = h.stays s
of-attempted_until P h (suc n) s (t ∷ ts) =
    let e : Effect = attempted s t in
    let left = if is_ready s t then n else suc n in
    h.joins s e (attempted_until left e.0 ts) (of-attempted P h s t) (of-attempted_until P h left e.0 ts)

of-slot_emptied : (P : State → Effect → Type 0) → OfEffects P → (s : State) (p i : ℕ) → P s (slot_emptied s p i)
of-slot_emptied P h s p i =
    elim (slot_of s p i) as (λ o. P s (option_map_or (withdrawn_ticket s p i) o (nothing s))) [
      | None ↦
          h.stays s
      | Some t ↦ h.frees s p i t
    ]

of-emptied_below : (P : State → Effect → Type 0) → OfEffects P → (s : State) (p n : ℕ) → P s (emptied_below s p n)
unfolding emptied_below
of-emptied_below P h s p zero = h.stays s
of-emptied_below P h s p (suc i) =
    let e : Effect = emptied_below s p i in
    let freed : Effect = slot_emptied e.0 p i in
    h.joins s e (source_emptied e.0 p i) (of-emptied_below P h s p i)
    (h.joins e.0 freed (queue_emptied freed.0 p i) (of-slot_emptied P h e.0 p i) (h.empties freed.0 p i))

-- another moment, and other ports and registers
abbrev pub with_settings : State → ℕ → List (Option Port) → List Regs → State
with_settings s moment ports regs = record s { moment = moment; ports = ports; regs = regs }

-- an event that is no signal
abbrev pub IsNoSignal : Event → Type 0
IsNoSignal (Signal port flag) = ⊥
IsNoSignal event = Unit {0}

-- such an event is performed, with this reply
abbrev pub IsAnswer : Event → Reply → Type 0
IsAnswer event reply = (IsRefusal reply → ⊥) × IsReply reply × IsNoSignal event

-- a property that holds of each way to answer an event, where P holds of the effects
pub record OfAnswers (P : State → Effect → Type 0) (Q : State → Event → Outcome → Type 0) : Type 0 where
  pub refuses : (s : State) (event : Event) (r : Refusal) → Q s event (refused s r)
  pub faults : (s : State) (event : Event) → Q s event (unchanged s replies.GeneralProtection)
  pub reads : (s : State) (p number : ℕ) → Q s (Read p number) (unchanged s (read s p number))
  pub loads : (s : State) (address count : ℕ) → Q s (Load address count) (unchanged s (read_bytes s address count))
  pub acts : (s : State) (event : Event) (reply : Reply) (moment : ℕ) (ports : List (Option Port)) (regs : List Regs)
      (e : Effect) → IsAnswer event reply →
      P (with_settings s moment ports regs) e → Q s event (answered reply e)
  -- an APIC without new requests, and with the same suspension flag
  pub eases : (s : State) (event : Event) (reply : Reply) (p : ℕ) (a : Apic) → IsAnswer event reply →
      ((v : ℕ) → set.contains a.requested v ≡ true → is_requested s p v ≡ true) → a.suspended ≡ is_suspended s p
      → Q s event (unchanged (with_apic s p a) reply)
  pub stores : (s : State) (address : ℕ) (bytes : ArrayVec ℕ) (e : Effect) → P (with_bytes s address bytes.items) e
      → Q s (Store address bytes) (answered replies.Done e)
  pub configures : (s : State) (p n number value : ℕ) (e : Effect) → p < processors s
      → register_of number ≡ Some (TimerConfig n) →
      P (with_bank s (with_config (bank_of s) (p, n) value s.moment)) e
      → Q s (Write p number value) (answered replies.Done e)
  pub counts : (s : State) (p n number value : ℕ) (e : Effect) → p < processors s
      → register_of number ≡ Some (TimerCount n) →
      P (with_bank s (with_count (bank_of s) (p, n) value s.moment)) e
      → Q s (Write p number value) (answered replies.Done e)
  -- a signal finds its flag set, or clear
  pub repeats : (s : State) (port flag p i f : ℕ) → flag_place_of (ports_of s) port flag ≡ Ok (p, i, f)
      → is_flag_set (space_of s) p i f ≡ true →
      Q s (Signal port flag) (unchanged (with_flag s p i f) replies.FlagWasSet)
  pub signals : (s : State) (port flag p i f : ℕ) → flag_place_of (ports_of s) port flag ≡ Ok (p, i, f)
      → is_flag_set (space_of s) p i f ≡ false →
      P (with_flag s p i f) (raised (with_flag s p i f) p i)
      → Q s (Signal port flag)
      (answered replies.FlagWasClear (after (flagged s p i f) (raised (with_flag s p i f) p i)))
  -- a processor is suspended or resumed, and one is reset
  pub pauses : (s : State) (event : Event) (p : ℕ) (mark : Bool) → IsAnswer event replies.Done → p < processors s
      → Q s event (unchanged (with_suspension s p mark) replies.Done)
  pub resets : (s : State) (p : ℕ) → p < processors s → P s (emptied s p) → Q s (Reset p) (reset s p)

-- a property of an event's outcome in a state
on_board : (R : Outcome → Type 0) (s : State) (p : ℕ) (outcome : Outcome) → ((r : Refusal) → R (refused s r))
    → R outcome → R (at_processor s p outcome)
on_board R s p outcome refuses h =
    either R (nat_lt p (processors s)) outcome (refused s NoSuchProcessor) (λ _. h) (λ _. refuses NoSuchProcessor)

-- and where its place on the board is queried
at_place : (R : Outcome → Type 0) (s : State) (p : ℕ) (outcome : Outcome) → ((r : Refusal) → R (refused s r))
    → (p < processors s → R outcome) → R (at_processor s p outcome)
at_place R s p outcome refuses h =
    either R (nat_lt p (processors s)) outcome (refused s NoSuchProcessor)
    (λ is. h ((Decides-ltb p (processors s)).0 is)) (λ _. refuses NoSuchProcessor)

judged : (R : Outcome → Type 0) (s : State) (refusal : Option Refusal) (outcome : Outcome)
    → ((r : Refusal) → R (refused s r)) → R outcome → R (option_map_or (refused s) refusal outcome)
judged R s None outcome refuses h = h
judged R s (Some r) outcome refuses h = refuses r

of-stored : (P : State → Effect → Type 0) (Q : State → Event → Outcome → Type 0) → OfEffects P → OfAnswers P Q
    → (s : State) (p number : ℕ) (r : Register) (value : ℕ) →
    Q s (Write p number value) (stored s p r value)
of-stored P Q h k s p number r value =
    let regs : List Regs = (with_regs s p (with_value (regs_of s p) r value)).regs in
    either (Q s (Write p number value)) (is_refused r value) (unchanged s replies.GeneralProtection)
    (unchanged (with_regs s p (with_value (regs_of s p) r value)) replies.Done) (λ _. k.faults s (Write p number value))
    (λ _. k.acts s (Write p number value) replies.Done s.moment s.ports regs
    (nothing (with_settings s s.moment s.ports regs)) (λ never. never, tt, tt)
    (h.stays (with_settings s s.moment s.ports regs)))

-- with an effect from where the state is
of-effect : (P : State → Effect → Type 0) (Q : State → Event → Outcome → Type 0) → OfAnswers P Q
    → (s : State) (event : Event) (reply : Reply) (e : Effect) →
    IsAnswer event reply → P s e → Q s event (answered reply e)
of-effect P Q k s event reply e is h = k.acts s event reply s.moment s.ports s.regs e is h

same-ended : (a : Apic) → (after_end a).requested ≡ a.requested
same-ended a =
    elim (greatest a.in_service) as
    (λ o. (option_map_or (λ v. end_vector v a) o a).requested ≡ a.requested) [ None ↦ refl | Some v ↦ refl ]

same-mark : (a : Apic) → (after_end a).suspended ≡ a.suspended
same-mark a =
    elim (greatest a.in_service) as
    (λ o. (option_map_or (λ v. end_vector v a) o a).suspended ≡ a.suspended) [ None ↦ refl | Some v ↦ refl ]

of-written_register : (P : State → Effect → Type 0) (Q : State → Event → Outcome → Type 0) → OfEffects P
    → OfAnswers P Q →
    (s : State) (p number : ℕ) (r : Register) (value : ℕ) → p < processors s → register_of number ≡ Some r
    → Q s (Write p number value) (written_register s p r value)
of-written_register P Q h k s p number ReferenceCounter value on is = k.faults s _
of-written_register P Q h k s p number Eoi value on is =
    k.eases s (Write p number value) replies.Done p (after_end (apic_of s p)) (λ never. never, tt, tt)
    (λ v is. sym (ap (λ (r : Vectors). set.contains r v) (same-ended (apic_of s p))) ∙ is) (same-mark (apic_of s p))
of-written_register P Q h k s p number Tpr value on is =
    k.eases s (Write p number value) replies.Done p (with_task_priority (apic_of s p) (value % 256))
    (λ never. never, tt, tt) (λ v is. is) refl
of-written_register P Q h k s p number Control value on is = of-stored P Q h k s p number Control value
of-written_register P Q h k s p number Version value on is = k.faults s _
of-written_register P Q h k s p number SiefRegister value on is = of-stored P Q h k s p number SiefRegister value
of-written_register P Q h k s p number SimRegister value on is = of-stored P Q h k s p number SimRegister value
of-written_register P Q h k s p number Eom value on is =
    of-effect P Q k s (Write p number value) replies.Done (tried_below s p 16) (λ never. never, tt, tt)
    (of-tried_below P h s p 16)
of-written_register P Q h k s p number (Source n) value on is = of-stored P Q h k s p number (Source n) value
of-written_register P Q h k s p number (TimerConfig n) value on is = let now : State = with_bank s
    (with_config (bank_of s) (p, n) value s.moment) in
    k.configures s p n number value (attempted now (p, n)) on is (of-attempted P h now (p, n))
of-written_register P Q h k s p number (TimerCount n) value on is = let now : State = with_bank s
    (with_count (bank_of s) (p, n) value s.moment) in
    k.counts s p n number value (attempted now (p, n)) on is (of-attempted P h now (p, n))

of-written : (P : State → Effect → Type 0) (Q : State → Event → Outcome → Type 0) → OfEffects P → OfAnswers P Q
    → (s : State) (p number value : ℕ) → p < processors s →
    Q s (Write p number value) (written s p number value)
of-written P Q h k s p number value on = by (register_of number) refl
  where
    by : (r : Option Register) → register_of number ≡ r
        → Q s (Write p number value)
        (option_map_or (λ r. written_register s p r value) r (unchanged s replies.GeneralProtection))
    by None is = k.faults s _
    by (Some r) is = of-written_register P Q h k s p number r value on is

of-place : (P : State → Effect → Type 0) (Q : State → Event → Outcome → Type 0) → OfEffects P → OfAnswers P Q
    → (s : State) (port flag : ℕ) (place : ℕ × ℕ × ℕ) →
    flag_place_of (ports_of s) port flag ≡ Ok place → Q s (Signal port flag) (signalled_place s place)
of-place P Q h k s port flag (p, i, f) is =
    let lit : State = with_flag s p i f in
    let found : Outcome = unchanged lit replies.FlagWasSet in
    let sets : Outcome = answered replies.FlagWasClear (after (flagged s p i f) (raised lit p i)) in
    either (Q s (Signal port flag)) (not (has (regs_of s p).control enable && has (regs_of s p).sief enable))
    (refused s SynicOff)
    (cond (is_flag_set (space_of s) p i f) found sets) (λ _. k.refuses s _ SynicOff)
    (λ _. either (Q s (Signal port flag)) (is_flag_set (space_of s) p i f) found sets
    (λ lit_already. k.repeats s port flag p i f is lit_already)
    (λ clear. k.signals s port flag p i f is clear (of-raised P h lit p i)))

same-taken : (s : State) (p v : ℕ) → (taken_at s p v).suspended ≡ is_suspended s p
same-taken s p v = by (set.contains (auto_vectors (regs_of s p)) v)
  where
    by : (auto : Bool) → (take_vector auto v (apic_of s p)).suspended ≡ is_suspended s p
    by true = refl
    by false = refl

of-taken : (P : State → Effect → Type 0) (Q : State → Event → Outcome → Type 0) → OfEffects P → OfAnswers P Q
    → (s : State) (p : ℕ) → Q s (Take p) (taken s p)
of-taken P Q h k s p =
    elim (next (apic_of s p)) as
    (λ o. Q s (Take p) (option_map_or (λ v. with_apic s p (taken_at s p v)) o s, replies.Taken o, [])) [
      | None ↦ of-effect P Q k s (Take p) (replies.Taken None) (nothing s) (λ never. never, tt, tt) (h.stays s)
      | Some v ↦ k.eases s (Take p) (replies.Taken (Some v)) p (taken_at s p v) (λ never. never, tt, tt)
          (λ w is. second-holds _ (is_requested s p w)
          (sym (contains-remove nat_cmp_total (apic_of s p).requested v w) ∙ is)) (same-taken s p v)
    ]

of-ticked : (P : State → Effect → Type 0) (Q : State → Event → Outcome → Type 0) → OfEffects P → OfAnswers P Q
    → (s : State) (moment : ℕ) → Q s (Tick moment) (ticked s moment)
of-ticked P Q h k s moment =
    let later : State = at_moment s moment in
    let all : Effect = attempted_until most_expiries later (due_list (dues (bank_of s)) moment) in
    let rest : Outcome = unchanged s replies.Done in
    either (Q s (Tick moment)) (nat_lt moment s.moment) (refused s ClockBack)
    (cond (moment == s.moment) rest (answered replies.Done all)) (λ _. k.refuses s _ ClockBack)
    (λ _. either (Q s (Tick moment)) (moment == s.moment) rest (answered replies.Done all)
    (λ _. of-effect P Q k s (Tick moment) replies.Done (nothing s) (λ never. never, tt, tt) (h.stays s))
    (λ _. k.acts s (Tick moment) replies.Done moment s.ports s.regs all (λ never. never, tt, tt)
    (of-attempted_until P h most_expiries later (due_list (dues (bank_of s)) moment))))

-- it holds of every event
pub throughout : (P : State → Effect → Type 0) (Q : State → Event → Outcome → Type 0) → OfEffects P → OfAnswers P Q
    → (s : State) (event : Event) → Q s event (step s event)
unfolding step
throughout P Q h k s (OpenPort port p i shape) =
    let now : State = with_port s port (record { vp = p; sint = i; shape = shape }) in
    judged (Q s (OpenPort port p i shape)) s (open_refusal (ports_of s) port p i shape) (unchanged now replies.Done)
    (k.refuses s _)
    (k.acts s (OpenPort port p i shape) replies.Done s.moment now.ports s.regs (nothing now) (λ never. never, tt, tt)
    (h.stays now))
throughout P Q h k s (ClosePort port) = by (target_of (ports_of s) port)
  where
    by : (target : Result Port Refusal) → Q s (ClosePort port) (closed_at s port target)
    by (Ok p) = let now : State = without_port s port in
        k.acts s (ClosePort port) replies.Done s.moment now.ports s.regs (withdrawn now p.vp p.sint port)
        (λ never. never, tt, tt) (h.withdraws now p.vp p.sint port)
    by (Err r) = k.refuses s _ r
throughout P Q h k s (Write p number value) =
    at_place (Q s (Write p number value)) s p (written s p number value) (k.refuses s _)
    (λ on. of-written P Q h k s p number value on)
throughout P Q h k s (Read p number) =
    on_board (Q s (Read p number)) s p (unchanged s (read s p number)) (k.refuses s _) (k.reads s p number)
throughout P Q h k s (Post port kind payload) = by (message_target_of (ports_of s) port kind)
  where
    by : (target : Result Port Refusal) → Q s (Post port kind payload) (posted_at s port kind payload target)
    by (Ok p) =
        let e : Effect = delivered s p.vp p.sint (FromPort s.next_ticket port kind payload) in
        judged (Q s (Post port kind payload)) s (post_refusal s port p.vp p.shape)
        (answered (replies.Accepted s.next_ticket) e) (k.refuses s _)
        (of-effect P Q k s (Post port kind payload) (replies.Accepted s.next_ticket) e (λ never. never, tt, tt)
        (of-delivered P h s p.vp p.sint (FromPort s.next_ticket port kind payload)))
    by (Err r) = k.refuses s _ r
throughout P Q h k s (Signal port flag) = by (flag_place_of (ports_of s) port flag) refl
  where
    by : (target : Result (ℕ × ℕ × ℕ) Refusal) → flag_place_of (ports_of s) port flag ≡ target
        → Q s (Signal port flag) (signalled_at s target)
    by (Ok place) is = of-place P Q h k s port flag place is
    by (Err r) is = k.refuses s _ r
throughout P Q h k s (Assert p v) =
    on_board (Q s (Assert p v)) s p (answered replies.Done (requested s p v)) (k.refuses s _)
    (of-effect P Q k s (Assert p v) replies.Done (requested s p v) (λ never. never, tt, tt) (of-requested P h s p v))
throughout P Q h k s (Absorb p part bits) =
    on_board (Q s (Absorb p part bits)) s p (absorbed s p part bits) (k.refuses s _)
    (either (Q s (Absorb p part bits)) (nat_le part 3) (answered replies.Done (absorbed_below s p part bits 64))
    (refused s BadTarget)
    (λ _. of-effect P Q k s (Absorb p part bits) replies.Done (absorbed_below s p part bits 64)
    (λ never. never, tt, tt) (of-absorbed_below P h s p part bits 64)) (λ _. k.refuses s _ BadTarget))
throughout P Q h k s (Store address bytes) =
    let now : State = with_bytes s address bytes.items in
    let owner : Owner = owner_of (space_of s) (address / 4096) in
    judged (Q s (Store address bytes)) s (refusal_of (space_of s) address (length bytes.items))
    (answered replies.Done (consumed_in now owner)) (k.refuses s _)
    (k.stores s address bytes (consumed_in now owner) (of-consumed_in P h now owner))
throughout P Q h k s (Load address count) = k.loads s address count
throughout P Q h k s (Tick moment) = of-ticked P Q h k s moment
throughout P Q h k s (Take p) = on_board (Q s (Take p)) s p (taken s p) (k.refuses s _) (of-taken P Q h k s p)
throughout P Q h k s (Suspend p) = at_place (Q s (Suspend p)) s p (suspended s p) (k.refuses s _)
    (λ on. either (Q s (Suspend p)) (is_suspended s p) (refused s AlreadySuspended)
    (unchanged (with_suspension s p true) replies.Done)
    (λ _. k.refuses s _ AlreadySuspended) (λ _. k.pauses s (Suspend p) p true (λ never. never, tt, tt) on))
throughout P Q h k s (Resume p) = at_place (Q s (Resume p)) s p (resumed s p) (k.refuses s _)
    (λ on. either (Q s (Resume p)) (is_suspended s p) (unchanged (with_suspension s p false) replies.Done)
    (refused s NotSuspended)
    (λ _. k.pauses s (Resume p) p false (λ never. never, tt, tt) on) (λ _. k.refuses s _ NotSuspended))
throughout P Q h k s (Reset p) =
    at_place (Q s (Reset p)) s p (reset s p) (k.refuses s _) (λ on. k.resets s p on (of-emptied_below P h s p 16))
throughout P Q h k s (Send v mask) =
    either (Q s (Send v mask)) (nat_lt mask (2 ^ processors s)) (answered replies.Done (sent_below s v mask 64))
    (refused s NoSuchProcessor)
    (λ _. of-effect P Q k s (Send v mask) replies.Done (sent_below s v mask 64) (λ never. never, tt, tt)
    (of-sent_below P h s v mask 64)) (λ _. k.refuses s _ NoSuchProcessor)
