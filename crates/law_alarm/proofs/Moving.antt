-- What leaves the alarm where it is.
use Rattle.std.proofs.Common.{◌≡◌, ◌≢◌, ◌⊎◌, inl, inr, ℕ, zero, suc, ◌+◌, ◌*◌, ◌/◌, ◌^◌, ◌<◌, ◌≤◌, ◌==◌, ◌&&◌, ◌||◌, Bool, true, false, not, cond, nat_lt, nat_le, List, [], ◌∷◌, ◌++◌, length, map, Option, None, Some, Result, Ok, Err, set, get_or, refl, sym, ap, ◌∙◌, arith}
use Rattle.std.specs.Prelude.{if◌then◌else◌, sum_by, count_by}
use Rattle.std.specs.List.{range_with_len, list_any}
use Rattle.std.specs.Option.{option_map, option_map_or}
use Rattle.std.specs.Int.{bit_at}
use Rattle.std.proofs.lemmas.Bool.{cases_eq, cases_lt}
use Rattle.std.proofs.lemmas.Bool.Decides.{nat_tests}
use Rattle.std.proofs.lemmas.List.{get_or-set_same, get_or-set_other, set_past}
use Rattle.std.proofs.lemmas.List.Sums.{sum_by-set, sum_by-cons}
use Rattle.arrayvec.specs.ArrayVec.{ArrayVec}
use Rattle.board_terms.specs.Dues.{timer_of, least}
use Rattle.board_terms.specs.Sources.{source_number}
use Rattle.board_terms.specs.declared.messages.Message.{Message}
use Rattle.board_terms.specs.declared.messages.Message.TheVariants.{FromPort, FromTimer}
use Rattle.board_terms.specs.declared.pages.Owner.{Owner}
use Rattle.board_terms.specs.declared.pages.Owner.TheVariants as owners
use Rattle.board_terms.specs.declared.refusal.Refusal.{Refusal}
use Rattle.board_terms.specs.declared.refusal.Refusal.TheVariants.{SynicOff, ClockBack, NoSuchProcessor, BadTarget, BadType, UnknownPort}
use Rattle.board_terms.specs.declared.messages.PortShape.{PortShape}
use Rattle.board_terms.specs.declared.messages.PortShape.TheVariants.{Messages, Flags}
use Rattle.event_ports.specs.declared.ports.Port.{Port}
use Rattle.event_ports.specs.Ports.{open_refusal, target_of, is_posted_type, message_target_at, flag_place_of, port_at}
use Rattle.gpa_space.specs.Space.{owner_of, refusal_of, is_flag_set}
use Rattle.lapic_core.specs.Apic.{next}
use Rattle.message_queues.specs.Queues.{Queues, is_from_port, is_from_timer, is_timer_free, queue_of, left_of}
use Rattle.stimer_bank.specs.declared.timer.Timer.{Timer}
use Rattle.stimer_bank.specs.declared.timer.Mode.{Mode}
use Rattle.stimer_bank.specs.declared.timer.Mode.TheVariants.{Direct, Posted}
use Rattle.stimer_bank.specs.Timer.{mode_of}
use Rattle.stimer_bank.specs.Bank.{active_due, timer_in}
use Rattle.synic_regs.specs.Regs.{Regs, raised_by, has, enable, is_refused, with_value, reset_regs}
use Rattle.synic_regs.specs.Registers.{register_of}
use Rattle.synic_regs.specs.declared.register.Register.{Register}
use Rattle.synic_regs.specs.declared.register.Register.TheVariants as register
use Rattle.synic_board.specs.declared.event.Event.{Event}
use Rattle.synic_board.specs.declared.event.Event.TheVariants.{OpenPort, ClosePort, Write, Read, Post, Signal, Assert, Absorb, Store, Load, Tick, Take, Suspend, Resume, Reset, Send}
use Rattle.synic_board.specs.declared.event.Reply.TheVariants as replies
use Rattle.synic_board.specs.State.{State, processors, apic_of, regs_of, space_of, bank_of, ports_of, slot_of, with_apic, with_regs}
use Rattle.synic_board.specs.Effects.{Effect, Outcome, nothing, after, answered, unchanged, refused, at_processor}
use Rattle.synic_board.specs.Interrupts.{is_requested, requested, raised, taken_at, taken}
use Rattle.synic_board.specs.Absorbing.{is_posted, absorbed, absorbed_below}
use Rattle.synic_board.specs.Delivery.{delivers, is_slot_empty, placed_head, placed, marked, tried, tried_below, accepted, delivered}
use Rattle.synic_board.specs.Posts.{are_tickets_left, with_port, closed_at, closed, post_refusal, posted_at, posted, with_flag, flagged, signalled_at, signalled}
use Rattle.synic_board.specs.Registers.{stored, written_register, written}
use Rattle.synic_board.specs.Sending.{sent_below, sent}
use Rattle.synic_board.specs.Stores.{consumed_ticket, consumed, consumed_below, consumed_in, with_bytes, stored_bytes}
use Rattle.synic_board.specs.Timers.{mode_at, is_ready_for, at_moment, ticked}
use Rattle.synic_board.specs.Step.{step}
use Rattle.synic_board.proofs.keeping.Requests.{either}
use Rattle.synic_board.specs.Alarm.{ready_due, ready_dues, alarm_after, alarm}
use Rattle.law_alarm.specs.Alarm.{is_alarm_by, is_of_any_timer, holds_timer, holds_timer_at, is_last_ticket, holds_timer_below, differs, moves_by_register, may_move}
use Rattle.law_alarm.proofs.Alarms.{quiet}

-- what the alarm depends on
pub record Alike (s now : State) : Type 0 where
  pub moment : now.moment ≡ s.moment
  pub timers : now.timers ≡ s.timers
  pub suspended : now.suspended ≡ s.suspended
  pub control : (p : ℕ) → has (regs_of now p).control enable ≡ has (regs_of s p).control enable
  pub free : (t : ℕ × ℕ) → is_timer_free now.queues t ≡ is_timer_free s.queues t
  pub tickets : are_tickets_left now ≡ are_tickets_left s

-- a timer of a mode could expire
abbrev could : Bool → Bool → Bool → Mode → Bool
could on free left (Direct v) = true
could on free left (Posted i) = on && free && left

ready-by : (s : State) (t : ℕ × ℕ) (mode : Mode)
    → is_ready_for s t mode
    ≡ could (has (regs_of s t.0).control enable) (is_timer_free s.queues t) (are_tickets_left s) mode
ready-by s t (Direct v) = refl
ready-by s t (Posted i) = refl

module _ (s now : State) (same : Alike s now) where
  same-bank : bank_of now ≡ bank_of s
  same-bank = λ i. record { timers = same.timers i; suspended = same.suspended i }

  same-mode : (t : ℕ × ℕ) (mode : Mode) → is_ready_for now t mode ≡ is_ready_for s t mode
  same-mode t mode =
      ready-by now t mode
      ∙ (λ i. could (same.control t.0 i) (same.free t i) (same.tickets i) mode)
      ∙ sym (ready-by s t mode)

  same-due : (n : ℕ) → ready_due now n ≡ ready_due s n
  same-due n =
      (λ i. if same-mode (timer_of n) (mode_at now (timer_of n)) i then active_due (bank_of now) n else None)
      ∙ ap (λ b. if is_ready_for s (timer_of n) (mode_of (timer_in b (timer_of n)).config) then active_due b n
      else None)
      same-bank

  same-dues : ready_dues now ≡ ready_dues s
  unfolding ready_dues
  same-dues =
      (λ i. map (λ n. same-due n i) (range_with_len 0 (length now.timers)))
      ∙ ap (λ (xs : List Timer). map (ready_due s) (range_with_len 0 (length xs))) same.timers

  pub same-alarm : alarm now ≡ alarm s
  same-alarm = λ i. option_map (λ r. alarm_after (same.moment i) r.0) (least (same-dues i))

-- a state with the same parts
abbrev Parts : Type 0
Parts = ℕ × ℕ × List Timer × List Bool × Queues × List Regs

abbrev all : State → Parts
all s = (s.moment, s.next_ticket, s.timers, s.suspended, s.queues, s.regs)

alike-all : (s now : State) → all now ≡ all s → Alike s now
alike-all s now e = record {
  moment = ap (λ (x : Parts). x.0) e;
  timers = ap (λ (x : Parts). x.2) e;
  suspended = ap (λ (x : Parts). x.3) e;
  control = λ p. ap (λ (x : Parts). has (get_or x.5 p reset_regs).control enable) e;
  free = λ t. ap (λ (x : Parts). is_timer_free x.4 t) e;
  tickets = ap (λ (x : Parts). nat_lt x.1 0xffffffffffffffff) e;
}

abbrev Leaves : State → Effect → Type 0
Leaves s e = all e.0 ≡ all s

abbrev LeavesIn : State → Outcome → Type 0
LeavesIn s o = all o.0 ≡ all s

same-requested : (s : State) (p v : ℕ) → Leaves s (requested s p v)
same-requested s p v = either (Leaves s) (is_requested s p v) _ _ (λ _. refl) (λ _. refl)

same-raised : (s : State) (p i : ℕ) → Leaves s (raised s p i)
same-raised s p i =
    elim (raised_by (regs_of s p) i) as
    (λ o. Leaves s (option_map_or (requested s p) o (nothing s))) [
      | None ↦ refl
      | Some v ↦ same-requested s p v
    ]

same-absorbed_below : (s : State) (p part bits n : ℕ) → Leaves s (absorbed_below s p part bits n)
unfolding absorbed_below
same-absorbed_below s p part bits zero = refl
same-absorbed_below s p part bits (suc i) =
    let now : State = (absorbed_below s p part bits i).0 in
    either (Leaves now) (is_posted part bits i) (requested now p (64 * part + i)) (nothing now)
    (λ _. same-requested now p (64 * part + i)) (λ _. refl) ∙ same-absorbed_below s p part bits i

same-sent_below : (s : State) (v mask n : ℕ) → Leaves s (sent_below s v mask n)
unfolding sent_below
same-sent_below s v mask zero = refl
same-sent_below s v mask (suc p) =
    let now : State = (sent_below s v mask p).0 in
    either (Leaves now) (bit_at mask p == 1) (requested now p v) (nothing now) (λ _. same-requested now p v)
    (λ _. refl) ∙ same-sent_below s v mask p

same-consumed : (s : State) (p i : ℕ) → Leaves s (consumed s p i)
unfolding consumed
same-consumed s p i =
    either (Leaves s) (is_slot_empty s p i) (consumed_ticket s p i (slot_of s p i)) (nothing s)
    (λ _. held (slot_of s p i)) (λ _. refl)
  where
    held : (o : Option ℕ) → Leaves s (consumed_ticket s p i o)
    held None = refl
    held (Some t) = refl

same-consumed_below : (s : State) (p n : ℕ) → Leaves s (consumed_below s p n)
unfolding consumed_below
same-consumed_below s p zero = refl
same-consumed_below s p (suc i) = same-consumed (consumed_below s p i).0 p i ∙ same-consumed_below s p i

same-consumed_in : (s : State) (owner : Owner) → Leaves s (consumed_in s owner)
same-consumed_in s owners.Guest = refl
same-consumed_in s (owners.Sim p) = same-consumed_below s p 16
same-consumed_in s (owners.Sief p) = refl
same-consumed_in s owners.Nothing = refl

-- outcomes
at : (s : State) (p : ℕ) (o : Outcome) → LeavesIn s o → LeavesIn s (at_processor s p o)
at s p o h = either (LeavesIn s) (nat_lt p (processors s)) o (refused s NoSuchProcessor) (λ _. h) (λ _. refl)

unless : (s : State) (refusal : Option Refusal) (o : Outcome) → LeavesIn s o
    → LeavesIn s (option_map_or (refused s) refusal o)
unless s None o h = h
unless s (Some r) o h = refl

same-absorbed : (s : State) (p part bits : ℕ) → LeavesIn s (absorbed s p part bits)
same-absorbed s p part bits =
    either (LeavesIn s) (nat_le part 3) (answered replies.Done (absorbed_below s p part bits 64))
    (refused s BadTarget) (λ _. same-absorbed_below s p part bits 64) (λ _. refl)

same-sent : (s : State) (v mask : ℕ) → LeavesIn s (sent s v mask)
same-sent s v mask =
    either (LeavesIn s) (nat_lt mask (2 ^ processors s)) (answered replies.Done (sent_below s v mask 64))
    (refused s NoSuchProcessor) (λ _. same-sent_below s v mask 64) (λ _. refl)

same-taken : (s : State) (p : ℕ) → LeavesIn s (taken s p)
same-taken s p =
    elim (next (apic_of s p)) as
    (λ o. LeavesIn s (option_map_or (λ v. with_apic s p (taken_at s p v)) o s, replies.Taken o, [])) [
      | None ↦ refl
      | Some v ↦ refl
    ]

same-signalled : (s : State) (port flag : ℕ) → LeavesIn s (signalled s port flag)
same-signalled s port flag = by (flag_place_of (ports_of s) port flag)
  where
    by : (r : Result (ℕ × ℕ × ℕ) Refusal) → LeavesIn s (signalled_at s r)
    by (Err r) = refl
    by (Ok (p, i, f)) =
        let lit : State = with_flag s p i f in
        let found : Outcome = unchanged lit replies.FlagWasSet in
        let sets : Outcome = answered replies.FlagWasClear (after (flagged s p i f) (raised lit p i)) in
        either (LeavesIn s) (not (has (regs_of s p).control enable && has (regs_of s p).sief enable))
        (refused s SynicOff) (cond (is_flag_set (space_of s) p i f) found sets) (λ _. refl)
        (λ _. either (LeavesIn s) (is_flag_set (space_of s) p i f) found sets (λ _. refl)
        (λ _. same-raised lit p i))

same-stored_bytes : (s : State) (address : ℕ) (bytes : List ℕ) → LeavesIn s (stored_bytes s address bytes)
same-stored_bytes s address bytes =
    let now : State = with_bytes s address bytes in
    let owner : Owner = owner_of (space_of s) (address / 4096) in
    unless s (refusal_of (space_of s) address (length bytes)) (answered replies.Done (consumed_in now owner))
    (same-consumed_in now owner)

alike-then : (s now next : State) → Alike s now → Alike now next → Alike s next
alike-then s now next a b = record {
  moment = b.moment ∙ a.moment;
  timers = b.timers ∙ a.timers;
  suspended = b.suspended ∙ a.suspended;
  control = λ p. b.control p ∙ a.control p;
  free = λ t. b.free t ∙ a.free t;
  tickets = b.tickets ∙ a.tickets;
}

abbrev AlikeIn : State → Outcome → Type 0
AlikeIn s o = Alike s o.0

alike-at : (s : State) (p : ℕ) (o : Outcome) → AlikeIn s o → AlikeIn s (at_processor s p o)
alike-at s p o h =
    either (AlikeIn s) (nat_lt p (processors s)) o (refused s NoSuchProcessor) (λ _. h) (λ _. alike-all s s refl)

-- registers that leave bit 0 of SCONTROL
abbrev is_on : Regs → Bool
is_on r = has r.control enable

control-kept : (s : State) (p : ℕ) (r : Regs) → is_on r ≡ is_on (regs_of s p) → (q : ℕ)
    → is_on (regs_of (with_regs s p r) q) ≡ is_on (regs_of s q)
control-kept s p r same q = by (cases_eq q p) (cases_lt p (length s.regs))
  where
    by : (q ≡ p) ⊎ (q ≢ p) → (p < length s.regs) ⊎ (length s.regs ≤ p)
        → is_on (regs_of (with_regs s p r) q) ≡ is_on (regs_of s q)
    by (inl here) (inl inside) =
        ap (λ k. is_on (get_or (set s.regs p r) k reset_regs)) here
        ∙ ap is_on (get_or-set_same s.regs p r reset_regs inside)
        ∙ same
        ∙ ap (λ k. is_on (regs_of s k)) (sym here)
    by (inl here) (inr past) = ap (λ xs. is_on (get_or xs q reset_regs)) (set_past s.regs p r past)
    by (inr other) _ = ap is_on (get_or-set_other s.regs p q r reset_regs other)

alike-regs : (s : State) (p : ℕ) (r : Regs) → is_on r ≡ is_on (regs_of s p) → Alike s (with_regs s p r)
alike-regs s p r same = record {
  moment = refl;
  timers = refl;
  suspended = refl;
  control = control-kept s p r same;
  free = λ t. refl;
  tickets = refl;
}

alike-stored : (s : State) (p : ℕ) (r : Register) (value : ℕ)
    → is_on (with_value (regs_of s p) r value) ≡ is_on (regs_of s p) → AlikeIn s (stored s p r value)
alike-stored s p r value same =
    either (AlikeIn s) (is_refused r value) (unchanged s replies.GeneralProtection)
    (unchanged (with_regs s p (with_value (regs_of s p) r value)) replies.Done) (λ _. alike-all s s refl)
    (λ _. alike-regs s p (with_value (regs_of s p) r value) same)

not-differs : (a b : Bool) → differs a b ≡ false → a ≡ b
not-differs true true e = refl
not-differs true false e = absurd (cc)
not-differs false true e = absurd (cc)
not-differs false false e = refl

-- a queue with as many messages of each timer
used-same : (f : Message → Bool) (qs : Queues) (j : ℕ) (q : List Message)
    → count_by f q ≡ count_by f (get_or qs j []) → sum_by (count_by f) (set qs j q) ≡ sum_by (count_by f) qs
used-same f qs j q same = by (cases_lt j (length qs))
  where
    by : (j < length qs) ⊎ (length qs ≤ j) → sum_by (count_by f) (set qs j q) ≡ sum_by (count_by f) qs
    by (inl inside) = omega (arith, same, sum_by-set (count_by f) qs j q [] inside)
    by (inr past) = ap (λ xs. sum_by (count_by f) xs) (set_past qs j q past)

free-same : (qs : Queues) (j : ℕ) (q : List Message)
    → ((t : ℕ × ℕ) → count_by (is_from_timer t) q ≡ count_by (is_from_timer t) (get_or qs j [])) → (t : ℕ × ℕ)
    → is_timer_free (set qs j q) t ≡ is_timer_free qs t
free-same qs j q same t = ap (λ n. n == 0) (used-same (is_from_timer t) qs j q (same t))

-- the messages of a port leave it
count-left : (t : ℕ × ℕ) (port : ℕ) (q : List Message)
    → count_by (is_from_timer t) (left_of port q) ≡ count_by (is_from_timer t) q
count-left t port [] = refl
count-left t port (FromTimer ticket u e ∷ q) =
    sum_by-cons (λ x. cond (is_from_timer t x) 1 0) (FromTimer ticket u e) (left_of port q)
    ∙ ap (λ n. cond (is_from_timer t (FromTimer ticket u e)) 1 0 + n) (count-left t port q)
    ∙ sym (sum_by-cons (λ x. cond (is_from_timer t x) 1 0) (FromTimer ticket u e) q)
count-left t port (FromPort ticket n kind payload ∷ q) =
    let m : Message = FromPort ticket n kind payload in
    let more : count_by (is_from_timer t) (left_of port q) ≡ count_by (is_from_timer t) q = count-left t port q in
    either (λ (xs : List Message). count_by (is_from_timer t) xs ≡ count_by (is_from_timer t) (m ∷ q))
    (not (is_from_port port m)) (m ∷ left_of port q) (left_of port q)
    (λ _. more) (λ _. more)

alike-closed : (s : State) (port : ℕ) → AlikeIn s (closed s port)
alike-closed s port = by (target_of (ports_of s) port)
  where
    by : (r : Result Port Refusal) → AlikeIn s (closed_at s port r)
    by (Err r) = alike-all s s refl
    by (Ok x) = record {
      moment = refl;
      timers = refl;
      suspended = refl;
      control = λ p. refl;
      free =
          free-same s.queues (source_number x.vp x.sint) (left_of port (queue_of s.queues x.vp x.sint))
          (λ t. count-left t port (queue_of s.queues x.vp x.sint));
      tickets = refl;
    }

-- a tick before the alarm
same-later : (s : State) (moment : ℕ) → s.moment < moment → is_alarm_by (alarm s) moment ≡ false
    → alarm (at_moment s moment) ≡ alarm s
unfolding ready_dues
same-later s moment later = by (least (ready_dues s))
  where
    after-same : (d : ℕ) → nat_le (alarm_after s.moment d) moment ≡ false
        → alarm_after moment d ≡ alarm_after s.moment d
    after-same d =
        either (λ (a : ℕ). nat_le a moment ≡ false → alarm_after moment d ≡ a) (nat_le d s.moment) (s.moment + 1) d
        (λ _ never. absurd (let no : nat_le (s.moment + 1) moment ≡ true = grind (arith, nat_tests) in
        let clash : true ≡ false = sym no ∙ never in cc))
        (λ _ never. ap (λ b. if b then moment + 1 else d) never)

    by : (o : Option (ℕ × (ℕ × ℕ)))
        → is_alarm_by (option_map (λ (r : ℕ × (ℕ × ℕ)). alarm_after s.moment r.0) o) moment ≡ false
        → option_map (λ (r : ℕ × (ℕ × ℕ)). alarm_after moment r.0) o
        ≡ option_map (λ (r : ℕ × (ℕ × ℕ)). alarm_after s.moment r.0) o
    by None never = refl
    by (Some r) never = ap Some (after-same r.0 never)

pub waits : (s : State) (moment : ℕ) → s.moment < moment → is_alarm_by (alarm s) moment ≡ false
    → alarm (step s (Tick moment)).0 ≡ alarm s
waits s moment later never =
    ap (λ (o : Outcome). alarm o.0) (quiet s moment later never) ∙ same-later s moment later never

same-ticked : (s : State) (moment : ℕ) → (nat_lt s.moment moment && is_alarm_by (alarm s) moment) ≡ false
    → alarm (step s (Tick moment)).0 ≡ alarm s
unfolding step
same-ticked s moment = by (cases_lt s.moment moment)
  where
    by : (s.moment < moment) ⊎ (moment ≤ s.moment) → (nat_lt s.moment moment && is_alarm_by (alarm s) moment) ≡ false
        → alarm (ticked s moment).0 ≡ alarm s
    by (inl later) never =
        let on : nat_lt s.moment moment ≡ true = grind (arith, nat_tests) in
        waits s moment later (sym (ap (λ b. b && is_alarm_by (alarm s) moment) on) ∙ never)
    by (inr past) never =
        either (λ (o : Outcome). alarm o.0 ≡ alarm s) (nat_lt moment s.moment) (refused s ClockBack) _ (λ _. refl)
        (λ a. either (λ (o : Outcome). alarm o.0 ≡ alarm s) (moment == s.moment) (unchanged s replies.Done) _
        (λ _. refl) (λ b. absurd (apart a b)))
      where
        apart : nat_lt moment s.moment ≡ false → (moment == s.moment) ≡ false → ⊥
        apart a b = grind (arith, nat_tests)

-- a queue without messages of timers
abbrev IsClear : List Message → Type 0
IsClear q = list_any is_of_any_timer q ≡ false

clear-rest : (m : Message) (q : List Message) → IsClear (m ∷ q) → IsClear q
clear-rest (FromPort ticket n kind payload) q h = h
clear-rest (FromTimer ticket t e) q h = absurd (cc)

clear-none : (t : ℕ × ℕ) (q : List Message) → IsClear q → count_by (is_from_timer t) q ≡ 0
clear-none t [] h = refl
clear-none t (FromPort ticket n kind payload ∷ q) h = clear-none t q h
clear-none t (FromTimer ticket u e ∷ q) h = absurd (cc)

-- such a queue is written with another
alike-clear : (s now : State) (p i : ℕ) (q : List Message) → IsClear (queue_of s.queues p i) → IsClear q
    → now.queues ≡ set s.queues (source_number p i) q → now.moment ≡ s.moment → now.timers ≡ s.timers
    → now.suspended ≡ s.suspended → now.regs ≡ s.regs → are_tickets_left now ≡ are_tickets_left s → Alike s now
alike-clear s now p i q old new is moment timers suspended regs tickets = record {
  moment = moment;
  timers = timers;
  suspended = suspended;
  control = λ k. ap (λ (xs : List Regs). has (get_or xs k reset_regs).control enable) regs;
  free = λ t.
      ap (λ qs. is_timer_free qs t) is
      ∙ free-same s.queues (source_number p i) q
      (λ u. clear-none u q new ∙ sym (clear-none u (queue_of s.queues p i) old))
      t;
  tickets = tickets;
}

alike-placed : (s : State) (p i : ℕ) → IsClear (queue_of s.queues p i) → Alike s (placed s p i).0
alike-placed s p i clear = by (queue_of s.queues p i) clear
  where
    by : (q : List Message) → IsClear q → Alike s (placed_head s p i q).0
    by [] h = alike-all s s refl
    by (m ∷ rest) h = alike-clear s (placed_head s p i (m ∷ rest)).0 p i rest clear (clear-rest m rest h) refl refl refl
        refl refl refl

alike-tried : (s : State) (p i : ℕ) → IsClear (queue_of s.queues p i) → Alike s (tried s p i).0
unfolding tried
alike-tried s p i clear =
    let e : Effect = placed s p i in
    either (λ (x : Effect). Alike s x.0) (delivers s p && nat_lt 0 (length (queue_of s.queues p i)))
    (cond (is_slot_empty s p i) (after e (raised e.0 p i)) (marked s p i)) (nothing s)
    (λ _. either (λ (x : Effect). Alike s x.0) (is_slot_empty s p i) (after e (raised e.0 p i)) (marked s p i)
    (λ _. alike-then s e.0 (raised e.0 p i).0 (alike-placed s p i clear)
    (alike-all e.0 (raised e.0 p i).0 (same-raised e.0 p i)))
    (λ _. alike-all s (marked s p i).0 refl))
    (λ _. alike-all s s refl)

clear-joined : (q : List Message) (ticket port kind : ℕ) (payload : ArrayVec ℕ) → IsClear q
    → IsClear (q ++ FromPort ticket port kind payload ∷ [])
clear-joined [] ticket port kind payload h = refl
clear-joined (FromPort x n k y ∷ q) ticket port kind payload h = clear-joined q ticket port kind payload h
clear-joined (FromTimer x t e ∷ q) ticket port kind payload h = absurd (cc)

-- the queue that was written reads so, or past the end unchanged
clear-set : (qs : Queues) (j : ℕ) (q : List Message) → IsClear (get_or qs j []) → IsClear q
    → IsClear (get_or (set qs j q) j [])
clear-set qs j q old new = by (cases_lt j (length qs))
  where
    by : (j < length qs) ⊎ (length qs ≤ j) → IsClear (get_or (set qs j q) j [])
    by (inl inside) = ap (list_any is_of_any_timer) (get_or-set_same qs j q [] inside) ∙ new
    by (inr past) = ap (λ xs. list_any is_of_any_timer (get_or xs j [])) (set_past qs j q past) ∙ old

alike-delivered : (s : State) (p i port kind : ℕ) (payload : ArrayVec ℕ) → IsClear (queue_of s.queues p i)
    → is_last_ticket s ≡ false → Alike s (delivered s p i (FromPort s.next_ticket port kind payload)).0
alike-delivered s p i port kind payload clear more =
    let m : Message = FromPort s.next_ticket port kind payload in
    let q : List Message = queue_of s.queues p i in
    let now : State = (accepted s p i m).0 in
    let joined : IsClear (q ++ m ∷ []) = clear-joined q s.next_ticket port kind payload clear in
    alike-then s now (tried now p i).0
    (alike-clear s now p i (q ++ m ∷ []) clear joined refl refl refl refl refl left)
    (alike-tried now p i (clear-set s.queues (source_number p i) (q ++ m ∷ []) clear joined))
  where
    left : nat_lt (s.next_ticket + 1) 0xffffffffffffffff ≡ nat_lt s.next_ticket 0xffffffffffffffff
    left =
        let far : s.next_ticket < 0xfffffffffffffffe = grind (arith, nat_tests) in
        let a : nat_lt (s.next_ticket + 1) 0xffffffffffffffff ≡ true = grind (arith, nat_tests) in
        let b : nat_lt s.next_ticket 0xffffffffffffffff ≡ true = grind (arith, nat_tests) in
        a ∙ sym b

-- a post
none-of : (a b : Bool) → (a || b) ≡ false → (a ≡ false) × (b ≡ false)
none-of true b e = absurd (cc)
none-of false true e = absurd (cc)
none-of false false e = (refl, refl)

alike-posted : (s : State) (port kind : ℕ) (payload : ArrayVec ℕ)
    → (holds_timer_at s (port_at (ports_of s) port) || is_last_ticket s) ≡ false
    → AlikeIn s (posted s port kind payload)
alike-posted s port kind payload h =
    by (port_at (ports_of s) port) (none-of (holds_timer_at s (port_at (ports_of s) port)) (is_last_ticket s) h)
  where
    to-port : (x : Port) → (holds_timer s x.vp x.sint ≡ false) × (is_last_ticket s ≡ false)
        → AlikeIn s (posted_at s port kind payload (Ok x))
    to-port x g = checked (post_refusal s port x.vp x.shape)
      where
        checked : (o : Option Refusal) → AlikeIn s (option_map_or (refused s) o
            (answered (replies.Accepted s.next_ticket)
            (delivered s x.vp x.sint (FromPort s.next_ticket port kind payload))))
        checked None = alike-delivered s x.vp x.sint port kind payload g.0 g.1
        checked (Some r) = alike-all s s refl

    shaped : (x : Port) (shape : PortShape) → (holds_timer s x.vp x.sint ≡ false) × (is_last_ticket s ≡ false)
        → AlikeIn s (posted_at s port kind payload (message_target_at kind x shape))
    shaped x (Messages buffers) g =
        either (λ (r : Result Port Refusal). AlikeIn s (posted_at s port kind payload r)) (is_posted_type kind)
        (Ok x) (Err BadType) (λ _. to-port x g) (λ _. alike-all s s refl)
    shaped x (Flags base count) g = alike-all s s refl

    by : (o : Option Port) → (holds_timer_at s o ≡ false) × (is_last_ticket s ≡ false)
        → AlikeIn s (posted_at s port kind payload
        (option_map_or (λ x. message_target_at kind x x.shape) o (Err UnknownPort)))
    by None g = alike-all s s refl
    by (Some x) g = shaped x x.shape g

-- a write of EOM
abbrev AreClear : State → ℕ → Type 0
AreClear s p = (i : ℕ) → i < 16 → IsClear (queue_of s.queues p i)

clear-tried : (s : State) (p j : ℕ) → j < 16 → AreClear s p → AreClear (tried s p j).0 p
unfolding tried
clear-tried s p j low clear =
    let e : Effect = placed s p j in
    either (λ (x : Effect). AreClear x.0 p) (delivers s p && nat_lt 0 (length (queue_of s.queues p j)))
    (cond (is_slot_empty s p j) (after e (raised e.0 p j)) (marked s p j)) (nothing s)
    (λ _. either (λ (x : Effect). AreClear x.0 p) (is_slot_empty s p j) (after e (raised e.0 p j)) (marked s p j)
    (λ _ i below. ap (λ (x : Parts). list_any is_of_any_timer (queue_of x.4 p i)) (same-raised e.0 p j)
    ∙ head (queue_of s.queues p j) (clear j low) i below)
    (λ _. clear))
    (λ _. clear)
  where
    head : (q : List Message) → IsClear q → AreClear (placed_head s p j q).0 p
    head [] h i below = clear i below
    head (m ∷ rest) h i below = by (cases_eq i j)
      where
        by : (i ≡ j) ⊎ (i ≢ j) → IsClear (queue_of (set s.queues (source_number p j) rest) p i)
        by (inl same) =
            ap (λ k. list_any is_of_any_timer (queue_of (set s.queues (source_number p j) rest) p k)) same
            ∙ clear-set s.queues (source_number p j) rest (clear j low) (clear-rest m rest h)
        by (inr other) =
            let apart : source_number p i ≢ source_number p j = λ e. other (omega (arith, e)) in
            ap (list_any is_of_any_timer)
            (get_or-set_other s.queues (source_number p j) (source_number p i) rest [] apart)
            ∙ clear i below

record Clearly (s : State) (p : ℕ) (now : State) : Type 0 where
  pub alike : Alike s now
  pub clear : AreClear now p

clearly-below : (s : State) (p n : ℕ) → n ≤ 16 → AreClear s p → Clearly s p (tried_below s p n).0
unfolding tried_below
clearly-below s p zero few clear = record { alike = alike-all s s refl; clear = clear }
clearly-below s p (suc i) few clear =
    let now : State = (tried_below s p i).0 in
    let h = clearly-below s p i (omega arith) clear in record {
      alike = alike-then s now (tried now p i).0 h.alike (alike-tried now p i (h.clear i (omega arith)));
      clear = clear-tried now p i (omega arith) h.clear;
    }

none-held : (s : State) (p n : ℕ) → holds_timer_below s p n ≡ false → (i : ℕ) → i < n → IsClear (queue_of s.queues p i)
unfolding holds_timer_below
none-held s p zero h i low = absurd (omega arith)
none-held s p (suc n) h i low =
    by (none-of (holds_timer s p n) (holds_timer_below s p n) h) (cases_eq i n) (λ k. none-held s p n k i)
  where
    by : (holds_timer s p n ≡ false) × (holds_timer_below s p n ≡ false) → (i ≡ n) ⊎ (i ≢ n)
        → (holds_timer_below s p n ≡ false → i < n → IsClear (queue_of s.queues p i)) → IsClear (queue_of s.queues p i)
    by g (inl same) more = ap (holds_timer s p) same ∙ g.0
    by g (inr other) more = more g.1 (omega arith)

-- a write of a register
alike-register : (s : State) (p value : ℕ) (r : Register) → moves_by_register s p value r ≡ false
    → AlikeIn s (written_register s p r value)
alike-register s p value register.ReferenceCounter still = alike-all s s refl
alike-register s p value register.Eoi still = alike-all s (written_register s p register.Eoi value).0 refl
alike-register s p value register.Tpr still = alike-all s (written_register s p register.Tpr value).0 refl
alike-register s p value register.Control still =
    alike-stored s p register.Control value
    (not-differs (has value enable) (has (regs_of s p).control enable) still)
alike-register s p value register.Version still = alike-all s s refl
alike-register s p value register.Sief still = alike-stored s p register.Sief value refl
alike-register s p value register.Sim still = alike-stored s p register.Sim value refl
alike-register s p value register.Eom still =
    (clearly-below s p 16 (omega arith) (none-held s p 16 still)).alike
alike-register s p value (register.Source n) still = alike-stored s p (register.Source n) value refl
alike-register s p value (register.TimerConfig n) still = absurd (cc)
alike-register s p value (register.TimerCount n) still = absurd (cc)

alike-written : (s : State) (p number value : ℕ)
    → option_map_or (moves_by_register s p value) (register_of number) false ≡ false
    → AlikeIn s (written s p number value)
alike-written s p number value = by (register_of number)
  where
    by : (o : Option Register) → option_map_or (moves_by_register s p value) o false ≡ false
        → AlikeIn s (option_map_or (λ r. written_register s p r value) o (unchanged s replies.GeneralProtection))
    by None still = alike-all s s refl
    by (Some r) still = alike-register s p value r still

-- each event
event-alike : (s : State) (event : Event) → may_move s event ≡ false
    → (Alike s (step s event).0) ⊎ (alarm (step s event).0 ≡ alarm s)
unfolding step
event-alike s (OpenPort port p i shape) still =
    inl (elim (open_refusal (ports_of s) port p i shape) as
    (λ o. Alike s (option_map_or (refused s) o
    (unchanged (with_port s port (record { vp = p; sint = i; shape = shape })) replies.Done)).0) [
      | None ↦ alike-all s (with_port s port (record { vp = p; sint = i; shape = shape })) refl
      | Some r ↦ alike-all s s refl
    ])
event-alike s (ClosePort port) still = inl (alike-closed s port)
event-alike s (Write p number value) still = inl (alike-at s p _ (alike-written s p number value still))
event-alike s (Read p number) still = inl (alike-at s p _ (alike-all s s refl))
event-alike s (Post port kind payload) still = inl (alike-posted s port kind payload still)
event-alike s (Signal port flag) still = inl (alike-all s _ (same-signalled s port flag))
event-alike s (Assert p v) still = inl (alike-at s p _ (alike-all s (requested s p v).0 (same-requested s p v)))
event-alike s (Absorb p part bits) still =
    inl (alike-at s p _ (alike-all s (absorbed s p part bits).0 (same-absorbed s p part bits)))
event-alike s (Store address bytes) still = inl (alike-all s _ (same-stored_bytes s address bytes.items))
event-alike s (Load address count) still = inl (alike-all s s refl)
event-alike s (Tick moment) still = inr (same-ticked s moment still)
event-alike s (Take p) still = inl (alike-at s p _ (alike-all s (taken s p).0 (same-taken s p)))
event-alike s (Suspend p) still = absurd (cc)
event-alike s (Resume p) still = absurd (cc)
event-alike s (Reset p) still = absurd (cc)
event-alike s (Send v mask) still = inl (alike-all s (sent s v mask).0 (same-sent s v mask))

pub stays : (s : State) (event : Event) → may_move s event ≡ false → alarm (step s event).0 ≡ alarm s
stays s event still = by (event-alike s event still)
  where
    by : (Alike s (step s event).0) ⊎ (alarm (step s event).0 ≡ alarm s) → alarm (step s event).0 ≡ alarm s
    by (inl h) = same-alarm s (step s event).0 h
    by (inr h) = h
