-- What processors share: the clock, the next ticket, the ports and the guest pages.
use Rattle.std.proofs.Common.{◌≡◌, ℕ, zero, suc, ◌+◌, ◌*◌, ◌/◌, ◌%◌, ◌^◌, ◌==◌, ◌&&◌, Bool, true, false, not, nat_lt, nat_le, List, [], ◌∷◌, length, Option, None, Some, Result, Ok, Err, set, refl, sym, ap, ◌∙◌, subst}
use Rattle.std.specs.Prelude.{if◌then◌else◌, cond, position, slice_index_or}
use Rattle.std.specs.Option.{option_map_or}
use Rattle.std.specs.Int.{bit_at}
use Rattle.arrayvec.specs.ArrayVec.{ArrayVec}
use Rattle.board_terms.specs.declared.messages.Message.{Message}
use Rattle.board_terms.specs.declared.messages.Message.TheVariants.{FromPort, FromTimer}
use Rattle.board_terms.specs.declared.pages.Owner.{Owner}
use Rattle.board_terms.specs.declared.pages.Owner.TheVariants as owners
use Rattle.board_terms.specs.declared.refusal.Refusal.{Refusal}
use Rattle.board_terms.specs.declared.refusal.Refusal.TheVariants.{SynicOff, ClockBack, NoSuchProcessor, BadTarget, AlreadySuspended, NotSuspended}
use Rattle.event_ports.specs.declared.ports.Port.{Port}
use Rattle.event_ports.specs.Ports.{open_refusal, target_of, message_target_of, flag_place_of}
use Rattle.gpa_space.specs.Page.{overwritten}
use Rattle.gpa_space.specs.Space.{visible, is_mapped_at, overlay_owner, owner_of, visible_page, with_visible_page, refusal_of, page_count, is_flag_set}
use Rattle.lapic_core.specs.Apic.{next}
use Rattle.message_queues.specs.Queues.{queue_of}
use Rattle.stimer_bank.specs.declared.timer.Mode.{Mode}
use Rattle.stimer_bank.specs.declared.timer.Mode.TheVariants.{Direct, Posted}
use Rattle.stimer_bank.specs.Bank.{Bank, with_config, with_count, dues, due_list}
use Rattle.synic_regs.specs.Regs.{Regs, reset_regs, raised_by, has, enable, is_refused, with_value}
use Rattle.synic_regs.specs.Registers.{register_of}
use Rattle.synic_regs.specs.declared.register.Register.{Register}
use Rattle.synic_regs.specs.declared.register.Register.TheVariants as register
use Rattle.synic_board.specs.declared.event.Event.{Event}
use Rattle.synic_board.specs.declared.event.Event.TheVariants.{OpenPort, ClosePort, Write, Read, Post, Signal, Assert, Absorb, Store, Load, Tick, Take, Suspend, Resume, Reset, Send}
use Rattle.synic_board.specs.declared.event.Reply.TheVariants as replies
use Rattle.synic_board.specs.State.{State, processors, apic_of, regs_of, overlay_registers, space_of, bank_of, ports_of, slot_of, with_apic, with_regs, with_bank, with_space}
use Rattle.synic_board.specs.Effects.{Effect, Outcome, nothing, after, answered, unchanged, refused, at_processor}
use Rattle.synic_board.specs.Interrupts.{is_requested, requested, raised, taken_at, taken}
use Rattle.synic_board.specs.Absorbing.{is_posted, absorbed, absorbed_below}
use Rattle.synic_board.specs.Delivery.{delivers, is_slot_empty, placed_head, placed, marked, tried, tried_below, accepted, delivered}
use Rattle.synic_board.specs.Posts.{with_port, closed_at, closed, post_refusal, posted_at, posted, with_flag, flagged, signalled_at, signalled}
use Rattle.synic_board.specs.Registers.{stored, written_register, written}
use Rattle.synic_board.specs.Resetting.{withdrawn_ticket, slot_emptied, emptied_below, reset}
use Rattle.synic_board.specs.Sending.{sent_below, sent}
use Rattle.synic_board.specs.Stores.{consumed_ticket, consumed, consumed_below, consumed_in, with_bytes, stored_bytes}
use Rattle.synic_board.specs.Suspending.{is_suspended, with_suspension, suspended, resumed}
use Rattle.synic_board.specs.Timers.{mode_at, is_ready, delivery_by, signalled_by, expired_state, expiry_at, fired, attempted, attempted_until, written_timer, most_expiries, at_moment, ticked}
use Rattle.synic_board.specs.Step.{step}
use Rattle.synic_board.proofs.keeping.Requests.{either}
use Rattle.law_processors.specs.Isolation.{changes_ports, is_timers, may_accept, is_overlays, KeepsShared, StoresAlone, NoneIsVisible}

-- an effect that leaves a part of the state
abbrev pub Leaves : {X : Type 0} → (State → X) → State → Effect → Type 0
Leaves f s e = f e.0 ≡ f s

abbrev LeavesIn : {X : Type 0} → (State → X) → State → Outcome → Type 0
LeavesIn f s o = f o.0 ≡ f s

-- all of it
abbrev pub Parts : Type 0
Parts = ℕ × ℕ × List (Option Port) × List (List ℕ) × List Regs

abbrev pub all : State → Parts
all s = (s.moment, s.next_ticket, s.ports, s.pages, s.regs)

-- without the registers, which a write stores
abbrev Apart : Type 0
Apart = ℕ × ℕ × List (Option Port) × List (List ℕ)

abbrev apart : State → Apart
apart s = (s.moment, s.next_ticket, s.ports, s.pages)

abbrev front : Parts → Apart
front x = (x.0, x.1, x.2, x.3)

-- and without the next ticket, which a message takes
abbrev Most : Type 0
Most = ℕ × List (Option Port) × List (List ℕ) × List Regs

abbrev most : State → Most
most s = (s.moment, s.ports, s.pages, s.regs)

abbrev less : Parts → Most
less x = (x.0, x.2, x.3, x.4)

-- without both
abbrev Few : Type 0
Few = ℕ × List (Option Port) × List (List ℕ)

abbrev few_of : State → Few
few_of s = (s.moment, s.ports, s.pages)

-- which overlay is visible, by the registers alone
seen : (s now : State) → overlay_registers now.regs ≡ overlay_registers s.regs → (page : ℕ)
    → visible (space_of now) page ≡ visible (space_of s) page
seen s now e page = ap (λ rs. position (is_mapped_at page) rs) e

mostly : (s now : State) → all now ≡ all s → most now ≡ most s
mostly s now e = ap less e

-- effects that accept no message
pub same-requested : (s : State) (p v : ℕ) → Leaves all s (requested s p v)
same-requested s p v = either (Leaves all s) (is_requested s p v) _ _ (λ _. refl) (λ _. refl)

same-raised : (s : State) (p i : ℕ) → Leaves all s (raised s p i)
same-raised s p i =
    elim (raised_by (regs_of s p) i) as
    (λ o. Leaves all s (option_map_or (requested s p) o (nothing s))) [
      | None ↦ refl
      | Some v ↦ same-requested s p v
    ]

pub same-tried : (s : State) (p i : ℕ) → Leaves all s (tried s p i)
unfolding tried
same-tried s p i =
    let e : Effect = placed s p i in
    either (Leaves all s) (delivers s p && nat_lt 0 (length (queue_of s.queues p i)))
    (cond (is_slot_empty s p i) (after e (raised e.0 p i)) (marked s p i)) (nothing s)
    (λ _. either (Leaves all s) (is_slot_empty s p i) (after e (raised e.0 p i)) (marked s p i)
    (λ _. same-raised e.0 p i ∙ head (queue_of s.queues p i)) (λ _. refl)) (λ _. refl)
  where
    head : (messages : List Message) → Leaves all s (placed_head s p i messages)
    head [] = refl
    head (m ∷ rest) = refl

same-tried_below : (s : State) (p n : ℕ) → Leaves all s (tried_below s p n)
unfolding tried_below
same-tried_below s p zero = refl
same-tried_below s p (suc i) = same-tried (tried_below s p i).0 p i ∙ same-tried_below s p i

same-absorbed_below : (s : State) (p part bits n : ℕ) → Leaves all s (absorbed_below s p part bits n)
unfolding absorbed_below
same-absorbed_below s p part bits zero = refl
same-absorbed_below s p part bits (suc i) =
    let now : State = (absorbed_below s p part bits i).0 in
    either (Leaves all now) (is_posted part bits i) (requested now p (64 * part + i)) (nothing now)
    (λ _. same-requested now p (64 * part + i)) (λ _. refl) ∙ same-absorbed_below s p part bits i

same-sent_below : (s : State) (v mask n : ℕ) → Leaves all s (sent_below s v mask n)
unfolding sent_below
same-sent_below s v mask zero = refl
same-sent_below s v mask (suc p) =
    let now : State = (sent_below s v mask p).0 in
    either (Leaves all now) (bit_at mask p == 1) (requested now p v) (nothing now) (λ _. same-requested now p v)
    (λ _. refl) ∙ same-sent_below s v mask p

same-consumed : (s : State) (p i : ℕ) → Leaves all s (consumed s p i)
unfolding consumed
same-consumed s p i =
    either (Leaves all s) (is_slot_empty s p i) (consumed_ticket s p i (slot_of s p i)) (nothing s)
    (λ _. held (slot_of s p i)) (λ _. refl)
  where
    held : (o : Option ℕ) → Leaves all s (consumed_ticket s p i o)
    held None = refl
    held (Some t) = refl

same-consumed_below : (s : State) (p n : ℕ) → Leaves all s (consumed_below s p n)
unfolding consumed_below
same-consumed_below s p zero = refl
same-consumed_below s p (suc i) = same-consumed (consumed_below s p i).0 p i ∙ same-consumed_below s p i

same-consumed_in : (s : State) (owner : Owner) → Leaves all s (consumed_in s owner)
same-consumed_in s owners.Guest = refl
same-consumed_in s (owners.Sim p) = same-consumed_below s p 16
same-consumed_in s (owners.Sief p) = refl
same-consumed_in s owners.Nothing = refl

same-emptied_below : (s : State) (p n : ℕ) → Leaves all s (emptied_below s p n)
unfolding emptied_below
same-emptied_below s p zero = refl
same-emptied_below s p (suc i) = slot (emptied_below s p i).0 ∙ same-emptied_below s p i
  where
    slot : (s : State) → Leaves all s (slot_emptied s p i)
    slot s =
        elim (slot_of s p i) as (λ o. Leaves all s (option_map_or (withdrawn_ticket s p i) o (nothing s))) [
          | None ↦ refl
          | Some t ↦ refl
        ]

-- effects that may accept one
near-delivered : (s : State) (p i : ℕ) (m : Message) → Leaves most s (delivered s p i m)
near-delivered s p i m =
    let now : State = (accepted s p i m).0 in mostly now (tried now p i).0 (same-tried now p i)

near-attempted : (s : State) (t : ℕ × ℕ) → Leaves most s (attempted s t)
unfolding attempted
near-attempted s t =
    let now : State = expired_state s t in
    either (Leaves most s) (is_ready s t) (fired s t (mode_at s t)) (nothing s)
    (λ _. signal now (mode_at s t) (expiry_at s t).signal) (λ _. refl)
  where
    delivery : (now : State) (mode : Mode) (d : ℕ) → Leaves most now (delivery_by now t mode d)
    delivery now (Direct v) d = mostly now (requested now t.0 v).0 (same-requested now t.0 v)
    delivery now (Posted i) d = near-delivered now t.0 i (FromTimer now.next_ticket t d)

    signal : (now : State) (mode : Mode) (o : Option ℕ) → Leaves most now (signalled_by now t mode o)
    signal now mode None = refl
    signal now mode (Some d) = delivery now mode d

near-attempted_until : (few : ℕ) (s : State) (ts : List (ℕ × ℕ)) → Leaves most s (attempted_until few s ts)
unfolding attempted_until
near-attempted_until zero s ts = refl
near-attempted_until (suc few) s [] = refl
near-attempted_until (suc few) s (t ∷ ts) =
    near-attempted_until (if is_ready s t then few else suc few) (attempted s t).0 ts ∙ near-attempted s t

-- outcomes
at : {X : Type 0} (f : State → X) (s : State) (p : ℕ) (o : Outcome) → LeavesIn f s o
    → LeavesIn f s (at_processor s p o)
at f s p o h = either (LeavesIn f s) (nat_lt p (processors s)) o (refused s NoSuchProcessor) (λ _. h) (λ _. refl)

unless : {X : Type 0} (f : State → X) (s : State) (refusal : Option Refusal) (o : Outcome) → LeavesIn f s o
    → LeavesIn f s (option_map_or (refused s) refusal o)
unless f s None o h = h
unless f s (Some r) o h = refl

same-absorbed : (s : State) (p part bits : ℕ) → LeavesIn all s (absorbed s p part bits)
same-absorbed s p part bits =
    either (LeavesIn all s) (nat_le part 3) (answered replies.Done (absorbed_below s p part bits 64))
    (refused s BadTarget) (λ _. same-absorbed_below s p part bits 64) (λ _. refl)

same-sent : (s : State) (v mask : ℕ) → LeavesIn all s (sent s v mask)
same-sent s v mask =
    either (LeavesIn all s) (nat_lt mask (2 ^ processors s)) (answered replies.Done (sent_below s v mask 64))
    (refused s NoSuchProcessor) (λ _. same-sent_below s v mask 64) (λ _. refl)

same-taken : (s : State) (p : ℕ) → LeavesIn all s (taken s p)
same-taken s p =
    elim (next (apic_of s p)) as
    (λ o. LeavesIn all s (option_map_or (λ v. with_apic s p (taken_at s p v)) o s, replies.Taken o, [])) [
      | None ↦ refl
      | Some v ↦ refl
    ]

same-suspended : (s : State) (p : ℕ) → LeavesIn all s (suspended s p)
same-suspended s p = either (LeavesIn all s) (is_suspended s p) (refused s AlreadySuspended)
    (unchanged (with_suspension s p true) replies.Done) (λ _. refl) (λ _. refl)

same-resumed : (s : State) (p : ℕ) → LeavesIn all s (resumed s p)
same-resumed s p = either (LeavesIn all s) (is_suspended s p) (unchanged (with_suspension s p false) replies.Done)
    (refused s NotSuspended) (λ _. refl) (λ _. refl)

same-stored : (s : State) (p : ℕ) (r : Register) (value : ℕ) → LeavesIn apart s (stored s p r value)
same-stored s p r value = either (LeavesIn apart s) (is_refused r value) (unchanged s replies.GeneralProtection)
    (unchanged (with_regs s p (with_value (regs_of s p) r value)) replies.Done) (λ _. refl) (λ _. refl)

near-timer : (s : State) (b : Bank) (t : ℕ × ℕ) → LeavesIn most s (written_timer s b t)
near-timer s b t = near-attempted (with_bank s b) t

same-signalled : (s : State) (port flag : ℕ) → LeavesIn all s (signalled s port flag)
same-signalled s port flag = by (flag_place_of (ports_of s) port flag)
  where
    by : (r : Result (ℕ × ℕ × ℕ) Refusal) → LeavesIn all s (signalled_at s r)
    by (Err r) = refl
    by (Ok (p, i, f)) =
        let lit : State = with_flag s p i f in
        let found : Outcome = unchanged lit replies.FlagWasSet in
        let sets : Outcome = answered replies.FlagWasClear (after (flagged s p i f) (raised lit p i)) in
        either (LeavesIn all s) (not (has (regs_of s p).control enable && has (regs_of s p).sief enable))
        (refused s SynicOff) (cond (is_flag_set (space_of s) p i f) found sets) (λ _. refl)
        (λ _. either (LeavesIn all s) (is_flag_set (space_of s) p i f) found sets (λ _. refl)
        (λ _. same-raised lit p i))

near-posted : (s : State) (port kind : ℕ) (payload : ArrayVec ℕ) → LeavesIn most s (posted s port kind payload)
near-posted s port kind payload = by (message_target_of (ports_of s) port kind)
  where
    by : (r : Result Port Refusal) → LeavesIn most s (posted_at s port kind payload r)
    by (Err r) = refl
    by (Ok x) =
        unless most s (post_refusal s port x.vp x.shape)
        (answered (replies.Accepted s.next_ticket)
        (delivered s x.vp x.sint (FromPort s.next_ticket port kind payload)))
        (near-delivered s x.vp x.sint (FromPort s.next_ticket port kind payload))

-- without the ports, and without the guest pages
abbrev Aside : Type 0
Aside = ℕ × ℕ × List (List ℕ) × List Regs

abbrev aside : State → Aside
aside s = (s.moment, s.next_ticket, s.pages, s.regs)

abbrev Fixed : Type 0
Fixed = ℕ × ℕ × List (Option Port) × List Regs

abbrev fixed : State → Fixed
fixed s = (s.moment, s.next_ticket, s.ports, s.regs)

aside-closed : (s : State) (port : ℕ) → LeavesIn aside s (closed s port)
aside-closed s port = by (target_of (ports_of s) port)
  where
    by : (r : Result Port Refusal) → LeavesIn aside s (closed_at s port r)
    by (Err r) = refl
    by (Ok x) = refl

-- the state after a store at that overlay, or at the guest page
fixed-stored : (s : State) (address : ℕ) (bytes : List ℕ) → LeavesIn fixed s (stored_bytes s address bytes)
fixed-stored s address bytes =
    let now : State = with_bytes s address bytes in
    let owner : Owner = owner_of (space_of s) (address / 4096) in
    unless fixed s (refusal_of (space_of s) address (length bytes)) (answered replies.Done (consumed_in now owner))
    (ap (λ (x : Parts). (x.0, x.1, x.2, x.4)) (same-consumed_in now owner))

-- a tick leaves the ports, the guest pages and the registers
abbrev Placed : Type 0
Placed = List (Option Port) × List (List ℕ) × List Regs

abbrev placed_parts : State → Placed
placed_parts s = (s.ports, s.pages, s.regs)

ticks : (s : State) (moment : ℕ) → LeavesIn placed_parts s (ticked s moment)
ticks s moment =
    let now : State = at_moment s moment in
    let e : Effect = attempted_until most_expiries now (due_list (dues (bank_of s)) moment) in
    either (LeavesIn placed_parts s) (nat_lt moment s.moment) (refused s ClockBack)
    (cond (moment == s.moment) (unchanged s replies.Done) (answered replies.Done e)) (λ _. refl)
    (λ _. either (LeavesIn placed_parts s) (moment == s.moment) (unchanged s replies.Done) (answered replies.Done e)
    (λ _. refl)
    (λ _. ap (λ (x : Most). (x.1, x.2, x.3))
    (near-attempted_until most_expiries now (due_list (dues (bank_of s)) moment))))

-- a write
same-register : (s : State) (p : ℕ) (value : ℕ) (r : Register) → is_timers r ≡ false
    → LeavesIn apart s (written_register s p r value)
same-register s p value register.ReferenceCounter never = refl
same-register s p value register.Eoi never = refl
same-register s p value register.Tpr never = refl
same-register s p value register.Control never = same-stored s p register.Control value
same-register s p value register.Version never = refl
same-register s p value register.Sief never = same-stored s p register.Sief value
same-register s p value register.Sim never = same-stored s p register.Sim value
same-register s p value register.Eom never = ap front (same-tried_below s p 16)
same-register s p value (register.Source n) never = same-stored s p (register.Source n) value
same-register s p value (register.TimerConfig n) never = absurd (cc)
same-register s p value (register.TimerCount n) never = absurd (cc)

abbrev of-apart : Apart → Few
of-apart x = (x.0, x.2, x.3)

abbrev of-most : Most → Few
of-most x = (x.0, x.1, x.2)

near-register : (s : State) (p : ℕ) (value : ℕ) (r : Register) → LeavesIn few_of s (written_register s p r value)
near-register s p value (register.TimerConfig n) =
    ap of-most (near-timer s (with_config (bank_of s) (p, n) value s.moment) (p, n))
near-register s p value (register.TimerCount n) =
    ap of-most (near-timer s (with_count (bank_of s) (p, n) value s.moment) (p, n))
near-register s p value register.ReferenceCounter = refl
near-register s p value register.Eoi = refl
near-register s p value register.Tpr = refl
near-register s p value register.Control = ap of-apart (same-stored s p register.Control value)
near-register s p value register.Version = refl
near-register s p value register.Sief = ap of-apart (same-stored s p register.Sief value)
near-register s p value register.Sim = ap of-apart (same-stored s p register.Sim value)
near-register s p value register.Eom = ap (λ (x : Parts). (x.0, x.2, x.3)) (same-tried_below s p 16)
near-register s p value (register.Source n) = ap of-apart (same-stored s p (register.Source n) value)

-- registers of a processor with the same SIMP and SIEFP place the overlays alike
placed-alike : (regs : List Regs) (p : ℕ) (r : Regs) → r.sim ≡ (slice_index_or regs p reset_regs).sim
    → r.sief ≡ (slice_index_or regs p reset_regs).sief → overlay_registers (set regs p r) ≡ overlay_registers regs
placed-alike [] p r sim sief = refl
placed-alike (x ∷ regs) zero r sim sief = λ i. sim i ∷ sief i ∷ overlay_registers regs
placed-alike (x ∷ regs) (suc p) r sim sief = ap (λ rs. x.sim ∷ x.sief ∷ rs) (placed-alike regs p r sim sief)

abbrev places : State → List ℕ
places s = overlay_registers s.regs

places-stored : (s : State) (p value : ℕ) (r : Register) → (with_value (regs_of s p) r value).sim ≡ (regs_of s p).sim
    → (with_value (regs_of s p) r value).sief ≡ (regs_of s p).sief → LeavesIn places s (stored s p r value)
places-stored s p value r sim sief =
    either (LeavesIn places s) (is_refused r value) (unchanged s replies.GeneralProtection)
    (unchanged (with_regs s p (with_value (regs_of s p) r value)) replies.Done) (λ _. refl)
    (λ _. placed-alike s.regs p (with_value (regs_of s p) r value) sim sief)

places-register : (s : State) (p value : ℕ) (r : Register) → is_overlays r ≡ false
    → LeavesIn places s (written_register s p r value)
places-register s p value register.ReferenceCounter never = refl
places-register s p value register.Eoi never = refl
places-register s p value register.Tpr never = refl
places-register s p value register.Control never = places-stored s p value register.Control refl refl
places-register s p value register.Version never = refl
places-register s p value register.Sief never = absurd (cc)
places-register s p value register.Sim never = absurd (cc)
places-register s p value register.Eom never =
    ap (λ (x : Parts). overlay_registers x.4) (same-tried_below s p 16)
places-register s p value (register.Source n) never = places-stored s p value (register.Source n) refl refl
places-register s p value (register.TimerConfig n) never =
    ap (λ (x : Most). overlay_registers x.3) (near-timer s (with_config (bank_of s) (p, n) value s.moment) (p, n))
places-register s p value (register.TimerCount n) never =
    ap (λ (x : Most). overlay_registers x.3) (near-timer s (with_count (bank_of s) (p, n) value s.moment) (p, n))

module _ {X : Type 0} (f : State → X) (is : Register → Bool)
    (each : (s : State) (p value : ℕ) (r : Register) → is r ≡ false → LeavesIn f s (written_register s p r value))
  where
    by-register : (s : State) (p number value : ℕ) → option_map_or is (register_of number) false ≡ false
        → LeavesIn f s (written s p number value)
    by-register s p number value = by (register_of number)
      where
        by : (o : Option Register) → option_map_or is o false ≡ false
            → LeavesIn f s (option_map_or (λ r. written_register s p r value) o (unchanged s replies.GeneralProtection))
        by None never = refl
        by (Some r) never = each s p value r never

near-written : (s : State) (p number value : ℕ) → LeavesIn few_of s (written s p number value)
near-written s p number value = by (register_of number)
  where
    by : (o : Option Register) → LeavesIn few_of s
        (option_map_or (λ r. written_register s p r value) o (unchanged s replies.GeneralProtection))
    by None = refl
    by (Some r) = near-register s p value r

same-written : (s : State) (p number value : ℕ) → option_map_or is_timers (register_of number) false ≡ false
    → LeavesIn apart s (written s p number value)
same-written = by-register apart is_timers same-register

places-written : (s : State) (p number value : ℕ) → option_map_or is_overlays (register_of number) false ≡ false
    → LeavesIn places s (written s p number value)
places-written = by-register places is_overlays places-register

-- each event
from-all : (s : State) (event : Event) → LeavesIn all s (step s event) → KeepsShared s event
from-all s event e =
    record {
      moment = λ _. ap (λ (x : Parts). x.0) e;
      ports = λ _. ap (λ (x : Parts). x.2) e;
      tickets = λ _. ap (λ (x : Parts). x.1) e;
      pages = λ _. ap (λ (x : Parts). x.3) e;
      overlays = λ _. seen s (step s event).0 (ap (λ (x : Parts). overlay_registers x.4) e);
    }

from-most : (s : State) (event : Event) → (may_accept event ≡ false → (step s event).0.next_ticket ≡ s.next_ticket)
    → LeavesIn most s (step s event) → KeepsShared s event
from-most s event tickets e =
    record {
      moment = λ _. ap (λ (x : Most). x.0) e;
      ports = λ _. ap (λ (x : Most). x.1) e;
      tickets = tickets;
      pages = λ _. ap (λ (x : Most). x.2) e;
      overlays = λ _. seen s (step s event).0 (ap (λ (x : Most). overlay_registers x.3) e);
    }

from-aside : (s : State) (event : Event) → changes_ports event ≡ true → LeavesIn aside s (step s event)
    → KeepsShared s event
from-aside s event is e =
    record {
      moment = λ _. ap (λ (x : Aside). x.0) e;
      ports = λ never. absurd (cc);
      tickets = λ _. ap (λ (x : Aside). x.1) e;
      pages = λ _. ap (λ (x : Aside). x.2) e;
      overlays = λ _. seen s (step s event).0 (ap (λ (x : Aside). overlay_registers x.3) e);
    }

pub keeps_shared_parts : (s : State) (event : Event) → KeepsShared s event
unfolding step
keeps_shared_parts s (OpenPort port p i shape) =
    let now : State = with_port s port (record { vp = p; sint = i; shape = shape }) in
    from-aside s (OpenPort port p i shape) refl
    (unless aside s (open_refusal (ports_of s) port p i shape) (unchanged now replies.Done) refl)
keeps_shared_parts s (ClosePort port) = from-aside s (ClosePort port) refl (aside-closed s port)
keeps_shared_parts s (Write p number value) =
    let e = at few_of s p (written s p number value) (near-written s p number value) in
    record {
      moment = λ _. ap (λ (x : Few). x.0) e;
      ports = λ _. ap (λ (x : Few). x.1) e;
      tickets = λ never. ap (λ (x : Apart). x.1)
          (at apart s p (written s p number value) (same-written s p number value never));
      pages = λ _. ap (λ (x : Few). x.2) e;
      overlays = λ never. seen s (step s (Write p number value)).0
          (at places s p (written s p number value) (places-written s p number value never));
    }
keeps_shared_parts s (Read p number) = from-all s (Read p number) (at all s p _ refl)
keeps_shared_parts s (Post port kind payload) =
    from-most s (Post port kind payload) (λ never. absurd (cc)) (near-posted s port kind payload)
keeps_shared_parts s (Signal port flag) = from-all s (Signal port flag) (same-signalled s port flag)
keeps_shared_parts s (Assert p v) =
    from-all s (Assert p v) (at all s p (answered replies.Done (requested s p v)) (same-requested s p v))
keeps_shared_parts s (Absorb p part bits) =
    from-all s (Absorb p part bits) (at all s p (absorbed s p part bits) (same-absorbed s p part bits))
keeps_shared_parts s (Store address bytes) =
    let e = fixed-stored s address bytes.items in
    record {
      moment = λ _. ap (λ (x : Fixed). x.0) e;
      ports = λ _. ap (λ (x : Fixed). x.2) e;
      tickets = λ _. ap (λ (x : Fixed). x.1) e;
      pages = λ never. absurd (cc);
      overlays = λ _. seen s (step s (Store address bytes)).0 (ap (λ (x : Fixed). overlay_registers x.3) e);
    }
keeps_shared_parts s (Load address count) = from-all s (Load address count) refl
keeps_shared_parts s (Tick moment) =
    let e = ticks s moment in
    record {
      moment = λ never. absurd (cc);
      ports = λ _. ap (λ (x : Placed). x.0) e;
      tickets = λ never. absurd (cc);
      pages = λ _. ap (λ (x : Placed). x.1) e;
      overlays = λ _. seen s (step s (Tick moment)).0 (ap (λ (x : Placed). overlay_registers x.2) e);
    }
keeps_shared_parts s (Take p) = from-all s (Take p) (at all s p (taken s p) (same-taken s p))
keeps_shared_parts s (Suspend p) = from-all s (Suspend p) (at all s p (suspended s p) (same-suspended s p))
keeps_shared_parts s (Resume p) = from-all s (Resume p) (at all s p (resumed s p) (same-resumed s p))
keeps_shared_parts s (Reset p) =
    let e = at apart s p (reset s p) (ap front (same-emptied_below s p 16)) in
    record {
      moment = λ _. ap (λ (x : Apart). x.0) e;
      ports = λ _. ap (λ (x : Apart). x.2) e;
      tickets = λ _. ap (λ (x : Apart). x.1) e;
      pages = λ _. ap (λ (x : Apart). x.3) e;
      overlays = λ never. absurd (cc);
    }
keeps_shared_parts s (Send v mask) = from-all s (Send v mask) (same-sent s v mask)

-- a store where no overlay is visible
pub stores_alone : (s : State) (address : ℕ) (bytes : ArrayVec ℕ) → NoneIsVisible s address
    → StoresAlone s address bytes
unfolding step
stores_alone s address bytes none =
    let h = by (refusal_of (space_of s) address (length bytes.items)) refl in record { rest = h.0; notices = h.1 }
  where
    page : ℕ
    page = address / 4096

    new : List ℕ
    new = overwritten (visible_page (space_of s) page) (address % 4096) bytes.items

    now : State
    now = with_bytes s address bytes.items

    written_page : State
    written_page = record s { pages = set s.pages page new }

    owner : Owner
    owner = owner_of (space_of s) page

    kept : refusal_of (space_of s) address (length bytes.items) ≡ None → now ≡ written_page
    kept is =
        ap (λ (r : Option Refusal). with_space s
        (option_map_or (λ _. space_of s) r (with_visible_page (space_of s) page new))) is
        ∙ ap (λ (o : Option ℕ). with_space s
        (option_map_or (λ overlay. record (space_of s) { own = set s.own overlay new }) o
        (record (space_of s) { pages = set s.pages page new }))) none

    quiet : (t : State) → consumed_in t owner ≡ nothing t
    quiet =
        either (λ x. (t : State) → consumed_in t x ≡ nothing t) (nat_lt page (page_count (space_of s)))
        (option_map_or overlay_owner (visible (space_of s) page) owners.Guest) owners.Nothing
        (λ _ t. ap (λ (o : Option ℕ). consumed_in t (option_map_or overlay_owner o owners.Guest)) none) (λ _ t. refl)

    Good : Outcome → Type 0
    Good o = (o.0 ≡ record s { pages = o.0.pages }) × (o.2 ≡ [])

    by : (r : Option Refusal) → refusal_of (space_of s) address (length bytes.items) ≡ r
        → Good (option_map_or (refused s) r (answered replies.Done (consumed_in now owner)))
    by (Some r) is = (refl, refl)
    by None is =
        subst (λ (e : Effect). Good (answered replies.Done e)) (sym (quiet now ∙ ap (λ (t : State). (t, [])) (kept is)))
        (refl, refl)
