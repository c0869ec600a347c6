-- Events on a board whose local APICs are changed.
use Rattle.std.proofs.Common.{◌≡◌, ℕ, ◌^◌, ◌/◌, ◌%◌, ◌==◌, Bool, true, false, ◌&&◌, nat_lt, nat_le, List, [], length, Option, None, Some, ap, ◌∙◌}
use Rattle.std.specs.Prelude.{Result, Ok, Err, not, if◌then◌else◌}
use Rattle.std.specs.Option.{option_map_or}
use Rattle.arrayvec.specs.ArrayVec.{ArrayVec}
use Rattle.board_terms.specs.declared.messages.Message.TheVariants.{FromPort}
use Rattle.board_terms.specs.declared.messages.PortShape.{PortShape}
use Rattle.board_terms.specs.declared.refusal.Refusal.{Refusal}
use Rattle.board_terms.specs.declared.refusal.Refusal.TheVariants.{NoSuchProcessor, SynicOff, ClockBack, BadTarget, AlreadySuspended, NotSuspended}
use Rattle.event_ports.specs.declared.ports.Port.{Port}
use Rattle.event_ports.specs.Ports.{Ports, open_refusal, target_of, message_target_of, flag_place_of}
use Rattle.gpa_space.specs.Space.{is_flag_set, refusal_of, owner_of}
use Rattle.lapic_core.specs.Apic.{after_end, with_task_priority}
use Rattle.stimer_bank.specs.Bank.{dues, due_list, with_config, with_count}
use Rattle.synic_regs.specs.Regs.{has, enable, is_refused, with_value}
use Rattle.synic_regs.specs.Registers.{register_of}
use Rattle.synic_regs.specs.declared.register.Register.{Register}
use Rattle.synic_regs.specs.declared.register.Register.TheVariants.{ReferenceCounter, Eoi, Tpr, Control, Version, Sief, Sim, Eom, Source, TimerConfig, TimerCount}
use Rattle.synic_board.specs.declared.event.Event.{Event}
use Rattle.synic_board.specs.declared.event.Event.TheVariants.{OpenPort, ClosePort, Write, Read, Post, Signal, Assert, Absorb, Store, Load, Tick, Take, Suspend, Resume, Reset, Send}
use Rattle.synic_board.specs.declared.event.Reply.{Reply}
use Rattle.synic_board.specs.declared.event.Reply.TheVariants.{Done, Accepted, FlagWasClear, FlagWasSet, GeneralProtection}
use Rattle.synic_board.specs.State.{State, processors, apic_of, regs_of, ports_of, space_of, bank_of, with_apic, with_regs, with_bank}
use Rattle.synic_board.specs.Effects.{Effect, Outcome, after, answered, unchanged, refused, at_processor}
use Rattle.synic_board.specs.Interrupts.{requested, raised}
use Rattle.synic_board.specs.Absorbing.{absorbed_below, absorbed}
use Rattle.synic_board.specs.Sending.{sent_below, sent}
use Rattle.synic_board.specs.Delivery.{tried_below, delivered}
use Rattle.synic_board.specs.Posts.{with_port, opened_port, closed_at, closed, post_refusal, posted_at, posted, with_flag, flagged, signalled_at, signalled}
use Rattle.synic_board.specs.Registers.{stored, written_register, written, read}
use Rattle.synic_board.specs.Suspending.{is_suspended, with_suspension, suspended, resumed}
use Rattle.synic_board.specs.Resetting.{emptied, cleared, reset}
use Rattle.synic_board.specs.Stores.{consumed_in, with_bytes, stored_bytes, read_bytes}
use Rattle.synic_board.specs.Timers.{attempted, attempted_until, most_expiries, at_moment, ticked}
use Rattle.synic_board.specs.Step.{step}
use Rattle.law_processors.proofs.Carried.{Change, changed, Carries, IsCarried, carried-raised, carried-absorbed, carried-sent_below, carried-tried_below, carried-delivered, carried-attempted, carried-attempted_until, carried-emptied, carried-consumed_in}

-- what is compared of an outcome
abbrev with_reply : Reply → Effect → Outcome
with_reply reply e = (e.0, reply, e.1)

abbrev pub left_of : Change → Outcome → Outcome
left_of c o = with_reply o.1 (c.left (o.0, o.2))

abbrev pub right_of : Change → Outcome → Outcome
right_of c o = with_reply o.1 (c.right (o.0, o.2))

module _ (c : Change) (k : IsCarried c) where
  abbrev h : State → State
  h s = changed c s

  abbrev LO : Outcome → Outcome
  LO o = left_of c o

  abbrev RO : Outcome → Outcome
  RO o = right_of c o

  abbrev CarriesTo : (State → Outcome) → Type 0
  CarriesTo f = (s : State) → LO (f (h s)) ≡ RO (f s)

  kept-outcome : (o : Outcome) → LO (h o.0, o.1, o.2) ≡ RO o
  kept-outcome o = ap (with_reply o.1) (k.kept (o.0, o.2))

  same-answer : (reply : Reply) (s : State) (f : State → Effect) → c.left (f (h s)) ≡ c.right (f s)
      → LO (answered reply (f (h s))) ≡ RO (answered reply (f s))
  same-answer reply s f e = ap (with_reply reply) e

  -- either of two
  cases : (s : State) (b : Bool) (f g : State → Outcome) → LO (f (h s)) ≡ RO (f s) → LO (g (h s)) ≡ RO (g s)
      → LO (if b then f (h s) else g (h s)) ≡ RO (if b then f s else g s)
  cases s true f g p q = p
  cases s false f g p q = q

  carried-unchanged : (s : State) (reply : Reply) → LO (unchanged (h s) reply) ≡ RO (unchanged s reply)
  carried-unchanged s reply = kept-outcome (unchanged s reply)

  count-h : (s : State) → processors (h s) ≡ processors s
  count-h s = k.count s.apics

  at : (p : ℕ) (f : State → Outcome) → CarriesTo f → CarriesTo (λ s. at_processor s p (f s))
  at p f blind s = ap (λ n. LO (if nat_lt p n then f (h s) else refused (h s) NoSuchProcessor)) (count-h s)
      ∙ cases s (nat_lt p (processors s)) f (λ x. refused x NoSuchProcessor) (blind s) (carried-unchanged s _)

  -- refused, or not
  unless : (s : State) (o : Option Refusal) (f : State → Outcome) → LO (f (h s)) ≡ RO (f s)
      → LO (option_map_or (refused (h s)) o (f (h s))) ≡ RO (option_map_or (refused s) o (f s))
  unless s None f p = p
  unless s (Some r) f p = carried-unchanged s _

  ports-h : (s : State) → ports_of (h s) ≡ ports_of s
  ports-h s = ap (λ n. record { processors = n; ports = s.ports }) (count-h s)

  carried-opened : (port p i : ℕ) (shape : PortShape) → CarriesTo (λ s. opened_port s port p i shape)
  carried-opened port p i shape s =
      ap (λ (ports : Ports). LO
      (option_map_or (refused (h s)) (open_refusal ports port p i shape)
      (unchanged (with_port (h s) port (record { vp = p; sint = i; shape = shape })) Done))) (ports-h s)
      ∙ unless s (open_refusal (ports_of s) port p i shape)
      (λ x. unchanged (with_port x port (record { vp = p; sint = i; shape = shape })) Done)
      (kept-outcome (unchanged (with_port s port (record { vp = p; sint = i; shape = shape })) Done))

  carried-closed : (port : ℕ) → CarriesTo (λ s. closed s port)
  carried-closed port s =
      ap (λ (ports : Ports). LO (closed_at (h s) port (target_of ports port))) (ports-h s)
      ∙ by (target_of (ports_of s) port)
    where
      by : (r : Result Port Refusal) → LO (closed_at (h s) port r) ≡ RO (closed_at s port r)
      by (Err r) = carried-unchanged s _
      by (Ok p) = kept-outcome (closed_at s port (Ok p))

  carried-posted : (port kind : ℕ) (payload : ArrayVec ℕ) → CarriesTo (λ s. posted s port kind payload)
  carried-posted port kind payload s =
      ap (λ (ports : Ports). LO (posted_at (h s) port kind payload (message_target_of ports port kind)))
      (ports-h s) ∙ by (message_target_of (ports_of s) port kind)
    where
      by : (r : Result Port Refusal) → LO (posted_at (h s) port kind payload r) ≡ RO (posted_at s port kind payload r)
      by (Err r) = carried-unchanged s _
      by (Ok p) = unless s (post_refusal s port p.vp p.shape)
          (λ x. answered (Accepted x.next_ticket) (delivered x p.vp p.sint (FromPort x.next_ticket port kind payload)))
          (same-answer (Accepted s.next_ticket) s
          (λ x. delivered x p.vp p.sint (FromPort s.next_ticket port kind payload))
          (carried-delivered c k p.vp p.sint (FromPort s.next_ticket port kind payload) s))

  carried-signalled_at : (port flag : ℕ) → CarriesTo (λ s. signalled s port flag)
  carried-signalled_at port flag s =
      ap (λ (ports : Ports). LO (signalled_at (h s) (flag_place_of ports port flag))) (ports-h s)
      ∙ by (flag_place_of (ports_of s) port flag)
    where
      by : (r : Result (ℕ × ℕ × ℕ) Refusal) → LO (signalled_at (h s) r) ≡ RO (signalled_at s r)
      by (Err r) = carried-unchanged s _
      by (Ok (p, i, flag)) =
          cases s (not (has (regs_of s p).control enable && has (regs_of s p).sief enable)) (λ x. refused x SynicOff)
          (λ x. if is_flag_set (space_of x) p i flag then unchanged (with_flag x p i flag) FlagWasSet
          else answered FlagWasClear (after (flagged x p i flag) (raised (with_flag x p i flag) p i)))
          (carried-unchanged s _)
          (cases s (is_flag_set (space_of s) p i flag) (λ x. unchanged (with_flag x p i flag) FlagWasSet)
          (λ x. answered FlagWasClear (after (flagged x p i flag) (raised (with_flag x p i flag) p i)))
          (kept-outcome (unchanged (with_flag s p i flag) FlagWasSet))
          (same-answer FlagWasClear s (λ x. after (flagged x p i flag) (raised (with_flag x p i flag) p i))
          (k.joined (λ x. flagged x p i flag) (λ x. raised x p i) (λ x. k.kept (flagged x p i flag))
          (carried-raised c k p i) s)))

  carried-ticked : (moment : ℕ) → CarriesTo (λ s. ticked s moment)
  carried-ticked moment s = cases s (nat_lt moment s.moment) (λ x. refused x ClockBack)
      (λ x. if moment == x.moment then unchanged x Done
      else answered Done (attempted_until most_expiries (at_moment x moment) (due_list (dues (bank_of x)) moment)))
      (carried-unchanged s _)
      (cases s (moment == s.moment) (λ x. unchanged x Done)
      (λ x. answered Done (attempted_until most_expiries (at_moment x moment) (due_list (dues (bank_of x)) moment)))
      (carried-unchanged s _)
      (same-answer Done (at_moment s moment) (λ x. attempted_until most_expiries x (due_list (dues (bank_of s)) moment))
      (carried-attempted_until c k most_expiries (due_list (dues (bank_of s)) moment) (at_moment s moment))))

  carried-written : (p number value : ℕ) → CarriesTo (λ s. written s p number value)
  carried-written p number value s = by (register_of number)
    where
      stores : (r : Register) → LO (stored (h s) p r value) ≡ RO (stored s p r value)
      stores r = cases s (is_refused r value) (λ x. unchanged x GeneralProtection)
          (λ x. unchanged (with_regs x p (with_value (regs_of x p) r value)) Done)
          (carried-unchanged s _) (kept-outcome (unchanged (with_regs s p (with_value (regs_of s p) r value)) Done))

      writes : (r : Register) → LO (written_register (h s) p r value) ≡ RO (written_register s p r value)
      writes ReferenceCounter = carried-unchanged s _
      writes Eoi = same-answer Done s (λ x. (with_apic x p (after_end (apic_of x p)), [])) (k.ends p s)
      writes Tpr =
          same-answer Done s (λ x. (with_apic x p (with_task_priority (apic_of x p) (value % 256)), []))
          (k.priorities p (value % 256) s)
      writes Control = stores Control
      writes Version = carried-unchanged s _
      writes Sief = stores Sief
      writes Sim = stores Sim
      writes Eom = same-answer Done s (λ x. tried_below x p 16) (carried-tried_below c k p 16 s)
      writes (Source n) = stores (Source n)
      writes (TimerConfig n) =
          same-answer Done (with_bank s (with_config (bank_of s) (p, n) value s.moment)) (λ x. attempted x (p, n))
          (carried-attempted c k (p, n) (with_bank s (with_config (bank_of s) (p, n) value s.moment)))
      writes (TimerCount n) =
          same-answer Done (with_bank s (with_count (bank_of s) (p, n) value s.moment)) (λ x. attempted x (p, n))
          (carried-attempted c k (p, n) (with_bank s (with_count (bank_of s) (p, n) value s.moment)))

      by : (o : Option Register)
          → LO (option_map_or (λ r. written_register (h s) p r value) o (unchanged (h s) GeneralProtection))
          ≡ RO (option_map_or (λ r. written_register s p r value) o (unchanged s GeneralProtection))
      by None = carried-unchanged s _
      by (Some r) = writes r

  carried-absorb : (p part bits : ℕ) → CarriesTo (λ s. absorbed s p part bits)
  carried-absorb p part bits s =
      cases s (nat_le part 3) (λ x. answered Done (absorbed_below x p part bits 64)) (λ x. refused x BadTarget)
      (same-answer Done s (λ x. absorbed_below x p part bits 64) (carried-absorbed c k p part bits 64 s))
      (carried-unchanged s _)

  carried-sent : (v mask : ℕ) → CarriesTo (λ s. sent s v mask)
  carried-sent v mask s =
      ap (λ n. LO (if nat_lt mask (2 ^ n) then answered Done (sent_below (h s) v mask 64)
      else refused (h s) NoSuchProcessor)) (count-h s)
      ∙ cases s (nat_lt mask (2 ^ processors s)) (λ x. answered Done (sent_below x v mask 64))
      (λ x. refused x NoSuchProcessor)
      (same-answer Done s (λ x. sent_below x v mask 64) (carried-sent_below c k v mask 64 s)) (carried-unchanged s _)

  carried-suspended : (p : ℕ) → CarriesTo (λ s. suspended s p)
  carried-suspended p s =
      ap (λ (b : Bool). LO (if b then refused (h s) AlreadySuspended
      else unchanged (with_suspension (h s) p true) Done)) (k.marks s p)
      ∙ cases s (is_suspended s p) (λ x. refused x AlreadySuspended) (λ x. unchanged (with_suspension x p true) Done)
      (carried-unchanged s _) (same-answer Done s (λ x. (with_suspension x p true, [])) (k.suspensions p true s))

  carried-resumed : (p : ℕ) → CarriesTo (λ s. resumed s p)
  carried-resumed p s =
      ap (λ (b : Bool). LO (if b then unchanged (with_suspension (h s) p false) Done
      else refused (h s) NotSuspended)) (k.marks s p)
      ∙ cases s (is_suspended s p) (λ x. unchanged (with_suspension x p false) Done) (λ x. refused x NotSuspended)
      (same-answer Done s (λ x. (with_suspension x p false, [])) (k.suspensions p false s)) (carried-unchanged s _)

  carried-stored : (address : ℕ) (bytes : List ℕ) → CarriesTo (λ s. stored_bytes s address bytes)
  carried-stored address bytes s =
      unless s (refusal_of (space_of s) address (length bytes))
      (λ x. answered Done (consumed_in (with_bytes x address bytes) (owner_of (space_of x) (address / 4096))))
      (same-answer Done (with_bytes s address bytes) (λ x. consumed_in x (owner_of (space_of s) (address / 4096)))
      (carried-consumed_in c k (owner_of (space_of s) (address / 4096)) (with_bytes s address bytes)))

  -- each event, except those that are left out: a read that replies alike, and a reset whose change is carried
  module _ (skip : Event → Bool) (takes : (p : ℕ) → skip (Take p) ≡ true)
      (reads : (s : State) (p number : ℕ) → skip (Read p number) ≡ false → read (h s) p number ≡ read s p number)
      (resets : (p : ℕ) → skip (Reset p) ≡ false → Carries c (λ s. (cleared s p, []))) where
    pub carried-step : (s : State) (event : Event) → skip event ≡ false → LO (step (h s) event) ≡ RO (step s event)
    unfolding step
    carried-step s (OpenPort port p i shape) e = carried-opened port p i shape s
    carried-step s (ClosePort port) e = carried-closed port s
    carried-step s (Write p number value) e = at p (λ x. written x p number value) (carried-written p number value) s
    carried-step s (Read p number) e =
        ap (λ (r : Reply). LO (at_processor (h s) p (unchanged (h s) r))) (reads s p number e)
        ∙ at p (λ x. unchanged x (read s p number)) (λ x. carried-unchanged x (read s p number)) s
    carried-step s (Post port kind payload) e = carried-posted port kind payload s
    carried-step s (Signal port flag) e = carried-signalled_at port flag s
    carried-step s (Assert p v) e =
        at p (λ x. answered Done (requested x p v))
        (λ x. same-answer Done x (λ y. requested y p v) (k.requests p v x)) s
    carried-step s (Absorb p part bits) e = at p (λ x. absorbed x p part bits) (carried-absorb p part bits) s
    carried-step s (Store address bytes) e = carried-stored address bytes.items s
    carried-step s (Load address count) e = carried-unchanged s (read_bytes s address count)
    carried-step s (Tick moment) e = carried-ticked moment s
    carried-step s (Take p) e = let takes_it = takes p in absurd (cc)
    carried-step s (Suspend p) e = at p (λ x. suspended x p) (carried-suspended p) s
    carried-step s (Resume p) e = at p (λ x. resumed x p) (carried-resumed p) s
    carried-step s (Reset p) e =
        at p (λ x. reset x p)
        (λ x. same-answer Done x (λ y. after (emptied y p) (cleared (emptied y p).0 p, []))
        (k.joined (λ y. emptied y p) (λ y. (cleared y p, [])) (carried-emptied c k p 16) (resets p e) x)) s
    carried-step s (Send v mask) e = carried-sent v mask s
