-- An event leaves the processors alone that it does not touch.
use Rattle.std.proofs.Common.{◌≡◌, ◌≢◌, ℕ, zero, suc, ◌+◌, ◌*◌, ◌/◌, ◌%◌, ◌^◌, ◌<◌, ◌==◌, ◌&&◌, ◌||◌, Bool, true, false, not, nat_lt, nat_le, List, [], ◌∷◌, length, Option, None, Some, Result, Ok, Err, set, refl, sym, ap, ◌∙◌, subst, arith}
use Rattle.std.specs.Prelude.{if◌then◌else◌, cond}
use Rattle.std.specs.List.{All}
use Rattle.std.specs.Option.{option_map_or}
use Rattle.std.specs.Int.{bit_at}
use Rattle.std.proofs.lemmas.Bool.Decides.{nat_tests}
use Rattle.std.proofs.lemmas.List.{get_or-set_other}
use Rattle.std.proofs.lemmas.List.Elements.{All-nil, All-head, All-tail}
use Rattle.arrayvec.specs.ArrayVec.{ArrayVec}
use Rattle.board_terms.specs.Dues.{Dues, number_of}
use Rattle.board_terms.specs.declared.messages.Message.TheVariants.{FromPort}
use Rattle.board_terms.specs.declared.messages.PortShape.{PortShape}
use Rattle.board_terms.specs.declared.messages.PortShape.TheVariants.{Messages, Flags}
use Rattle.board_terms.specs.declared.notices.Notice.TheVariants.{FlagSet}
use Rattle.board_terms.specs.declared.pages.Kind.{Kind}
use Rattle.board_terms.specs.declared.pages.Kind.TheVariants as kind
use Rattle.board_terms.specs.declared.pages.Owner.{Owner}
use Rattle.board_terms.specs.declared.pages.Owner.TheVariants as owners
use Rattle.board_terms.specs.declared.refusal.Refusal.{Refusal}
use Rattle.board_terms.specs.declared.refusal.Refusal.TheVariants.{BadLength, OutsideSpace, CrossesPage, Elsewhere, UnknownPort, BadType, BadFlag, SynicOff, ClockBack, NoSuchProcessor, BadTarget, AlreadySuspended, NotSuspended}
use Rattle.deadline_tree.specs.Deadlines.{is_due_by, has_due}
use Rattle.event_ports.specs.declared.ports.Port.{Port}
use Rattle.event_ports.specs.Ports.{port_at, open_refusal, is_posted_type, message_target_at, flag_place_at}
use Rattle.gpa_space.specs.Page.{overwritten, with_bit, flag_place}
use Rattle.gpa_space.specs.Space.{own_page, overlay_of, visible, overlay_owner, owner_of, visible_page, with_visible_page, refusal_of, page_count, is_flag_set}
use Rattle.lapic_core.specs.Apic.{next, after_end, with_task_priority, with_suspension as apic_with_suspension}
use Rattle.stimer_bank.specs.Bank.{dues, due_list, timer_in}
use Rattle.stimer_bank.specs.Timer.{after_config, after_count}
use Rattle.stimer_bank.specs.declared.timer.Timer.{Timer}
use Rattle.stimer_bank.specs.Bank.{with_timer}
use Rattle.stimer_bank.specs.DueList.{Timers, Each, IsDueBy}
use Rattle.stimer_bank.proofs.Members.{each-listed}
use Rattle.stimer_bank.proofs.Sorted.{sorted}
use Rattle.synic_regs.specs.Regs.{has, enable, is_refused, with_value}
use Rattle.synic_regs.specs.Registers.{Exists, register_of}
use Rattle.synic_regs.proofs.Numbers.{have_their_numbers}
use Rattle.synic_regs.specs.declared.register.Register.{Register}
use Rattle.synic_regs.specs.declared.register.Register.TheVariants as register
use Rattle.synic_board.specs.declared.event.Event.{Event}
use Rattle.synic_board.specs.declared.event.Event.TheVariants.{OpenPort, ClosePort, Write, Read, Post, Signal, Assert, Absorb, Store, Load, Tick, Take, Suspend, Resume, Reset, Send}
use Rattle.synic_board.specs.declared.event.Reply.{Reply}
use Rattle.synic_board.specs.declared.event.Reply.TheVariants as replies
use Rattle.synic_board.specs.State.{State, processors, apic_of, regs_of, space_of, bank_of, ports_of, with_apic, with_regs, with_bank, with_space}
use Rattle.synic_board.specs.Effects.{Effect, Outcome, nothing, after, answered, unchanged, refused, at_processor}
use Rattle.synic_board.specs.Interrupts.{requested, raised, taken_at, taken}
use Rattle.synic_board.specs.Absorbing.{absorbed, absorbed_below}
use Rattle.synic_board.specs.Posts.{with_port, without_port, withdrawn, closed_at, closed, post_refusal, posted_at, posted, with_flag, flagged, signalled_place, signalled_at, signalled}
use Rattle.synic_board.specs.Registers.{stored, written_register, written}
use Rattle.synic_board.specs.Resetting.{emptied, cleared, reset}
use Rattle.synic_board.specs.Sending.{sent_to, sent_below, sent}
use Rattle.synic_board.specs.Stores.{consumed_in, with_bytes, stored_bytes}
use Rattle.synic_board.specs.Suspending.{is_suspended, with_suspension, suspended, resumed}
use Rattle.synic_board.specs.Timers.{is_ready, attempted, attempted_until, written_timer, most_expiries, at_moment, ticked}
use Rattle.synic_board.specs.Sound.{PayloadFits, IsSound}
use Rattle.synic_board.specs.Run.{run_of}
use Rattle.synic_board.specs.Step.{step}
use Rattle.synic_board.proofs.keeping.Requests.{either}
use Rattle.synic_board.proofs.keeping.Wholes.{IsIntact, kept_from_sound}
use Rattle.synic_board.proofs.keeping.Steps.{keeps-step}
use Rattle.law_processors.specs.Isolation.{Keeps, processor_of, is_at, is_overlay_of, touches, LeavesAlone, Untouched, RunsAlone}
use Rattle.law_processors.proofs.Isolated.{keeps-then, Alone, alone-nothing, alone-after, alone-one, keeps-apic, keeps-regs, keeps-mark, keeps-own, keeps-timer, alone-requested, alone-raised}
use Rattle.law_processors.proofs.IsolatedEffects.{keeps-shared, alone-tried_below, alone-delivered, alone-absorbed_below, alone-consumed_below, alone-withdrawn, alone-emptied_below, keeps-cleared, alone-attempted}

-- the sources of open ports are in range
abbrev HasSources : State → Type 0
HasSources s = (k : ℕ) (p : Port) → port_at (ports_of s) k ≡ Some p → p.sint < 16

-- an outcome that leaves q alone
abbrev AloneIn : ℕ → State → Outcome → Type 0
AloneIn q s o = Alone q s (o.0, o.2)

quiet : (q : ℕ) (s now : State) (reply : Reply) → Keeps q s now → AloneIn q s (unchanged now reply)
quiet q s now reply h = (h, All-nil (λ notice. processor_of notice ≢ q))

alone-at : (q : ℕ) (s : State) (p : ℕ) (o : Outcome) → AloneIn q s o → AloneIn q s (at_processor s p o)
alone-at q s p o h =
    either (AloneIn q s) (nat_lt p (processors s)) o (refused s NoSuchProcessor) (λ _. h) (λ _. alone-nothing q s)

alone-unless : (q : ℕ) (s : State) (refusal : Option Refusal) (o : Outcome) → AloneIn q s o
    → AloneIn q s (option_map_or (refused s) refusal o)
alone-unless q s None o h = h
alone-unless q s (Some r) o h = alone-nothing q s

-- events of another processor
module _ (q p : ℕ) (apart : p ≢ q) where
  alone-absorbed : (s : State) (part bits : ℕ) → AloneIn q s (absorbed s p part bits)
  alone-absorbed s part bits =
      either (AloneIn q s) (nat_le part 3) (answered replies.Done (absorbed_below s p part bits 64))
      (refused s BadTarget) (λ _. alone-absorbed_below q p apart s part bits 64) (λ _. alone-nothing q s)

  alone-taken : (s : State) → AloneIn q s (taken s p)
  alone-taken s =
      elim (next (apic_of s p)) as
      (λ o. AloneIn q s (option_map_or (λ v. with_apic s p (taken_at s p v)) o s, replies.Taken o, [])) [
        | None ↦ alone-nothing q s
        | Some v ↦ quiet q s (with_apic s p (taken_at s p v)) (replies.Taken (Some v))
            (keeps-apic q p apart s (taken_at s p v))
      ]

  alone-marked : (s : State) (mark : Bool) → AloneIn q s (unchanged (with_suspension s p mark) replies.Done)
  alone-marked s mark =
      let a : State = with_apic s p (apic_with_suspension (apic_of s p) mark) in
      quiet q s (with_suspension s p mark) replies.Done
      (keeps-then q s a (with_suspension s p mark)
      (keeps-apic q p apart s (apic_with_suspension (apic_of s p) mark)) (keeps-mark q p apart a mark))

  alone-suspended : (s : State) → AloneIn q s (suspended s p)
  alone-suspended s =
      either (AloneIn q s) (is_suspended s p) (refused s AlreadySuspended)
      (unchanged (with_suspension s p true) replies.Done) (λ _. alone-nothing q s) (λ _. alone-marked s true)

  alone-resumed : (s : State) → AloneIn q s (resumed s p)
  alone-resumed s =
      either (AloneIn q s) (is_suspended s p) (unchanged (with_suspension s p false) replies.Done)
      (refused s NotSuspended) (λ _. alone-marked s false) (λ _. alone-nothing q s)

  alone-reset : (s : State) → AloneIn q s (reset s p)
  alone-reset s =
      let e : Effect = emptied s p in
      alone-after q s e (cleared e.0 p, []) (alone-emptied_below q p apart s 16 (omega arith))
      (keeps-cleared q p apart e.0, All-nil (λ notice. processor_of notice ≢ q))

  -- registers
  alone-stored : (s : State) (r : Register) (value : ℕ) → AloneIn q s (stored s p r value)
  alone-stored s r value =
      let now : State = with_regs s p (with_value (regs_of s p) r value) in
      either (AloneIn q s) (is_refused r value) (unchanged s replies.GeneralProtection) (unchanged now replies.Done)
      (λ _. alone-nothing q s)
      (λ _. quiet q s now replies.Done (keeps-regs q p apart s (with_value (regs_of s p) r value)))

  alone-timer : (s : State) (n : ℕ) (x : Timer) → n < 4
      → AloneIn q s (written_timer s (with_timer (bank_of s) (p, n) x) (p, n))
  alone-timer s n x low =
      let now : State = with_bank s (with_timer (bank_of s) (p, n) x) in
      alone-after q s (now, []) (attempted now (p, n))
      (keeps-timer q p apart s n x low, All-nil (λ notice. processor_of notice ≢ q))
      (alone-attempted q p apart now n low)

  alone-register : (s : State) (r : Register) (value : ℕ) → Exists r → AloneIn q s (written_register s p r value)
  alone-register s register.ReferenceCounter value there = alone-nothing q s
  alone-register s register.Eoi value there =
      quiet q s (with_apic s p (after_end (apic_of s p))) replies.Done
      (keeps-apic q p apart s (after_end (apic_of s p)))
  alone-register s register.Tpr value there =
      quiet q s (with_apic s p (with_task_priority (apic_of s p) (value % 256))) replies.Done
      (keeps-apic q p apart s (with_task_priority (apic_of s p) (value % 256)))
  alone-register s register.Control value there = alone-stored s register.Control value
  alone-register s register.Version value there = alone-nothing q s
  alone-register s register.Sief value there = alone-stored s register.Sief value
  alone-register s register.Sim value there = alone-stored s register.Sim value
  alone-register s register.Eom value there = alone-tried_below q p apart s 16 (omega arith)
  alone-register s (register.Source n) value there = alone-stored s (register.Source n) value
  alone-register s (register.TimerConfig n) value there =
      alone-timer s n (after_config (timer_in (bank_of s) (p, n)) value s.moment) there
  alone-register s (register.TimerCount n) value there =
      alone-timer s n (after_count (timer_in (bank_of s) (p, n)) value s.moment) there

  alone-written : (s : State) (number value : ℕ) → AloneIn q s (written s p number value)
  alone-written s number value = by (register_of number) refl
    where
      by : (o : Option Register) → register_of number ≡ o
          → AloneIn q s
          (option_map_or (λ r. written_register s p r value) o (unchanged s replies.GeneralProtection))
      by None is = alone-nothing q s
      by (Some r) is = alone-register s r value ((have_their_numbers number r).0 is).0

  -- a signal
  alone-flagged : (s : State) (i flag : ℕ) → AloneIn q s (signalled_place s (p, i, flag))
  alone-flagged s i flag =
      let lit : State = with_flag s p i flag in
      let kept : Keeps q s lit =
      keeps-own q p apart s kind.Sief
      (with_bit (own_page (space_of s) p kind.Sief) (flag_place i flag) (flag % 8)) in
      let found : Outcome = unchanged lit replies.FlagWasSet in
      let sets : Outcome = answered replies.FlagWasClear (after (flagged s p i flag) (raised lit p i)) in
      either (AloneIn q s) (not (has (regs_of s p).control enable && has (regs_of s p).sief enable))
      (refused s SynicOff) (cond (is_flag_set (space_of s) p i flag) found sets) (λ _. alone-nothing q s)
      (λ _. either (AloneIn q s) (is_flag_set (space_of s) p i flag) found sets
      (λ _. quiet q s lit replies.FlagWasSet kept)
      (λ _. alone-after q s (flagged s p i flag) (raised lit p i)
      (alone-one q s lit (FlagSet p i flag) kept apart) (alone-raised q p apart lit i)))

-- ports
other : (p q : ℕ) → (p == q) ≡ false → p ≢ q
other p q is same = grind (arith, nat_tests)

alone-closed : (q : ℕ) (s : State) (port : ℕ) → HasSources s → is_at q (port_at (ports_of s) port) ≡ false
    → AloneIn q s (closed s port)
alone-closed q s port sources = by (port_at (ports_of s) port) refl
  where
    by : (o : Option Port) → port_at (ports_of s) port ≡ o → is_at q o ≡ false
        → AloneIn q s (closed_at s port (option_map_or (λ p. Ok p) o (Err UnknownPort)))
    by None is to = alone-nothing q s
    by (Some x) is to =
        let now : State = without_port s port in
        alone-after q s (now, []) (withdrawn now x.vp x.sint port)
        (keeps-shared q s s.moment s.next_ticket s.pages now.ports, All-nil (λ notice. processor_of notice ≢ q))
        (alone-withdrawn q x.vp (other x.vp q to) now x.sint port (sources port x is))

alone-posted : (q : ℕ) (s : State) (port kind : ℕ) (payload : ArrayVec ℕ) → HasSources s
    → is_at q (port_at (ports_of s) port) ≡ false → AloneIn q s (posted s port kind payload)
alone-posted q s port kind payload sources = by (port_at (ports_of s) port) refl
  where
    to-port : (x : Port) → x.sint < 16 → x.vp ≢ q → AloneIn q s (posted_at s port kind payload (Ok x))
    to-port x low apart =
        alone-unless q s (post_refusal s port x.vp x.shape) _
        (alone-delivered q x.vp apart s x.sint (FromPort s.next_ticket port kind payload) low)

    shaped : (x : Port) (shape : PortShape) → x.sint < 16 → x.vp ≢ q
        → AloneIn q s (posted_at s port kind payload (message_target_at kind x shape))
    shaped x (Messages buffers) low apart =
        either (λ (r : Result Port Refusal). AloneIn q s (posted_at s port kind payload r)) (is_posted_type kind)
        (Ok x) (Err BadType) (λ _. to-port x low apart) (λ _. alone-nothing q s)
    shaped x (Flags base count) low apart = alone-nothing q s

    by : (o : Option Port) → port_at (ports_of s) port ≡ o → is_at q o ≡ false
        → AloneIn q s
        (posted_at s port kind payload
        (option_map_or (λ (p : Port). message_target_at kind p p.shape) o (Err UnknownPort)))
    by None is to = alone-nothing q s
    by (Some x) is to = shaped x x.shape (sources port x is) (other x.vp q to)

alone-signalled : (q : ℕ) (s : State) (port flag : ℕ) → is_at q (port_at (ports_of s) port) ≡ false
    → AloneIn q s (signalled s port flag)
alone-signalled q s port flag = by (port_at (ports_of s) port)
  where
    shaped : (x : Port) (shape : PortShape) → x.vp ≢ q
        → AloneIn q s (signalled_at s (flag_place_at flag x shape))
    shaped x (Messages buffers) apart = alone-nothing q s
    shaped x (Flags base count) apart =
        either (λ (r : Result (ℕ × ℕ × ℕ) Refusal). AloneIn q s (signalled_at s r)) (nat_lt flag count)
        (Ok (x.vp, x.sint, base + flag)) (Err BadFlag) (λ _. alone-flagged q x.vp apart s x.sint (base + flag))
        (λ _. alone-nothing q s)

    by : (o : Option Port) → is_at q o ≡ false
        → AloneIn q s
        (signalled_at s (option_map_or (λ (p : Port). flag_place_at flag p p.shape) o (Err UnknownPort)))
    by None to = alone-nothing q s
    by (Some x) to = shaped x x.shape (other x.vp q to)

-- a send
alone-sent_below : (q : ℕ) (s : State) (v mask n : ℕ) → (bit_at mask q == 1) ≡ false
    → Alone q s (sent_below s v mask n)
unfolding sent_below
alone-sent_below q s v mask zero clear = alone-nothing q s
alone-sent_below q s v mask (suc p) clear =
    let e : Effect = sent_below s v mask p in
    alone-after q s e (sent_to e.0 v mask p) (alone-sent_below q s v mask p clear)
    (either (Alone q e.0) (bit_at mask p == 1) (requested e.0 p v) (nothing e.0)
    (λ is. alone-requested q p (apart is) e.0 v) (λ _. alone-nothing q e.0))
  where
    apart : (bit_at mask p == 1) ≡ true → p ≢ q
    apart is same =
        let never : true ≡ false = sym is ∙ ap (λ x. bit_at mask x == 1) same ∙ clear in absurd (cc)

alone-sent : (q : ℕ) (s : State) (v mask : ℕ) → (bit_at mask q == 1) ≡ false → AloneIn q s (sent s v mask)
alone-sent q s v mask clear =
    either (AloneIn q s) (nat_lt mask (2 ^ processors s)) (answered replies.Done (sent_below s v mask 64))
    (refused s NoSuchProcessor) (λ _. alone-sent_below q s v mask 64 clear) (λ _. alone-nothing q s)

-- a store: the byte is in a guest page, or in the visible overlay's own page
abbrev pub there : State → ℕ → List ℕ → Option ℕ → State
there s page bytes o =
    option_map_or (λ overlay. record s { own = set s.own overlay bytes }) o
    (record s { pages = set s.pages page bytes })

pub there-is : (s : State) (page : ℕ) (bytes : List ℕ)
    → with_space s (with_visible_page (space_of s) page bytes) ≡ there s page bytes (visible (space_of s) page)
there-is s page bytes = seen (visible (space_of s) page)
  where
    seen : (o : Option ℕ)
        → with_space s (option_map_or (λ overlay. record (space_of s) { own = set s.own overlay bytes }) o
        (record (space_of s) { pages = set s.pages page bytes })) ≡ there s page bytes o
    seen None = refl
    seen (Some k) = refl

not-of : (q o : ℕ) → is_overlay_of q (overlay_owner o) ≡ false → (k : Kind) → overlay_of q k ≢ o
not-of q o untouched =
    either (λ owner. is_overlay_of q owner ≡ false → (k : Kind) → overlay_of q k ≢ o) (o % 2 == 0)
    (owners.Sim (o / 2)) (owners.Sief (o / 2)) (λ _ miss. apart (other (o / 2) q miss))
    (λ _ miss. apart (other (o / 2) q miss)) untouched
  where
    apart : o / 2 ≢ q → (k : Kind) → overlay_of q k ≢ o
    apart ne kind.Sim same = ne (omega arith)
    apart ne kind.Sief same = ne (omega arith)

keeps-there : (q : ℕ) (s : State) (page : ℕ) (bytes : List ℕ) (o : Option ℕ)
    → is_overlay_of q (option_map_or overlay_owner o owners.Guest) ≡ false → Keeps q s (there s page bytes o)
keeps-there q s page bytes None untouched =
    keeps-shared q s s.moment s.next_ticket (set s.pages page bytes) s.ports
keeps-there q s page bytes (Some o) untouched =
    record {
      apic = refl;
      regs = refl;
      suspended = refl;
      pages = λ k. get_or-set_other s.own o (overlay_of q k) bytes [] (not-of q o untouched k);
      queues = λ i _. refl;
      slots = λ i _. refl;
      timers = λ n _. refl;
    }

alone-consumed_in : (q : ℕ) (s : State) (owner : Owner) → is_overlay_of q owner ≡ false
    → Alone q s (consumed_in s owner)
alone-consumed_in q s owners.Guest untouched = alone-nothing q s
alone-consumed_in q s (owners.Sim p) untouched = alone-consumed_below q p (other p q untouched) s 16 (omega arith)
alone-consumed_in q s (owners.Sief p) untouched = alone-nothing q s
alone-consumed_in q s owners.Nothing untouched = alone-nothing q s

-- a store that is not refused is to a page of the guest's
pub inside : (a b c d : Bool)
    → (if a then Some BadLength else if not b then Some OutsideSpace else if c then Some CrossesPage
    else if d then Some Elsewhere else None) ≡ None → b ≡ true
inside true b c d e = absurd (cc)
inside false true c d e = refl
inside false false c d e = absurd (cc)

alone-stored_bytes : (q : ℕ) (s : State) (address : ℕ) (bytes : List ℕ)
    → is_overlay_of q (owner_of (space_of s) (address / 4096)) ≡ false → AloneIn q s (stored_bytes s address bytes)
alone-stored_bytes q s address bytes untouched = by (refusal_of (space_of s) address (length bytes)) refl
  where
    page : ℕ
    page = address / 4096

    new : List ℕ
    new = overwritten (visible_page (space_of s) page) (address % 4096) bytes

    now : State
    now = with_bytes s address bytes

    o : Option ℕ
    o = visible (space_of s) page

    kept : refusal_of (space_of s) address (length bytes) ≡ None → Keeps q s now
    kept is =
        subst (Keeps q s)
        (sym (ap (λ (r : Option Refusal). with_space s
        (option_map_or (λ _. space_of s) r (with_visible_page (space_of s) page new))) is ∙ there-is s page new))
        (keeps-there q s page new o
        (sym (ap (λ b. is_overlay_of q (if b then option_map_or overlay_owner o owners.Guest else owners.Nothing))
        (inside _ (nat_lt page (page_count (space_of s))) _ _ is)) ∙ untouched))

    by : (r : Option Refusal) → refusal_of (space_of s) address (length bytes) ≡ r
        → AloneIn q s
        (option_map_or (refused s) r (answered replies.Done (consumed_in now (owner_of (space_of s) page))))
    by (Some r) is = alone-nothing q s
    by None is =
        let owner : Owner = owner_of (space_of s) page in
        alone-after q s (now, []) (consumed_in now owner) (kept is, All-nil (λ notice. processor_of notice ≢ q))
        (alone-consumed_in q now owner untouched)

-- a tick
abbrev IsElsewhere : ℕ → ℕ × ℕ → Type 0
IsElsewhere q t = (t.0 ≢ q) × (t.1 < 4)

alone-attempted_until : (q few : ℕ) (s : State) (ts : Timers) → Each (IsElsewhere q) ts
    → Alone q s (attempted_until few s ts)
unfolding attempted_until
alone-attempted_until q zero s ts each = alone-nothing q s
alone-attempted_until q (suc few) s [] each = alone-nothing q s
alone-attempted_until q (suc few) s (t ∷ ts) each =
    let e : Effect = attempted s t in
    let left : ℕ = if is_ready s t then few else suc few in
    alone-after q s e (attempted_until left e.0 ts) (alone-attempted q t.0 each.0.0 s t.1 each.0.1)
    (alone-attempted_until q left e.0 ts each.1)

pub both : (P Q R : ℕ × ℕ → Type 0) → ((t : ℕ × ℕ) → P t → Q t → R t) → (ts : Timers) → Each P ts → Each Q ts
    → Each R ts
both P Q R f [] h k = tt
both P Q R f (t ∷ ts) h k = (f t h.0 k.0, both P Q R f ts h.1 k.1)

pub four-clear : (a b c d : Bool) → (a || b || c || d) ≡ false
    → (a ≡ false) × (b ≡ false) × (c ≡ false) × (d ≡ false)
four-clear true b c d e = absurd (cc)
four-clear false true c d e = absurd (cc)
four-clear false false true d e = absurd (cc)
four-clear false false false true e = absurd (cc)
four-clear false false false false e = (refl, refl, refl, refl)

pub none-is-due : (m : Dues) (moment q : ℕ) → has_due m moment q ≡ false → (n : ℕ) → n < 4
    → is_due_by m moment (number_of (q, n)) ≡ false
none-is-due m moment q none =
    each (four-clear (is_due_by m moment (number_of (q, 0))) (is_due_by m moment (number_of (q, 1)))
    (is_due_by m moment (number_of (q, 2))) (is_due_by m moment (number_of (q, 3))) none)
  where
    Clear : ℕ → Type 0
    Clear n = is_due_by m moment (number_of (q, n)) ≡ false

    each : Clear 0 × Clear 1 × Clear 2 × Clear 3 → (n : ℕ) → n < 4 → Clear n
    each h zero low = h.0
    each h (suc zero) low = h.1
    each h (suc (suc zero)) low = h.2
    each h (suc (suc (suc zero))) low = h.3
    each h (suc (suc (suc (suc n)))) low = absurd (omega arith)

listed-elsewhere : (m : Dues) (moment q : ℕ) → has_due m moment q ≡ false → Each (IsElsewhere q) (due_list m moment)
listed-elsewhere m moment q none =
    both (λ t. t.1 < 4) (IsDueBy m moment (length m)) (IsElsewhere q) elsewhere (due_list m moment)
    (each-listed (λ t. t.1 < 4) (λ n. omega arith) m moment) (sorted m moment).each
  where
    elsewhere : (t : ℕ × ℕ) → t.1 < 4 → IsDueBy m moment (length m) t → IsElsewhere q t
    elsewhere t low is = (apart, low)
      where
        reached : is_due_by m moment (number_of t) ≡ true
        reached =
            let by = is.by in
            let late : nat_le is.due moment ≡ true = grind (arith, nat_tests) in
            ap (λ o. option_map_or (λ d. nat_le d moment) o false) is.is ∙ late

        apart : t.0 ≢ q
        apart same =
            let never : true ≡ false =
            sym reached ∙ ap (λ x. is_due_by m moment (4 * x + t.1)) same ∙ none-is-due m moment q none t.1 low in
            absurd (cc)

alone-ticked : (q : ℕ) (s : State) (moment : ℕ)
    → (nat_lt s.moment moment && has_due (dues (bank_of s)) moment q) ≡ false → AloneIn q s (ticked s moment)
alone-ticked q s moment untouched =
    let now : State = at_moment s moment in
    let m : Dues = dues (bank_of s) in
    let e : Effect = attempted_until most_expiries now (due_list m moment) in
    either (AloneIn q s) (nat_lt moment s.moment) (refused s ClockBack)
    (cond (moment == s.moment) (unchanged s replies.Done) (answered replies.Done e)) (λ _. alone-nothing q s)
    (λ not_back. either (AloneIn q s) (moment == s.moment) (unchanged s replies.Done) (answered replies.Done e)
    (λ _. alone-nothing q s)
    (λ not_now. alone-after q s (now, []) e
    (keeps-shared q s moment s.next_ticket s.pages s.ports, All-nil (λ notice. processor_of notice ≢ q))
    (alone-attempted_until q most_expiries now (due_list m moment)
    (listed-elsewhere m moment q (later not_back not_now)))))
  where
    later : nat_lt moment s.moment ≡ false → (moment == s.moment) ≡ false
        → has_due (dues (bank_of s)) moment q ≡ false
    later a b =
        let is : nat_lt s.moment moment ≡ true = grind (arith, nat_tests) in
        sym (ap (λ x. x && has_due (dues (bank_of s)) moment q) is) ∙ untouched

-- each event
alone-event : (q : ℕ) (s : State) (event : Event) → HasSources s → touches s event q ≡ false
    → AloneIn q s (step s event)
unfolding step
alone-event q s (OpenPort port p i shape) sources untouched =
    let now : State = with_port s port (record { vp = p; sint = i; shape = shape }) in
    alone-unless q s (open_refusal (ports_of s) port p i shape) (unchanged now replies.Done)
    (quiet q s now replies.Done (keeps-shared q s s.moment s.next_ticket s.pages now.ports))
alone-event q s (ClosePort port) sources untouched = alone-closed q s port sources untouched
alone-event q s (Write p number value) sources untouched =
    alone-at q s p _ (alone-written q p (other p q untouched) s number value)
alone-event q s (Read p number) sources untouched = alone-at q s p _ (alone-nothing q s)
alone-event q s (Post port kind payload) sources untouched = alone-posted q s port kind payload sources untouched
alone-event q s (Signal port flag) sources untouched = alone-signalled q s port flag untouched
alone-event q s (Assert p v) sources untouched =
    alone-at q s p _ (alone-requested q p (other p q untouched) s v)
alone-event q s (Absorb p part bits) sources untouched =
    alone-at q s p _ (alone-absorbed q p (other p q untouched) s part bits)
alone-event q s (Store address bytes) sources untouched = alone-stored_bytes q s address bytes.items untouched
alone-event q s (Load address count) sources untouched = alone-nothing q s
alone-event q s (Tick moment) sources untouched = alone-ticked q s moment untouched
alone-event q s (Take p) sources untouched = alone-at q s p _ (alone-taken q p (other p q untouched) s)
alone-event q s (Suspend p) sources untouched = alone-at q s p _ (alone-suspended q p (other p q untouched) s)
alone-event q s (Resume p) sources untouched = alone-at q s p _ (alone-resumed q p (other p q untouched) s)
alone-event q s (Reset p) sources untouched = alone-at q s p _ (alone-reset q p (other p q untouched) s)
alone-event q s (Send v mask) sources untouched = alone-sent q s v mask untouched

pub leaves-alone : (s : State) (event : Event) (q : ℕ) → IsSound s → touches s event q ≡ false
    → LeavesAlone s event q
leaves-alone s event q sound untouched =
    let h : AloneIn q s (step s event) =
    alone-event q s event (λ k p is. (sound.whole.ports k p is).1) untouched in
    record { state = h.0; notices = h.1 }

-- a run
alone-run : (n q : ℕ) (s : State) (events : List Event) → All PayloadFits events → IsIntact n s → Untouched s events q
    → Alone q s ((run_of s events).0, (run_of s events).2)
unfolding run_of
alone-run n q s [] fit h untouched = alone-nothing q s
alone-run n q s (e ∷ es) fit h untouched =
    let now : State = (step s e).0 in
    alone-after q s (now, (step s e).2) ((run_of now es).0, (run_of now es).2)
    (alone-event q s e (λ k p is. (h.whole.ports k p is).1) untouched.0)
    (alone-run n q now es (All-tail PayloadFits e es fit) (keeps-step n s e (All-head PayloadFits e es fit) h).kept
    untouched.1)

pub runs_alone : (s : State) (events : List Event) (q : ℕ) → All PayloadFits events → IsSound s
    → Untouched s events q → RunsAlone s events q
runs_alone s events q fit sound untouched =
    let h = alone-run (processors s) q s events fit (kept_from_sound s sound) untouched in
    record { state = h.0; notices = h.1 }
