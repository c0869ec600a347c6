-- States that agree in what processor q has, and in what processors share: events of processor q.
use Rattle.std.proofs.Common.{◌≡◌, ◌≢◌, ℕ, ◌+◌, ◌*◌, ◌/◌, ◌%◌, ◌<◌, ◌==◌, Bool, true, false, nat_lt, nat_le, [], Option, None, Some, get_or, refl, sym, ap, ◌∙◌, subst, arith}
use Rattle.std.specs.Option.{option_map_or}
use Rattle.std.specs.FinSet as finset
use Rattle.std.proofs.lemmas.Bool.Decides.{nat_tests}
use Rattle.board_terms.specs.declared.pages.Kind.TheVariants as kind
use Rattle.board_terms.specs.declared.refusal.Refusal.TheVariants.{NoSuchProcessor, BadTarget, AlreadySuspended, NotSuspended}
use Rattle.lapic_core.specs.Apic.{Apic, next, after_end, take_vector, with_task_priority, with_suspension as apic_with_suspension, empty_apic}
use Rattle.stimer_bank.specs.declared.timer.Timer.{Timer}
use Rattle.stimer_bank.specs.Timer.{after_config, after_count}
use Rattle.stimer_bank.specs.Bank.{timer_in, with_timer, idle_timer}
use Rattle.synic_regs.specs.Regs.{Regs, is_refused, with_value, value_of, auto_vectors, reset_regs}
use Rattle.synic_regs.specs.Registers.{Exists, register_of}
use Rattle.synic_regs.proofs.Numbers.{have_their_numbers}
use Rattle.synic_regs.specs.declared.register.Register.{Register}
use Rattle.synic_regs.specs.declared.register.Register.TheVariants as register
use Rattle.synic_board.specs.declared.event.Reply.{Reply}
use Rattle.synic_board.specs.declared.event.Reply.TheVariants as replies
use Rattle.synic_board.specs.State.{State, processors, apic_of, regs_of, bank_of, with_apic, with_regs, with_bank}
use Rattle.synic_board.specs.Effects.{Effect, Outcome, after, answered, unchanged, refused, at_processor}
use Rattle.synic_board.specs.Interrupts.{taken_at, taken}
use Rattle.synic_board.specs.Absorbing.{absorbed, absorbed_below}
use Rattle.synic_board.specs.Delivery.{tried_below}
use Rattle.synic_board.specs.Registers.{stored, written_register, written, read_register, read}
use Rattle.synic_board.specs.Resetting.{emptied, cleared, reset}
use Rattle.synic_board.specs.Suspending.{is_suspended, with_suspension, suspended, resumed}
use Rattle.synic_board.specs.Timers.{attempted, written_timer}
use Rattle.law_processors.specs.Influence.{Agree}
use Rattle.law_processors.proofs.Agreeing.{Same, Both, twice, both-after, same-apic, same-regs, same-mark, same-timer}
use Rattle.law_processors.proofs.AgreeingTickets.{timers-outside, both-attempted}
use Rattle.law_processors.proofs.AgreeingEffects.{both-tried_below, both-absorbed_below, both-emptied_below, same-cleared}

-- states that agree are the same in this sense
pub same-agree : (q : ℕ) (s t : State) → Agree q s t → Same q s t
same-agree q s t h =
    record {
      apics = (
        h.count,
        λ m is. subst (λ k. get_or t.apics k empty_apic ≡ get_or s.apics k empty_apic) (sym is) h.has.apic,
      );
      regs = (
        h.sound.1.whole.registers ∙ h.count ∙ sym h.sound.0.whole.registers,
        λ m is. subst (λ k. get_or t.regs k reset_regs ≡ get_or s.regs k reset_regs) (sym is) h.has.regs,
      );
      marks = (
        h.paired.1.marks ∙ h.count ∙ sym h.paired.0.marks,
        λ m is. subst (λ k. get_or t.suspended k false ≡ get_or s.suspended k false) (sym is) h.has.suspended,
      );
      own = (
        h.sound.1.whole.own ∙ ap (λ n. 2 * n) h.count ∙ sym h.sound.0.whole.own,
        λ m is. either-own m is (m % 2 == 0) refl,
      );
      queues = (
        h.sound.1.whole.queues ∙ ap (λ n. 16 * n) h.count ∙ sym h.sound.0.whole.queues,
        λ m is. subst (λ k. get_or t.queues k [] ≡ get_or s.queues k []) (at16 m is)
            (h.has.queues (m % 16) (omega arith)),
      );
      slots = (
        h.sound.1.whole.slots ∙ ap (λ n. 16 * n) h.count ∙ sym h.sound.0.whole.slots,
        λ m is. subst (λ k. get_or t.slots k None ≡ get_or s.slots k None) (at16 m is)
            (h.has.slots (m % 16) (omega arith)),
      );
      timers = (
        h.sound.1.whole.timers ∙ ap (λ n. 4 * n) h.count ∙ sym h.sound.0.whole.timers,
        λ m is. subst (λ k. get_or t.timers k idle_timer ≡ get_or s.timers k idle_timer) (at4 m is)
            (h.has.timers (m % 4) (omega arith)),
      );
      moment = h.moment;
    }
  where
    at16 : (m : ℕ) → m / 16 ≡ q → 16 * q + m % 16 ≡ m
    at16 m is = omega arith

    at4 : (m : ℕ) → m / 4 ≡ q → 4 * q + m % 4 ≡ m
    at4 m is = omega arith

    either-own : (m : ℕ) → m / 2 ≡ q → (b : Bool) → (m % 2 == 0) ≡ b → get_or t.own m [] ≡ get_or s.own m []
    either-own m is true e =
        let even : m % 2 ≡ 0 = grind (arith, nat_tests) in
        let at : 2 * q ≡ m = omega arith in
        subst (λ k. get_or t.own k [] ≡ get_or s.own k []) at (h.has.pages kind.Sim)
    either-own m is false e =
        let odd : m % 2 ≢ 0 = grind (arith, nat_tests) in
        let at : 2 * q + 1 ≡ m = omega arith in
        subst (λ k. get_or t.own k [] ≡ get_or s.own k []) at (h.has.pages kind.Sief)

-- the same of two outcomes, with the same reply
abbrev pub BothIn : ℕ → Outcome → Outcome → Type 0
BothIn q o u = Same q o.0 u.0 × (u.1 ≡ o.1) × (u.2 ≡ o.2)

pub both-answered : (q : ℕ) (e f : Effect) (a b : Reply) → b ≡ a → Both q e f → BothIn q (answered a e) (answered b f)
both-answered q e f a b is h = (h.0, is, h.1)

-- an event of processor p alone concerns p
pub is-own : (q p : ℕ) → ((r : ℕ) → r ≢ q → (p == r) ≡ false) → p ≡ q
is-own q p alone = by (p == q) refl
  where
    by : (b : Bool) → (p == q) ≡ b → p ≡ q
    by true e = grind (arith, nat_tests)
    by false e =
        let apart : p ≢ q = grind (arith, nat_tests) in
        let never : (p == p) ≡ false = alone p apart in
        let is : (p == p) ≡ true = grind (arith, nat_tests) in
        absurd (cc)

module _ (q : ℕ) (s t : State) (h : Agree q s t) where
  k : Same q s t
  k = same-agree q s t h

  apic-is : apic_of t q ≡ apic_of s q
  apic-is = h.has.apic

  regs-is : regs_of t q ≡ regs_of s q
  regs-is = h.has.regs

  pub both-unchanged : (a b : Reply) → b ≡ a → BothIn q (unchanged s a) (unchanged t b)
  both-unchanged a b is = (k, is, refl)

  pub both-at : (o u : Outcome) → BothIn q o u → BothIn q (at_processor s q o) (at_processor t q u)
  both-at o u both =
      twice (BothIn q) (nat_lt q (processors s)) (nat_lt q (processors t)) o (refused s NoSuchProcessor) u
      (refused t NoSuchProcessor) (ap (λ n. nat_lt q n) h.count) (λ _. both) (λ _. (k, refl, refl))

  -- interrupts
  pub both-absorbed : (part bits : ℕ) → BothIn q (absorbed s q part bits) (absorbed t q part bits)
  both-absorbed part bits =
      twice (BothIn q) (nat_le part 3) (nat_le part 3) (answered replies.Done (absorbed_below s q part bits 64))
      (refused s BadTarget) (answered replies.Done (absorbed_below t q part bits 64)) (refused t BadTarget) refl
      (λ _. both-answered q (absorbed_below s q part bits 64) (absorbed_below t q part bits 64) replies.Done
      replies.Done refl (both-absorbed_below q s t k part bits 64)) (λ _. (k, refl, refl))

  pub both-taken : BothIn q (taken s q) (taken t q)
  both-taken =
      subst (λ (o : Option ℕ). BothIn q (taken s q)
      (option_map_or (λ v. with_apic t q (taken_at t q v)) o t, replies.Taken o, []))
      (sym (ap next apic-is)) (by (next (apic_of s q)))
    where
      taken-is : (v : ℕ) → taken_at t q v ≡ taken_at s q v
      taken-is v = ap (λ (r : Regs). take_vector (finset.contains (auto_vectors r) v) v (apic_of t q)) regs-is
          ∙ ap (λ (a : Apic). take_vector (finset.contains (auto_vectors (regs_of s q)) v) v a) apic-is

      by : (o : Option ℕ)
          → BothIn q (option_map_or (λ v. with_apic s q (taken_at s q v)) o s, replies.Taken o, [])
          (option_map_or (λ v. with_apic t q (taken_at t q v)) o t, replies.Taken o, [])
      by None = (k, refl, refl)
      by (Some v) = (same-apic q s t k (taken_at s q v) (taken_at t q v) (taken-is v), refl, refl)

  same-suspension : (mark : Bool) → Same q (with_suspension s q mark) (with_suspension t q mark)
  same-suspension mark =
      let a : State = with_apic s q (apic_with_suspension (apic_of s q) mark) in
      let b : State = with_apic t q (apic_with_suspension (apic_of t q) mark) in
      same-mark q a b
      (same-apic q s t k (apic_with_suspension (apic_of s q) mark) (apic_with_suspension (apic_of t q) mark)
      (ap (λ (x : Apic). apic_with_suspension x mark) apic-is)) mark

  pub both-suspended : BothIn q (suspended s q) (suspended t q)
  both-suspended =
      twice (BothIn q) (is_suspended s q) (is_suspended t q) (refused s AlreadySuspended)
      (unchanged (with_suspension s q true) replies.Done) (refused t AlreadySuspended)
      (unchanged (with_suspension t q true) replies.Done) (ap (λ (a : Apic). a.suspended) apic-is)
      (λ _. (k, refl, refl)) (λ _. (same-suspension true, refl, refl))

  pub both-resumed : BothIn q (resumed s q) (resumed t q)
  both-resumed =
      twice (BothIn q) (is_suspended s q) (is_suspended t q) (unchanged (with_suspension s q false) replies.Done)
      (refused s NotSuspended) (unchanged (with_suspension t q false) replies.Done) (refused t NotSuspended)
      (ap (λ (a : Apic). a.suspended) apic-is) (λ _. (same-suspension false, refl, refl)) (λ _. (k, refl, refl))

  pub both-reset : BothIn q (reset s q) (reset t q)
  both-reset =
      let e : Effect = emptied s q in
      let f : Effect = emptied t q in
      let both = both-emptied_below q s t k 16 (omega arith) in
      both-answered q (after e (cleared e.0 q, [])) (after f (cleared f.0 q, [])) replies.Done replies.Done refl
      (both-after q e (cleared e.0 q, []) f (cleared f.0 q, []) both (same-cleared q e.0 f.0 both.0, refl))

  -- registers
  both-stored : (r : Register) (value : ℕ) → BothIn q (stored s q r value) (stored t q r value)
  both-stored r value =
      twice (BothIn q) (is_refused r value) (is_refused r value) (unchanged s replies.GeneralProtection)
      (unchanged (with_regs s q (with_value (regs_of s q) r value)) replies.Done)
      (unchanged t replies.GeneralProtection)
      (unchanged (with_regs t q (with_value (regs_of t q) r value)) replies.Done) refl (λ _. (k, refl, refl))
      (λ _. (
        same-regs q s t k (with_value (regs_of s q) r value) (with_value (regs_of t q) r value)
            (ap (λ (x : Regs). with_value x r value) regs-is),
        refl,
        refl,
      ))

  -- a timer that is written
  both-timer : (n : ℕ) → n < 4 → (x y : Timer) → y ≡ x
      → BothIn q (written_timer s (with_timer (bank_of s) (q, n) x) (q, n))
      (written_timer t (with_timer (bank_of t) (q, n) y) (q, n))
  both-timer n low x y is =
      let here : State = with_bank s (with_timer (bank_of s) (q, n) x) in
      let there : State = with_bank t (with_timer (bank_of t) (q, n) y) in
      both-answered q (attempted here (q, n)) (attempted there (q, n)) replies.Done replies.Done refl
      (both-attempted q here there (same-timer q s t k n x y is) h.tickets n low
      (timers-outside q s t h.buffers.0 h.buffers.1 n))

  both-register : (r : Register) (value : ℕ) → Exists r
      → BothIn q (written_register s q r value) (written_register t q r value)
  both-register register.ReferenceCounter value there = (k, refl, refl)
  both-register register.Eoi value there = (
    same-apic q s t k (after_end (apic_of s q)) (after_end (apic_of t q)) (ap after_end apic-is),
    refl,
    refl,
  )
  both-register register.Tpr value there = (
    same-apic q s t k (with_task_priority (apic_of s q) (value % 256)) (with_task_priority (apic_of t q) (value % 256))
        (ap (λ (a : Apic). with_task_priority a (value % 256)) apic-is),
    refl,
    refl,
  )
  both-register register.Control value there = both-stored register.Control value
  both-register register.Version value there = (k, refl, refl)
  both-register register.Sief value there = both-stored register.Sief value
  both-register register.Sim value there = both-stored register.Sim value
  both-register register.Eom value there =
      both-answered q (tried_below s q 16) (tried_below t q 16) replies.Done replies.Done refl
      (both-tried_below q s t k 16 (omega arith))
  both-register (register.Source n) value there = both-stored (register.Source n) value
  both-register (register.TimerConfig n) value there =
      both-timer n there (after_config (timer_in (bank_of s) (q, n)) value s.moment)
      (after_config (timer_in (bank_of t) (q, n)) value t.moment)
      (ap (λ (x : Timer). after_config x value t.moment) (h.has.timers n there)
      ∙ ap (λ m. after_config (timer_in (bank_of s) (q, n)) value m) h.moment)
  both-register (register.TimerCount n) value there =
      both-timer n there (after_count (timer_in (bank_of s) (q, n)) value s.moment)
      (after_count (timer_in (bank_of t) (q, n)) value t.moment)
      (ap (λ (x : Timer). after_count x value t.moment) (h.has.timers n there)
      ∙ ap (λ m. after_count (timer_in (bank_of s) (q, n)) value m) h.moment)

  pub both-written : (number value : ℕ) → BothIn q (written s q number value) (written t q number value)
  both-written number value = by (register_of number) refl
    where
      by : (o : Option Register) → register_of number ≡ o
          → BothIn q (option_map_or (λ r. written_register s q r value) o (unchanged s replies.GeneralProtection))
          (option_map_or (λ r. written_register t q r value) o (unchanged t replies.GeneralProtection))
      by None is = (k, refl, refl)
      by (Some r) is = both-register r value ((have_their_numbers number r).0 is).0

  pub read-is : (number : ℕ) → read t q number ≡ read s q number
  read-is number = by (register_of number) refl
    where
      of-timer : (n : ℕ) → n < 4 → timer_in (bank_of t) (q, n) ≡ timer_in (bank_of s) (q, n)
      of-timer n low = h.has.timers n low

      each : (r : Register) → Exists r → read_register t q r ≡ read_register s q r
      each register.ReferenceCounter there = ap replies.Value h.moment
      each register.Eoi there = refl
      each register.Tpr there = ap (λ (a : Apic). replies.Value a.task_priority) apic-is
      each register.Control there = ap (λ (r : Regs). replies.Value (value_of r register.Control)) regs-is
      each register.Version there = refl
      each register.Sief there = ap (λ (r : Regs). replies.Value (value_of r register.Sief)) regs-is
      each register.Sim there = ap (λ (r : Regs). replies.Value (value_of r register.Sim)) regs-is
      each register.Eom there = refl
      each (register.Source n) there = ap (λ (r : Regs). replies.Value (value_of r (register.Source n))) regs-is
      each (register.TimerConfig n) there = ap (λ (x : Timer). replies.Value x.config) (of-timer n there)
      each (register.TimerCount n) there = ap (λ (x : Timer). replies.Value x.count) (of-timer n there)

      by : (o : Option Register) → register_of number ≡ o
          → option_map_or (read_register t q) o replies.GeneralProtection
          ≡ option_map_or (read_register s q) o replies.GeneralProtection
      by None is = refl
      by (Some r) is = each r ((have_their_numbers number r).0 is).0
