-- Induction for one timer: a property of effects that leave it unchanged, of its expiry and of one effect after
-- another holds for every effect, and
-- with its writes for every event.
use Rattle.std.proofs.Common.{◌≡◌, ◌≢◌, ◌⊎◌, inl, inr, ℕ, ◌+◌, ◌/◌, ◌<◌, ◌≤◌, ◌||◌, get_or, true, false, nat_lt, nat_le, List, [], ◌∷◌, ◌++◌, length, map, refl, sym, ap, ◌∙◌, arith}
use Rattle.std.specs.Prelude.{Option, None, Some, ◌==◌, is_some, if◌then◌else◌}
use Rattle.std.specs.Option.{option_map_or}
use Rattle.std.proofs.lemmas.Bool.{cases_eq, cases_lt}
use Rattle.std.proofs.lemmas.Bool.Decides.{nat_tests}
use Rattle.std.proofs.lemmas.List.{get_or-set_same, get_or-set_other, get_or_past}
use Rattle.std.proofs.lemmas.List.Sums.{sum_by-append, sum_by-cons}
use Rattle.board_terms.specs.Dues.{number_of}
use Rattle.board_terms.specs.Messages.{ticket_of}
use Rattle.board_terms.specs.declared.notices.Notice.{Notice}
use Rattle.board_terms.specs.declared.notices.Notice.TheVariants.{Placed, Pending, Withdrawn, Skipped}
use Rattle.message_queues.specs.Queues.{queue_of, withdrawn_of}
use Rattle.gpa_space.specs.Space.{is_pending}
use Rattle.synic_regs.specs.Registers.{register_of}
use Rattle.synic_regs.specs.declared.register.Register.{Register}
use Rattle.synic_regs.specs.declared.register.Register.TheVariants.{TimerConfig, TimerCount}
use Rattle.stimer_bank.specs.declared.timer.Timer.{Timer}
use Rattle.stimer_bank.specs.Timer.{after_config, after_count, is_due, after_expiry}
use Rattle.stimer_bank.specs.Bank.{idle_timer, timer_in, with_timer, with_config, with_count}
use Rattle.stimer_bank.proofs.Shown.{reset-here, reset-other}
use Rattle.synic_board.specs.declared.event.Event.{Event}
use Rattle.synic_board.specs.declared.event.Event.TheVariants.{Write, Signal, Reset}
use Rattle.synic_board.specs.declared.event.Reply.{Reply}
use Rattle.synic_board.specs.declared.event.Reply.TheVariants.{Done, FlagWasClear}
use Rattle.synic_board.specs.State.{State, space_of, bank_of, with_bank}
use Rattle.synic_board.specs.Effects.{Effect, Outcome, nothing, after, answered}
use Rattle.synic_board.specs.Interrupts.{raised}
use Rattle.synic_board.specs.Delivery.{accepted, marked}
use Rattle.synic_board.specs.Posts.{withdrawn, with_flag, flagged}
use Rattle.synic_board.specs.Timers.{expired_notices, skipped_notices, expiry_notices, expiry_at, expired_state}
use Rattle.synic_board.specs.Suspending.{with_suspension}
use Rattle.synic_board.specs.Resetting.{withdrawn_ticket, queue_emptied, emptied, cleared, reset}
use Rattle.synic_board.specs.Step.{step}
use Rattle.law_board.specs.OneShots.{is_expiry_of, expiries, is_config_of, is_count_of, writes_timer}
use Rattle.law_board.specs.Periods.{skips_of, skips}
use Rattle.synic_board.proofs.keeping.Requests.{either}
use Rattle.synic_board.proofs.Throughout.{OfEffects, OfAnswers, throughout, request_made, expiry_made, placement, consumption}

-- how many expiries of it one notice reports
abbrev tells : ℕ × ℕ → Notice → ℕ
tells t notice = if is_expiry_of t notice then 1 else 0

-- the expiries in two lists of notices
pub expiries-joined : (t : ℕ × ℕ) (xs ys : List Notice) → expiries t (xs ++ ys) ≡ expiries t xs + expiries t ys
expiries-joined t xs ys = sum_by-append (tells t) xs ys

-- and the skipped periods
pub skips-joined : (t : ℕ × ℕ) (xs ys : List Notice) → skips t (xs ++ ys) ≡ skips t xs + skips t ys
skips-joined t xs ys = sum_by-append (skips_of t) xs ys

-- withdrawals report no expiry
none-withdrawn : (t : ℕ × ℕ) (q j : ℕ) (tickets : List ℕ) → expiries t (map (λ x. Withdrawn q j x) tickets) ≡ 0
none-withdrawn t q j [] = refl
none-withdrawn t q j (x ∷ tickets) =
    sum_by-cons (tells t) (Withdrawn q j x) (map (λ x. Withdrawn q j x) tickets)
    ∙ ap (λ n. 0 + n) (none-withdrawn t q j tickets)

-- and no skipped period
none-skipped : (t : ℕ × ℕ) (q j : ℕ) (tickets : List ℕ) → skips t (map (λ x. Withdrawn q j x) tickets) ≡ 0
none-skipped t q j [] = refl
none-skipped t q j (x ∷ tickets) =
    sum_by-cons (skips_of t) (Withdrawn q j x) (map (λ x. Withdrawn q j x) tickets)
    ∙ ap (λ n. 0 + n) (none-skipped t q j tickets)

-- one timer is replaced
abbrev pub replaced : State → ℕ × ℕ → Timer → State
replaced s u x = with_bank s (with_timer (bank_of s) u x)

-- timers of one number
pub same-timer : (s : State) (t u : ℕ × ℕ) → number_of u ≡ number_of t → timer_in (bank_of s) t ≡ timer_in (bank_of s) u
same-timer s t u e = ap (λ n. get_or s.timers n idle_timer) (sym e)

-- the timer that is replaced
pub replaced-here : (s : State) (t u : ℕ × ℕ) (x : Timer) → number_of u ≡ number_of t → number_of u < length s.timers
    → timer_in (bank_of (replaced s u x)) t ≡ x
replaced-here s t u x e inside =
    same-timer (replaced s u x) t u e ∙ get_or-set_same s.timers (number_of u) x idle_timer inside

-- and another one
replaced-other : (s : State) (t u : ℕ × ℕ) (x : Timer) → number_of u ≢ number_of t
    → timer_in (bank_of (replaced s u x)) t ≡ timer_in (bank_of s) t
replaced-other s t u x ne = get_or-set_other s.timers (number_of u) (number_of t) x idle_timer (λ e. ne (sym e))

-- a timer that is due has a deadline
pub due-some : (x : Timer) (moment : ℕ) → is_due x moment ≡ true → is_some x.due ≡ true
due-some x moment due = by x.due due
  where
    by : (o : Option ℕ) → option_map_or (λ d. nat_le d moment) o false ≡ true → is_some o ≡ true
    by None e = absurd (cc)
    by (Some d) e = refl

-- and is one of the timers
due-inside : (s : State) (u : ℕ × ℕ) → is_due (timer_in (bank_of s) u) s.moment ≡ true → number_of u < length s.timers
due-inside s u due = by (cases_lt (number_of u) (length s.timers))
  where
    by : (number_of u < length s.timers) ⊎ (length s.timers ≤ number_of u) → number_of u < length s.timers
    by (inl low) = low
    by (inr beyond) =
        let never : is_due (timer_in (bank_of s) u) s.moment ≡ false =
        ap (λ (x : Timer). is_due x s.moment) (get_or_past s.timers (number_of u) idle_timer beyond) in
        let no : true ≡ false = sym due ∙ never in absurd (cc)

-- the timer that expires
pub expires-here : (s : State) (t u : ℕ × ℕ) → number_of u ≡ number_of t
    → is_due (timer_in (bank_of s) u) s.moment ≡ true →
    timer_in (bank_of (expired_state s u)) t ≡ (after_expiry (timer_in (bank_of s) u) s.moment).0
expires-here s t u same due =
    replaced-here s t u (after_expiry (timer_in (bank_of s) u) s.moment).0 same (due-inside s u due)

-- a Skipped notice reports no expiry
pub skipped-none : (t u : ℕ × ℕ) (skipped : ℕ) → expiries t (skipped_notices u skipped) ≡ 0
skipped-none t u skipped =
    either (λ ns. expiries t ns ≡ 0) (skipped == 0) [] (Skipped u.0 u.1 skipped ∷ []) (λ _. refl) (λ _. refl)

-- and an Expired notice no skipped period
pub expired-none : (t u : ℕ × ℕ) (signal : Option ℕ) → skips t (expired_notices u signal) ≡ 0
expired-none t u None = refl
expired-none t u (Some d) = refl

-- an expiry emits no Expired of another timer
emitted-other : (t u : ℕ × ℕ) (signal : Option ℕ) (skipped : ℕ) → number_of u ≢ number_of t
    → expiries t (expiry_notices u signal skipped) ≡ 0
emitted-other t u signal skipped ne =
    omega (
      arith,
      expiries-joined t (expired_notices u signal) (skipped_notices u skipped),
      first signal,
      skipped-none t u skipped,
    )
  where
    first : (o : Option ℕ) → expiries t (expired_notices u o) ≡ 0
    first None = refl
    first (Some d) =
        either (λ (n : ℕ). 0 + n ≡ 0) (number_of u == number_of t) 1 0 (λ e. absurd (ne (grind (arith, nat_tests))))
        (λ _. refl)

-- and no Skipped of another one
skipped-other : (t u : ℕ × ℕ) (signal : Option ℕ) (skipped : ℕ) → number_of u ≢ number_of t
    → skips t (expiry_notices u signal skipped) ≡ 0
skipped-other t u signal skipped ne =
    omega (
      arith,
      skips-joined t (expired_notices u signal) (skipped_notices u skipped),
      expired-none t u signal,
      second,
    )
  where
    second : skips t (skipped_notices u skipped) ≡ 0
    second =
        either (λ ns. skips t ns ≡ 0) (skipped == 0) [] (Skipped u.0 u.1 skipped ∷ []) (λ _. refl)
        (λ _. either (λ (n : ℕ). 0 + n ≡ 0) (number_of u == number_of t) skipped 0
        (λ e. absurd (ne (grind (arith, nat_tests)))) (λ _. refl))

-- a property of effects on one timer: of those that leave it unchanged without a notice of it, of its expiry, and of
-- one effect after another
pub record OfTimer (t : ℕ × ℕ) (P : State → Effect → Type 0) : Type 0 where
  pub still : (s : State) (e : Effect) → timer_in (bank_of e.0) t ≡ timer_in (bank_of s) t → expiries t e.1 ≡ 0
      → skips t e.1 ≡ 0 → P s e
  pub joins : (s : State) (e f : Effect) → P s e → P e.0 f → P s (after e f)
  pub expires : (s : State) (u : ℕ × ℕ) → number_of u ≡ number_of t → is_due (timer_in (bank_of s) u) s.moment ≡ true
      → P s (expiry_made s u)

-- it holds of every effect
of-timer : (t : ℕ × ℕ) (P : State → Effect → Type 0) → OfTimer t P → OfEffects P
of-timer t P h = record {
  stays = λ s. h.still s (nothing s) refl refl refl;
  joins = h.joins;
  requests = λ s p v _. h.still s (request_made s p v) refl refl refl;
  accepts = λ s p i m. h.still s (accepted s p i m) refl refl refl;
  locations = λ s p i m rest _ _. h.still s (placement s p i m rest) refl
      (either (λ ns. expiries t (Placed p i (ticket_of m) ∷ ns) ≡ 0) (nat_lt 0 (length rest)) (Pending p i ∷ []) []
      (λ _. refl) (λ _. refl))
      (either (λ ns. skips t (Placed p i (ticket_of m) ∷ ns) ≡ 0) (nat_lt 0 (length rest)) (Pending p i ∷ []) []
      (λ _. refl) (λ _. refl));
  marks = λ s p i. h.still s (marked s p i) refl
      (either (λ ns. expiries t ns ≡ 0) (is_pending (space_of s) p i) [] (Pending p i ∷ []) (λ _. refl) (λ _. refl))
      (either (λ ns. skips t ns ≡ 0) (is_pending (space_of s) p i) [] (Pending p i ∷ []) (λ _. refl) (λ _. refl));
  consumes = λ s p i ticket _. h.still s (consumption s p i ticket) refl refl refl;
  withdraws = λ s p i port. let tickets : List ℕ = withdrawn_of port (queue_of s.queues p i) in
      h.still s (withdrawn s p i port) refl (none-withdrawn t p i tickets) (none-skipped t p i tickets);
  frees = λ s p i ticket. h.still s (withdrawn_ticket s p i ticket) refl refl refl;
  empties = λ s p i. let tickets : List ℕ = map ticket_of (queue_of s.queues p i) in
      h.still s (queue_emptied s p i) refl (none-withdrawn t p i tickets) (none-skipped t p i tickets);
  expires = expires;
}
  where
    expires : (s : State) (u : ℕ × ℕ) → is_due (timer_in (bank_of s) u) s.moment ≡ true → P s (expiry_made s u)
    expires s u due = by (cases_eq (number_of u) (number_of t))
      where
        by : (number_of u ≡ number_of t) ⊎ (number_of u ≢ number_of t) → P s (expiry_made s u)
        by (inl same) = h.expires s u same due
        by (inr ne) =
            let signal : Option ℕ = (expiry_at s u).signal in
            let skipped : ℕ = (expiry_at s u).skipped in
            h.still s (expiry_made s u) (replaced-other s t u (after_expiry (timer_in (bank_of s) u) s.moment).0 ne)
            (emitted-other t u signal skipped ne) (skipped-other t u signal skipped ne)

-- a property of outcomes: of an effect, and of one after a write of the timer
pub record OfTimerAnswers (t : ℕ × ℕ) (P : State → Effect → Type 0)
    (Q : State → Event → Outcome → Type 0) : Type 0 where
  pub acts : (s : State) (event : Event) (reply : Reply) (e : Effect) → P s e → Q s event (answered reply e)
  pub configures : (s : State) (p n number value : ℕ) (e : Effect) → register_of number ≡ Some (TimerConfig n)
      → number_of (p, n) ≡ number_of t →
      P (with_bank s (with_config (bank_of s) (p, n) value s.moment)) e → Q s (Write p number value) (answered Done e)
  pub counts : (s : State) (p n number value : ℕ) (e : Effect) → register_of number ≡ Some (TimerCount n)
      → number_of (p, n) ≡ number_of t →
      P (with_bank s (with_count (bank_of s) (p, n) value s.moment)) e → Q s (Write p number value) (answered Done e)
  pub resets : (s : State) (p : ℕ) → number_of t / 4 ≡ p → P s (emptied s p)
      → timer_in (bank_of (reset s p).0) t ≡ idle_timer → Q s (Reset p) (reset s p)

-- it holds of each way to answer
of-timer-answers : (t : ℕ × ℕ) (P : State → Effect → Type 0) (Q : State → Event → Outcome → Type 0) → OfTimer t P
    → OfTimerAnswers t P Q → OfAnswers P Q
of-timer-answers t P Q h k = record {
  refuses = λ s event r. silent s s event _ refl;
  faults = λ s event. silent s s event _ refl;
  reads = λ s p number. silent s s _ _ refl;
  loads = λ s address count. silent s s _ _ refl;
  acts = λ s event reply moment ports regs e _ g. from s _ event reply e refl g;
  eases = λ s event reply p a _ _ _. silent s _ event reply refl;
  stores = λ s address bytes e g. from s _ _ _ e refl g;
  configures =
      λ s p n number value e _ is g.
      writes s (Write p number value) (p, n) (after_config (timer_in (bank_of s) (p, n)) value s.moment) e g
      (λ same. k.configures s p n number value e is same g);
  counts = λ s p n number value e _ is g.
      writes s (Write p number value) (p, n) (after_count (timer_in (bank_of s) (p, n)) value s.moment) e g
      (λ same. k.counts s p n number value e is same g);
  repeats = λ s port flag p i f _ _. silent s (with_flag s p i f) _ _ refl;
  signals = λ s port flag p i f _ _ g. let lit : State = with_flag s p i f in
      k.acts s (Signal port flag) FlagWasClear (after (flagged s p i f) (raised lit p i))
      (h.joins s (flagged s p i f) (raised lit p i) (h.still s (flagged s p i f) refl refl refl) g);
  pauses = λ s event p mark _ _. silent s (with_suspension s p mark) event _ refl;
  resets = λ s p _ g. resets s p g (cases_eq (number_of t / 4) p);
}
  where
    -- an effect from a state with the same timer
    from : (s now : State) (event : Event) (reply : Reply) (e : Effect)
        → timer_in (bank_of now) t ≡ timer_in (bank_of s) t → P now e → Q s event (answered reply e)
    from s now event reply e same g =
        k.acts s event reply (after (nothing now) e)
        (h.joins s (nothing now) e (h.still s (nothing now) same refl refl) g)

    silent : (s now : State) (event : Event) (reply : Reply) → timer_in (bank_of now) t ≡ timer_in (bank_of s) t
        → Q s event (answered reply (nothing now))
    silent s now event reply same = k.acts s event reply (nothing now) (h.still s (nothing now) same refl refl)

    -- a reset of its processor, or another
    resets : (s : State) (p : ℕ) → P s (emptied s p) → (number_of t / 4 ≡ p) ⊎ (number_of t / 4 ≢ p)
        → Q s (Reset p) (reset s p)
    resets s p g (inl own) = k.resets s p own g (reset-here (bank_of (emptied s p).0) p t own)
    resets s p g (inr other) =
        let e : Effect = emptied s p in
        let clears : Effect = (cleared e.0 p, []) in
        k.acts s (Reset p) Done (after e clears)
        (h.joins s e clears g (h.still e.0 clears (reset-other (bank_of e.0) p t other) refl refl))

    -- an effect after a write of a timer, this one or another
    writes : (s : State) (event : Event) (u : ℕ × ℕ) (x : Timer) (e : Effect) → P (replaced s u x) e
        → (number_of u ≡ number_of t → Q s event (answered Done e)) → Q s event (answered Done e)
    writes s event u x e g here = by (cases_eq (number_of u) (number_of t))
      where
        by : (number_of u ≡ number_of t) ⊎ (number_of u ≢ number_of t) → Q s event (answered Done e)
        by (inl same) = here same
        by (inr ne) = from s (replaced s u x) event Done e (replaced-other s t u x ne) g

-- and of every event
pub throughout-timer : (t : ℕ × ℕ) (P : State → Effect → Type 0) (Q : State → Event → Outcome → Type 0) → OfTimer t P
    → OfTimerAnswers t P Q → (s : State) (event : Event) → Q s event (step s event)
throughout-timer t P Q h k = throughout P Q (of-timer t P h) (of-timer-answers t P Q h k)

-- equal numbers are found equal
pub same-number : (m n : ℕ) → m ≡ n → (m == n) ≡ true
same-number m n e = grind (arith, nat_tests)

-- a write of its configuration writes the timer
pub config-writes : (t : ℕ × ℕ) (p n number value : ℕ) → register_of number ≡ Some (TimerConfig n)
    → number_of (p, n) ≡ number_of t → writes_timer t (Write p number value) ≡ true
config-writes t p n number value is same =
    ap (λ (o : Option Register). option_map_or (λ r. is_config_of t p r || is_count_of t p r) o false) is
    ∙ ap (λ b. b || false) (same-number (number_of (p, n)) (number_of t) same)

-- and one of its count
pub count-writes : (t : ℕ × ℕ) (p n number value : ℕ) → register_of number ≡ Some (TimerCount n)
    → number_of (p, n) ≡ number_of t → writes_timer t (Write p number value) ≡ true
count-writes t p n number value is same =
    ap (λ (o : Option Register). option_map_or (λ r. is_config_of t p r || is_count_of t p r) o false) is
    ∙ same-number (number_of (p, n)) (number_of t) same
