-- A one-shot expires at most once for each write that starts it.
use Rattle.std.proofs.Common.{◌≡◌, ◌⊎◌, inl, inr, ℕ, ◌+◌, ◌-◌, ◌/◌, ◌%◌, ◌<◌, ◌≤◌, ◌&&◌, set, Bool, true, false, not, List, [], ◌∷◌, length, refl, sym, ap, ◌∙◌, arith}
use Rattle.std.specs.Prelude.{Option, None, Some, ◌==◌, bit_and, is_some, if◌then◌else◌}
use Rattle.std.specs.List.{All}
use Rattle.std.specs.Option.{option_map_or, unwrap_or}
use Rattle.std.proofs.lemmas.Bool.{cases_lt}
use Rattle.std.proofs.Math.Nat.{min-eq_left}
use Rattle.std.proofs.lemmas.List.{get_or_past, length-set}
use Rattle.std.proofs.lemmas.List.Elements.{All-head, All-tail}
use Rattle.std.proofs.lemmas.List.Sums.{sum_by-cons}
use Rattle.std.proofs.lemmas.Nat.Bits.{bit_at_and, bit_at-lt}
use Rattle.board_terms.specs.Dues.{number_of}
use Rattle.synic_regs.specs.Registers.{register_of}
use Rattle.synic_regs.specs.declared.register.Register.{Register}
use Rattle.synic_regs.specs.declared.register.Register.TheVariants.{TimerConfig, TimerCount}
use Rattle.stimer_bank.specs.declared.timer.Timer.{Timer}
use Rattle.stimer_bank.specs.Timer.{is_periodic, has_no_target, disabled, enabled, normalized, enables_itself, written_config, written_count, after_config, after_count, is_due, Expired as Expiring, once, expired, after_expiry}
use Rattle.stimer_bank.specs.Bank.{idle_timer, timer_in, with_config, with_count}
use Rattle.synic_board.specs.declared.event.Event.{Event}
use Rattle.synic_board.specs.declared.event.Event.TheVariants.{Write}
use Rattle.synic_board.specs.declared.event.Reply.{Reply}
use Rattle.synic_board.specs.declared.event.Reply.TheVariants.{Done}
use Rattle.synic_board.specs.State.{State, bank_of, with_bank}
use Rattle.synic_board.specs.Effects.{Effect, Outcome, after, answered}
use Rattle.synic_board.specs.Timers.{expired_notices, skipped_notices, expiry_notices, expiry_at, expired_state}
use Rattle.synic_board.specs.Resetting.{emptied, reset}
use Rattle.synic_board.specs.Step.{step}
use Rattle.synic_board.specs.Run.{run_of}
use Rattle.law_board.specs.OneShots.{expiries, armed, is_config_of, writes_timer, writes, makes_periodic, IsOneShot}
use Rattle.synic_board.proofs.keeping.Requests.{either}
use Rattle.synic_board.proofs.Throughout.{expiry_made}
use Rattle.law_board.proofs.Timers.{expiries-joined, replaced, same-timer, replaced-here, due-some, expires-here, skipped-none, throughout-timer, same-number, config-writes, count-writes}

-- a one-shot stays one, and its expiries were armed before
record IsCounted (t : ℕ × ℕ) (s : State) (e : Effect) : Type 0 where
  pub one_shot : IsOneShot s t → IsOneShot e.0 t
  pub bound : IsOneShot s t → expiries t e.1 + armed e.0 t ≤ armed s t

-- one effect after another
counted-after : (t : ℕ × ℕ) (s : State) (e f : Effect) → IsCounted t s e → IsCounted t e.0 f → IsCounted t s (after e f)
counted-after t s e f a b = record {
  one_shot = λ h. b.one_shot (a.one_shot h);
  bound = λ h. omega (arith, expiries-joined t e.1 f.1, a.bound h, b.bound (a.one_shot h));
}

-- an effect that leaves the timer unchanged and emits no expiry of it
still : (t : ℕ × ℕ) (s : State) (e : Effect) → timer_in (bank_of e.0) t ≡ timer_in (bank_of s) t → expiries t e.1 ≡ 0
    → IsCounted t s e
still t s e same none = record {
  one_shot = λ h. ap (λ (x : Timer). is_periodic x.config) same ∙ h;
  bound = λ _. let arms : armed e.0 t ≡ armed s t = ap (λ (x : Timer). if is_some x.due then 1 else 0) same in
      omega (arith, none, arms);
}

-- the configuration of a one-shot that is written
period-disabled : (config : ℕ) → is_periodic (disabled config) ≡ is_periodic config
period-disabled config = ap (λ n. n % 2 == 1) (halves config)
  where
    halves : (config : ℕ) → (config - config % 2) / 2 ≡ config / 2
    halves config = omega arith

period-enabled : (config : ℕ) → is_periodic (enabled config) ≡ is_periodic config
period-enabled config = ap (λ n. n % 2 == 1) (halves config)
  where
    halves : (config : ℕ) → (config - config % 2 + 1) / 2 ≡ config / 2
    halves config = omega arith

period-normalized : (config : ℕ) → is_periodic (normalized config) ≡ is_periodic config
period-normalized config =
    either (λ c. is_periodic c ≡ is_periodic config) (has_no_target config) (disabled config) config
    (λ _. period-disabled config) (λ _. refl)

period-config : (value : ℕ) → is_periodic (written_config value) ≡ is_periodic value
period-config value =
    period-normalized (bit_and value 0xf1fff)
    ∙ ap (λ n. n == 1) (bit_at_and value 0xf1fff 1 ∙ min-eq_left (omega (arith, bit_at-lt value 1)))

period-count : (config count : ℕ) → is_periodic (written_count config count) ≡ is_periodic config
period-count config count =
    either (λ c. is_periodic c ≡ is_periodic config) (count == 0) (disabled config)
    (if enables_itself config then normalized (enabled config) else config) (λ _. period-disabled config)
    (λ _. either (λ c. is_periodic c ≡ is_periodic config) (enables_itself config)
    (normalized (enabled config)) config (λ _. period-normalized (enabled config) ∙ period-enabled config)
    (λ _. refl))

-- beyond the last timer none is replaced
replaced-past : (s : State) (u : ℕ × ℕ) (x : Timer) → length s.timers ≤ number_of u
    → timer_in (bank_of (replaced s u x)) u ≡ idle_timer
replaced-past s u x beyond =
    get_or_past (set s.timers (number_of u) x) (number_of u) idle_timer
    (let l = length-set s.timers (number_of u) x in omega (arith, l, beyond))

one-at-most : (b : Bool) → (if b then 1 else 0) ≤ 1
one-at-most true = omega arith
one-at-most false = omega arith

-- the expiries of the timer in the notices of one expiry
emitted-once : (t u : ℕ × ℕ) (signal : Option ℕ) (skipped : ℕ) → expiries t (expiry_notices u signal skipped) ≤ 1
emitted-once t u signal skipped =
    omega (
      arith,
      expiries-joined t (expired_notices u signal) (skipped_notices u skipped),
      first signal,
      skipped-none t u skipped,
    )
  where
    first : (o : Option ℕ) → expiries t (expired_notices u o) ≤ 1
    first None = omega arith
    first (Some d) =
        either (λ (n : ℕ). 0 + n ≤ 1) (number_of u == number_of t) 1 0 (λ _. omega arith) (λ _. omega arith)

-- a one-shot that expires stays a one-shot and has no deadline
expires-once : (x : Timer) (moment : ℕ) → is_periodic x.config ≡ false
    → (is_periodic (after_expiry x moment).0.config ≡ false) × (is_some (after_expiry x moment).0.due ≡ false)
expires-once x moment h =
    let e : Expiring = expired x (unwrap_or x.due 0) moment in (
      either (λ c. is_periodic c ≡ false) (is_periodic x.config) x.config (disabled x.config)
          (λ yes. let no : true ≡ false = sym yes ∙ h in absurd (cc)) (λ _. period-disabled x.config ∙ h),
      either (λ (r : Expiring). is_some r.next ≡ false) (not (is_periodic x.config)) (once (unwrap_or x.due 0)) _
          (λ _. refl) (λ yes. let no : true ≡ false = sym (ap not h) ∙ yes in absurd (cc)),
    )

-- its expiry
counted-expiry : (t : ℕ × ℕ) (s : State) (u : ℕ × ℕ) → number_of u ≡ number_of t
    → is_due (timer_in (bank_of s) u) s.moment ≡ true → IsCounted t s (expiry_made s u)
counted-expiry t s u same due =
    let x : Timer = timer_in (bank_of s) u in
    let now : timer_in (bank_of (expired_state s u)) t ≡ (after_expiry x s.moment).0 = expires-here s t u same due in
    let was : timer_in (bank_of s) t ≡ x = same-timer s t u same in
    record {
      one_shot = λ h. ap (λ (y : Timer). is_periodic y.config) now
          ∙ (expires-once x s.moment (ap (λ (y : Timer). is_periodic y.config) (sym was) ∙ h)).0;
      bound = λ h.
          let ends : armed (expired_state s u) t ≡ 0 = ap (λ (y : Timer). if is_some y.due then 1 else 0) now
          ∙ ap (λ b. if b then 1 else 0)
          (expires-once x s.moment (ap (λ (y : Timer). is_periodic y.config) (sym was) ∙ h)).1 in
          let begins : armed s t ≡ 1 =
          ap (λ (y : Timer). if is_some y.due then 1 else 0) was
          ∙ ap (λ b. if b then 1 else 0) (due-some x s.moment due) in
          omega (arith, ends, begins, emitted-once t u (expiry_at s u).signal (expiry_at s u).skipped);
    }

-- 1 for an event that writes the timer
abbrev written : ℕ × ℕ → Event → ℕ
written t event = if writes_timer t event then 1 else 0

record IsCountedEvent (t : ℕ × ℕ) (s : State) (event : Event) (outcome : Outcome) : Type 0 where
  pub one_shot : makes_periodic t event ≡ false → IsOneShot s t → IsOneShot outcome.0 t
  pub bound : makes_periodic t event ≡ false → IsOneShot s t
      → expiries t outcome.2 + armed outcome.0 t ≤ armed s t + written t event

-- an effect after a write of the timer
writes-one : (t : ℕ × ℕ) (s : State) (event : Event) (reply : Reply) (u : ℕ × ℕ) (x : Timer) (e : Effect)
    → number_of u ≡ number_of t → writes_timer t event ≡ true
    → (makes_periodic t event ≡ false → is_periodic (timer_in (bank_of s) u).config ≡ false
    → is_periodic x.config ≡ false) → IsCounted t (replaced s u x) e →
    IsCountedEvent t s event (answered reply e)
writes-one t s event reply u x e same writes keeps h = record {
  one_shot = λ quiet o. h.one_shot (is quiet o);
  bound = λ quiet o. let one : written t event ≡ 1 = ap (λ b. if b then 1 else 0) writes in
      omega (arith, h.bound (is quiet o), one-at-most (is_some (timer_in (bank_of (replaced s u x)) t).due), one);
}
  where
    is : makes_periodic t event ≡ false → IsOneShot s t → IsOneShot (replaced s u x) t
    is quiet o = within (cases_lt (number_of u) (length s.timers))
      where
        within : (number_of u < length s.timers) ⊎ (length s.timers ≤ number_of u) → IsOneShot (replaced s u x) t
        within (inl low) =
            ap (λ (y : Timer). is_periodic y.config) (replaced-here s t u x same low)
            ∙ keeps quiet (ap (λ (y : Timer). is_periodic y.config) (sym (same-timer s t u same)) ∙ o)
        within (inr beyond) =
            ap (λ (y : Timer). is_periodic y.config) (same-timer (replaced s u x) t u same ∙ replaced-past s u x beyond)

-- a write of its configuration
configures : (t : ℕ × ℕ) (s : State) (p n number value : ℕ) (e : Effect) → register_of number ≡ Some (TimerConfig n)
    → number_of (p, n) ≡ number_of t →
    IsCounted t (with_bank s (with_config (bank_of s) (p, n) value s.moment)) e
    → IsCountedEvent t s (Write p number value) (answered Done e)
configures t s p n number value e is same =
    writes-one t s (Write p number value) Done (p, n)
    (after_config (timer_in (bank_of s) (p, n)) value s.moment) e same (config-writes t p n number value is same)
    (λ quiet _. period-config value
    ∙ sym (ap (λ b. b && is_periodic value)
    (ap (λ (o : Option Register). option_map_or (is_config_of t p) o false) is
    ∙ same-number (number_of (p, n)) (number_of t) same)) ∙ quiet)

-- and of its count
counts : (t : ℕ × ℕ) (s : State) (p n number value : ℕ) (e : Effect) → register_of number ≡ Some (TimerCount n)
    → number_of (p, n) ≡ number_of t →
    IsCounted t (with_bank s (with_count (bank_of s) (p, n) value s.moment)) e
    → IsCountedEvent t s (Write p number value) (answered Done e)
counts t s p n number value e is same =
    writes-one t s (Write p number value) Done (p, n)
    (after_count (timer_in (bank_of s) (p, n)) value s.moment) e same (count-writes t p n number value is same)
    (λ _ o. period-count (timer_in (bank_of s) (p, n)).config value ∙ o)

-- each event
event-counted : (t : ℕ × ℕ) (s : State) (event : Event) → IsCountedEvent t s event (step s event)
event-counted t =
    throughout-timer t (IsCounted t) (IsCountedEvent t)
    (record {
      still = λ s e same none _. still t s e same none;
      joins = counted-after t;
      expires = counted-expiry t;
    }) (record {
      acts = λ s event reply e h. record { one_shot = λ _ o. h.one_shot o; bound = λ _ o. omega (arith, h.bound o) };
      configures = configures t;
      counts = counts t;
      resets = λ s p _ h is. record {
        one_shot = λ _ _. ap (λ (y : Timer). is_periodic y.config) is;
        bound = λ _ o.
            let e : Effect = emptied s p in
            let ends : armed (reset s p).0 t ≡ 0 = ap (λ (y : Timer). if is_some y.due then 1 else 0) is in
            let same : expiries t (reset s p).2 ≡ expiries t e.1 + 0 = expiries-joined t e.1 [] in
            omega (arith, h.bound o, ends, same);
      };
    })

-- and all of them
pub bound_expiries : (s : State) (t : ℕ × ℕ) (events : List Event) → IsOneShot s t
    → All (λ event. makes_periodic t event ≡ false) events
    → expiries t (run_of s events).2 + armed (run_of s events).0 t ≤ armed s t + writes t events
unfolding run_of
bound_expiries s t [] o quiet = omega arith
bound_expiries s t (event ∷ events) o quiet =
    let now : State = (step s event).0 in
    let first = event-counted t s event in
    let calm : makes_periodic t event ≡ false = All-head (λ event. makes_periodic t event ≡ false) event events quiet in
    let rest = bound_expiries now t events (first.one_shot calm o)
    (All-tail (λ event. makes_periodic t event ≡ false) event events quiet) in
    omega (
      arith,
      expiries-joined t (step s event).2 (run_of now events).2,
      sum_by-cons (written t) event events,
      first.bound calm o,
      rest,
    )
