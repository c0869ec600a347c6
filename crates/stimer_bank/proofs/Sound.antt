-- Each write of a timer, and each expiry, leaves it sound.
use Rattle.std.proofs.Common.{◌≡◌, ℕ, ◌+◌, ◌-◌, ◌/◌, ◌%◌, ◌^◌, ◌<◌, ◌≤◌, Bool, true, false, not, nat_le, refl, sym, ap, ◌∙◌, arith}
use Rattle.std.specs.Prelude.{Option, None, Some, ◌==◌, ◌||◌, bit_and, if◌then◌else◌}
use Rattle.std.specs.Option.{option_map_or, unwrap_or}
use Rattle.std.proofs.lemmas.Bool.Decides.{nat_tests}
use Rattle.std.proofs.lemmas.Option.{none-some, same_Some}
use Rattle.stimer_bank.specs.declared.timer.Timer.{Timer}
use Rattle.stimer_bank.specs.Timer.{is_enabled, is_periodic, enables_itself, has_no_target, disabled, enabled, normalized, written_config, written_count, started, after_config, after_count, is_due, Expired, once, expired, with_next, after_expiry, IsStored, IsRuled, IsSoundTimer}
use Rattle.stimer_bank.specs.Laws.{AccountsForAll}
use Rattle.stimer_bank.proofs.ConfigBits.{stored-disabled, stored-enabled, stored-written}
use Rattle.stimer_bank.proofs.Accounts.{accounts}

disabled-off : (config : ℕ) → is_enabled (disabled config) ≡ false
disabled-off config = let even : (config - config % 2) / 2 ^ 0 % 2 ≡ 0 = omega arith in ap (λ x. x == 1) even

ruled-disabled : (config : ℕ) → IsStored config → IsRuled (disabled config)
ruled-disabled config stored =
    record { stored = stored-disabled config stored; heard = λ on. let off = disabled-off config in absurd (cc) }

ruled-normalized : (config : ℕ) → IsStored config → IsRuled (normalized config)
ruled-normalized config stored = by (has_no_target config) refl
  where
    by : (b : Bool) → has_no_target config ≡ b → IsRuled (if b then disabled config else config)
    by true none = ruled-disabled config stored
    by false has = record { stored = stored; heard = λ _. has }

pub ruled-config : (value : ℕ) → IsRuled (written_config value)
ruled-config value = ruled-normalized (bit_and value 0xf1fff) (stored-written value)

pub ruled-count : (config value : ℕ) → IsRuled config → IsRuled (written_count config value)
ruled-count config value ruled = by (value == 0) (enables_itself config)
  where
    by : (zero itself : Bool)
        → IsRuled (if zero then disabled config else (if itself then normalized (enabled config) else config))
    by true itself = ruled-disabled config ruled.stored
    by false true = ruled-normalized (enabled config) (stored-enabled config ruled.stored)
    by false false = ruled

-- a timer that is started
pub sound-started : (config count moment : ℕ) → IsRuled config
    → IsSoundTimer (record { config = config; count = count; due = started config count moment })
sound-started config count moment ruled = by (is_enabled config) refl (count == 0) refl (is_periodic config) refl
  where
    by : (on : Bool) → is_enabled config ≡ on → (none : Bool) → (count == 0) ≡ none → (periodic : Bool)
        → is_periodic config ≡ periodic →
        IsSoundTimer
        (record {
          config = config;
          count = count;
          due = if not on || none then None else (if periodic then Some (moment + count) else Some count);
        })
    by false off none _ periodic _ = record {
      normalized = ruled;
      started = λ on some. absurd (cc);
      enabled = λ d is. absurd (none-some d is);
      some = λ d is. absurd (none-some d is);
      once = λ d is. absurd (none-some d is);
      period = λ d is. absurd (none-some d is);
    }
    by true _ true zero periodic _ = record {
      normalized = ruled;
      started = λ on some. absurd (grind (arith, nat_tests));
      enabled = λ d is. absurd (none-some d is);
      some = λ d is. absurd (none-some d is);
      once = λ d is. absurd (none-some d is);
      period = λ d is. absurd (none-some d is);
    }
    by true on false some true periodic = record {
      normalized = ruled;
      started = λ _ _ none. none-some (moment + count) (sym none);
      enabled = λ d is. on;
      some = λ d is. grind (arith, nat_tests);
      once = λ d is single. absurd (cc);
      period = λ d is _. omega (arith, same_Some _ _ is);
    }
    by true on false some false single = record {
      normalized = ruled;
      started = λ _ _ none. none-some count (sym none);
      enabled = λ d is. on;
      some = λ d is. grind (arith, nat_tests);
      once = λ d is _. sym (same_Some _ _ is);
      period = λ d is periodic. absurd (cc);
    }

pub sound-config : (x : Timer) (value moment : ℕ) → IsSoundTimer (after_config x value moment)
sound-config x value moment = sound-started (written_config value) x.count moment (ruled-config value)

pub sound-count : (x : Timer) (value moment : ℕ) → IsSoundTimer x → IsSoundTimer (after_count x value moment)
sound-count x value moment sound =
    sound-started (written_count x.config value) value moment (ruled-count x.config value sound.normalized)

-- a periodic timer is due at most a period after it is started
pub near-started : (config count moment d : ℕ) → is_periodic config ≡ true → started config count moment ≡ Some d
    → d ≤ moment + count
near-started config count moment d periodic is =
    by (not (is_enabled config) || count == 0) (is_periodic config) periodic is
  where
    by : (none p : Bool) → p ≡ true
        → (if none then None else (if p then Some (moment + count) else Some count)) ≡ Some d → d ≤ moment + count
    by true p _ is = absurd (none-some d is)
    by false true _ is = omega (arith, same_Some _ _ is)
    by false false off is = absurd (cc)

-- the deadline of a timer that is due
abbrev IsPast : Timer → ℕ → Type 0
IsPast x moment = (d : ℕ) × (x.due ≡ Some d) × (d ≤ moment)

past : (x : Timer) (moment : ℕ) → is_due x moment ≡ true → IsPast x moment
past x moment due = by x.due refl due
  where
    by : (o : Option ℕ) → x.due ≡ o → option_map_or (λ d. nat_le d moment) o false ≡ true → IsPast x moment
    by None is due = absurd (cc)
    by (Some d) is due = (d, is, grind (arith, nat_tests))

-- a periodic timer after an expiry
record IsNext (x : Timer) (moment : ℕ) : Type 0 where
  pub next : ℕ
  pub due : (after_expiry x moment).0 ≡ record { config = x.config; count = x.count; due = Some next }
  pub after : x.count ≤ next
  pub near : next ≤ moment + x.count

is-next : (x : Timer) (moment : ℕ) → is_periodic x.config ≡ true → is_due x moment ≡ true → IsSoundTimer x
    → IsNext x moment
is-next x moment periodic due sound =
    let p = past x moment due in
    let d : ℕ = p.0 in
    let all : AccountsForAll x.count d moment (expired x d moment) =
    accounts x d moment periodic (sound.some d p.1) p.2 in
    let first : x.count ≤ d = sound.period d p.1 periodic in
    record {
      next = all.next;
      due = ap (λ o. with_next x (expired x (unwrap_or o 0) moment).next) p.1 ∙ ap (with_next x) all.due
          ∙ ap (λ b. with_config (if b then x.config else disabled x.config) all.next) periodic;
      after = omega (arith, first, all.grid);
      near = all.near;
    }
  where
    with_config : ℕ → ℕ → Timer
    with_config config next = record { config = config; count = x.count; due = Some next }

-- a one-shot after an expiry
expired-once : (x : Timer) (d moment : ℕ) → is_periodic x.config ≡ false → expired x d moment ≡ once d
expired-once x d moment single = rw single refl

after-once : (x : Timer) (moment : ℕ) → is_periodic x.config ≡ false
    → (after_expiry x moment).0 ≡ record { config = disabled x.config; count = x.count; due = None }
after-once x moment single = rw single refl

pub sound-expired : (x : Timer) (moment : ℕ) → is_due x moment ≡ true → IsSoundTimer x
    → IsSoundTimer (after_expiry x moment).0
sound-expired x moment due sound = by (is_periodic x.config) refl
  where
    by : (b : Bool) → is_periodic x.config ≡ b → IsSoundTimer (after_expiry x moment).0
    by true periodic =
        let n = is-next x moment periodic due sound in
        let p = past x moment due in
        rw n.due record {
          normalized = sound.normalized;
          started = λ _ _ none. none-some n.next (sym none);
          enabled = λ d is. sound.enabled p.0 p.1;
          some = λ d is. sound.some p.0 p.1;
          once = λ d is single. absurd (cc);
          period = λ d is _. omega (arith, same_Some _ _ is, n.after);
        }
    by false single =
        let off = disabled-off x.config in
        rw (after-once x moment single) record {
          normalized = ruled-disabled x.config sound.normalized.stored;
          started = λ on some. absurd (cc);
          enabled = λ d is. absurd (none-some d is);
          some = λ d is. absurd (none-some d is);
          once = λ d is. absurd (none-some d is);
          period = λ d is. absurd (none-some d is);
        }

pub near-expired : (x : Timer) (moment d : ℕ) → is_due x moment ≡ true → IsSoundTimer x
    → is_periodic (after_expiry x moment).0.config ≡ true → (after_expiry x moment).0.due ≡ Some d
    → d ≤ moment + (after_expiry x moment).0.count
near-expired x moment d due sound periodic is = by (is_periodic x.config) refl
  where
    by : (b : Bool) → is_periodic x.config ≡ b → d ≤ moment + (after_expiry x moment).0.count
    by true periodic =
        let n = is-next x moment periodic due sound in
        let same : n.next ≡ d = same_Some _ _ (ap (λ (y : Timer). y.due) (sym n.due) ∙ is) in
        omega (arith, same, n.near)
    by false single = absurd (none-some d (ap (λ (y : Timer). y.due) (sym (after-once x moment single)) ∙ is))

-- a timer that is due has a target
pub aimed-due : (x : Timer) (moment : ℕ) → is_due x moment ≡ true → IsSoundTimer x → has_no_target x.config ≡ false
aimed-due x moment due sound = let p = past x moment due in sound.normalized.heard (sound.enabled p.0 p.1)

-- an expiry signals a deadline that has passed, and none is at 0
pub signals-past : (x : Timer) (moment : ℕ) → is_due x moment ≡ true → IsSoundTimer x → (d : ℕ)
    → (after_expiry x moment).1.signal ≡ Some d → (0 < d) × (d ≤ moment)
signals-past x moment due sound d is = by (is_periodic x.config) refl
  where
    p : IsPast x moment
    p = past x moment due

    at : (expired x p.0 moment).signal ≡ Some d
    at = ap (λ o. (expired x (unwrap_or o 0) moment).signal) (sym p.1) ∙ is

    counted : 0 < x.count
    counted = sound.some p.0 p.1

    by : (b : Bool) → is_periodic x.config ≡ b → (0 < d) × (d ≤ moment)
    by true periodic =
        let between = (accounts x p.0 moment periodic counted p.2).past d at in
        (omega (arith, counted, sound.period p.0 p.1 periodic, between.0), between.1)
    by false single =
        let same : p.0 ≡ d =
        same_Some _ _ (sym (ap (λ (e : Expired). e.signal) (expired-once x p.0 moment single)) ∙ at) in
        (omega (arith, counted, sound.once p.0 p.1 single, same), omega (arith, same, p.2))
