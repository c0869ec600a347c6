-- The alarm is the first later time at which a tick wakes a timer.
use Rattle.std.proofs.Common.{◌≡◌, ◌⊎◌, inl, inr, ℕ, ◌+◌, ◌^◌, ◌<◌, ◌≤◌, Bool, true, false, nat_le, nat_lt, refl, sym, ap, ◌∙◌, arith}
use Rattle.std.specs.Prelude.{◌↔◌, Option, None, Some, if◌then◌else◌}
use Rattle.std.specs.Option.{option_map}
use Rattle.std.proofs.lemmas.Bool.{cases_lt}
use Rattle.std.proofs.lemmas.Bool.Decides.{nat_tests}
use Rattle.std.proofs.lemmas.Option.{none-some, same_Some}
use Rattle.board_terms.specs.Dues.{least}
use Rattle.synic_board.specs.State.{State}
use Rattle.synic_board.specs.Effects.{Outcome}
use Rattle.synic_board.proofs.keeping.Requests.{either}
use Rattle.synic_board.specs.Alarm.{ready_dues, alarm_after, alarm, alarm_in_word, within}
use Rattle.law_alarm.specs.Alarm.{is_alarm_by, begins_with_timer, IsQuiet, Wakes, IsFirst}
use Rattle.law_alarm.proofs.Alarms.{quiet, wakes}

-- a quiet tick wakes none
not-both : (s : State) (moment : ℕ) → IsQuiet s moment → Wakes s moment → ⊥
not-both s moment still wake =
    let clash : true ≡ false = sym wake ∙ ap (λ (o : Outcome). begins_with_timer o.2) still in absurd (cc)

-- the alarm is later than the present
after-later : (moment d : ℕ) → moment < alarm_after moment d
after-later moment d =
    either (λ (a : ℕ). moment < a) (nat_le d moment) (moment + 1) d (λ _. omega arith)
    (λ above. grind (arith, nat_tests))

pub alarm-later : (s : State) (moment : ℕ) → alarm s ≡ Some moment → s.moment < moment
alarm-later s moment = by (least (ready_dues s))
  where
    by : (o : Option (ℕ × (ℕ × ℕ)))
        → option_map (λ (r : ℕ × (ℕ × ℕ)). alarm_after s.moment r.0) o ≡ Some moment → s.moment < moment
    by None e = absurd (none-some moment e)
    by (Some r) e =
        let same : alarm_after s.moment r.0 ≡ moment = same_Some (alarm_after s.moment r.0) moment e in
        omega (arith, same, after-later s.moment r.0)

-- so far, and no longer
by-then : (a moment : ℕ) → a ≤ moment → is_alarm_by (Some a) moment ≡ true
by-then a moment le = grind (arith, nat_tests)

pub not-yet : (a moment : ℕ) → moment < a → is_alarm_by (Some a) moment ≡ false
not-yet a moment less = grind (arith, nat_tests)

pub is-first : (s : State) (moment : ℕ) → alarm s ≡ Some moment → IsFirst s moment
is-first s moment is =
    let later : s.moment < moment = alarm-later s moment is in record {
      later = later;
      before = λ k on less. quiet s k on (ap (λ o. is_alarm_by o k) is ∙ not-yet moment k less);
      wakes = wakes s moment later (ap (λ o. is_alarm_by o moment) is ∙ by-then moment moment (omega arith));
    }

first-is : (s : State) (moment : ℕ) → IsFirst s moment → alarm s ≡ Some moment
first-is s moment h = by (alarm s) refl
  where
    by : (o : Option ℕ) → alarm s ≡ o → o ≡ Some moment
    by None is = absurd (not-both s moment (quiet s moment h.later (ap (λ o. is_alarm_by o moment) is)) h.wakes)
    by (Some a) is = among (cases_lt a moment) (cases_lt moment a)
      where
        among : (a < moment) ⊎ (moment ≤ a) → (moment < a) ⊎ (a ≤ moment) → Some a ≡ Some moment
        among (inl early) _ =
            let on : s.moment < a = alarm-later s a is in
            absurd (not-both s a (h.before a on early)
            (wakes s a on (ap (λ o. is_alarm_by o a) is ∙ by-then a a (omega arith))))
        among (inr _) (inl late) =
            absurd (not-both s moment
            (quiet s moment h.later (ap (λ o. is_alarm_by o moment) is ∙ not-yet a moment late)) h.wakes)
        among (inr le) (inr ge) = let same : a ≡ moment = omega arith in ap Some same

pub firsts : (s : State) (moment : ℕ) → (alarm s ≡ Some moment) ↔ IsFirst s moment
firsts s moment = (is-first s moment, first-is s moment)

-- no alarm: no tick wakes a timer
none-wakes : (s : State) → alarm s ≡ None → (moment : ℕ) → s.moment < moment → IsQuiet s moment
none-wakes s is moment later = quiet s moment later (ap (λ o. is_alarm_by o moment) is)

wakes-none : (s : State) → ((moment : ℕ) → s.moment < moment → IsQuiet s moment) → alarm s ≡ None
wakes-none s still = by (alarm s) refl
  where
    by : (o : Option ℕ) → alarm s ≡ o → o ≡ None
    by None is = refl
    by (Some a) is =
        let on : s.moment < a = alarm-later s a is in
        absurd (not-both s a (still a on)
        (wakes s a on (ap (λ o. is_alarm_by o a) is ∙ by-then a a (omega arith))))

pub nevers : (s : State) → (alarm s ≡ None) ↔ ((moment : ℕ) → s.moment < moment → IsQuiet s moment)
nevers s = (none-wakes s, wakes-none s)

-- a clock of so many moments
within-by : (bound moment : ℕ) → moment < bound → (o : Option ℕ)
    → is_alarm_by (within bound o) moment ≡ is_alarm_by o moment
within-by bound moment low None = refl
within-by bound moment low (Some a) = by (nat_lt a bound) refl
  where
    by : (b : Bool) → nat_lt a bound ≡ b
        → is_alarm_by (if b then Some a else None) moment ≡ is_alarm_by (Some a) moment
    by true inside = refl
    by false past = sym (not-yet a moment (grind (arith, nat_tests)))

pub words : (s : State) (moment : ℕ) → moment < 2 ^ 64
    → is_alarm_by (alarm_in_word s) moment ≡ is_alarm_by (alarm s) moment
words s moment low = within-by (2 ^ 64) moment low (alarm s)
