-- A host that makes its calls no later than the alarm.
use Rattle.std.proofs.Common.{◌≡◌, ◌<◌, ◌≤◌, ℕ, false, List, [], ◌∷◌, refl, sym, ◌∙◌, arith}
use Rattle.std.specs.Prelude.{Option, None, Some}
use Rattle.synic_board.specs.State.{State}
use Rattle.synic_board.specs.Alarm.{alarm_in_word}
use Rattle.law_alarm.specs.Alarm.{is_alarm_by}
use Rattle.law_alarm.specs.Hosts.{Turn, after_turn, AreInTime, MissNone}
use Rattle.law_alarm.proofs.Alarms.{quiet}
use Rattle.law_alarm.proofs.Firsts.{not-yet, is-first, words}

-- before a time that is no later than the alarm
early : (o : Option ℕ) (now k : ℕ) → ((a : ℕ) → o ≡ Some a → now ≤ a) → k < now → is_alarm_by o k ≡ false
early None now k in_time before = refl
early (Some a) now k in_time before =
    let last : now ≤ a = in_time a refl in not-yet a k (omega (arith, last, before))

pub misses_none : (s : State) (turns : List Turn) → AreInTime s turns → MissNone s turns
unfolding AreInTime MissNone
misses_none s [] h = tt
misses_none s (turn ∷ turns) h = (
  λ k later before. quiet s k later
      (sym (words s k (omega (arith, before, h.0))) ∙ early (alarm_in_word s) turn.0 k h.1 before),
  λ is. (is-first s turn.0 is).wakes,
  misses_none (after_turn s turn) turns h.2,
)
