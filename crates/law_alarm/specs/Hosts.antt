-- A host that makes its calls no later than the alarm: the loop of docs/EMBEDDING.md.
use Rattle.std.specs.Prelude.{◌≡◌, ◌<◌, ◌≤◌, ◌^◌, ℕ, nat_lt, List, [], ◌∷◌, Some, if◌then◌else◌}
use Rattle.board_terms.specs.Quantities.{Moment}
use Rattle.synic_board.specs.Alarm.{alarm, alarm_in_word}
use Rattle.synic_board.specs.State.{State}
use Rattle.synic_board.specs.Step.{step}
use Rattle.synic_board.specs.declared.event.Event.{Event}
use Rattle.synic_board.specs.declared.event.Event.TheVariants.{Tick}
use Rattle.law_alarm.specs.Alarm.{IsQuiet, Wakes}

-- a call: the clock moves to a time, if that is later than the board's, and then the board performs an event
abbrev pub Turn : Type 0
Turn = Moment × Event

abbrev pub moved_to : State → Moment → State
moved_to s moment = if nat_lt s.moment moment then (step s (Tick moment)).0 else s

abbrev pub after_turn : State → Turn → State
after_turn s turn = (step (moved_to s turn.0) turn.1).0

-- each call is made at a time of 64 bits, no later than at the alarm after the call before it
unfoldable pub AreInTime : State → List Turn → Type 0
AreInTime s [] = Unit {0}
AreInTime s (turn ∷ turns) =
    (turn.0 < 2 ^ 64) × ((a : ℕ) → alarm_in_word s ≡ Some a → turn.0 ≤ a) × AreInTime (after_turn s turn) turns

-- no tick between two calls would have made a timer expire or skip, and the tick of a call at the alarm does
unfoldable pub MissNone : State → List Turn → Type 0
MissNone s [] = Unit {0}
MissNone s (turn ∷ turns) =
    ((k : ℕ) → s.moment < k → k < turn.0 → IsQuiet s k) × (alarm s ≡ Some turn.0 → Wakes s turn.0)
    × MissNone (after_turn s turn) turns
