-- Runs: events in sequence.
use Rattle.std.specs.Prelude.{List, [], ◌∷◌, ◌++◌}
use Rattle.board_terms.specs.declared.notices.Notice.{Notice}
use Rattle.synic_board.specs.declared.event.Event.{Event}
use Rattle.synic_board.specs.declared.event.Reply.{Reply}
use Rattle.synic_board.specs.State.{State}
use Rattle.synic_board.specs.Effects.{Outcome}
use Rattle.synic_board.specs.Step.{step}

-- the final state, the replies in order, and all notices
abbrev pub Run : Type 0
Run = State × List Reply × List Notice

-- an event, and then a run
abbrev pub followed_by : Outcome → Run → Run
followed_by o r = (r.0, o.1 ∷ r.1, o.2 ++ r.2)

unfoldable pub run_of : State → List Event → Run
run_of s [] = (s, [], [])
run_of s (e ∷ es) = followed_by (step s e) (run_of (step s e).0 es)

-- a run with notices before its own
abbrev pub with_earlier_notices : List Notice → Run → Run
with_earlier_notices before r = (r.0, r.1, before ++ r.2)
