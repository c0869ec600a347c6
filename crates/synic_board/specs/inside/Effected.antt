-- The machine after a call with an effect.
use Rattle.std.specs.Prelude.{◌≡◌, ◌≤◌, ◌+◌, ◌++◌, List, length}
use Rattle.board_terms.specs.declared.notices.Notice.{Notice}
use Rattle.synic_board.specs.State.{BoardModel}
use Rattle.synic_board.specs.Effects.{Effect}

-- an effect with notices before its own
abbrev pub preceded : List Notice → Effect → Effect
preceded before e = (e.0, before ++ e.1)

-- from `before` with the notices `emitted`, the call leads to `now` with the notices `emitted_now`: the effect e,
-- whose notices are appended, with at most
-- as many writes of the summary as notices
pub record Effected (before : BoardModel) (emitted : List Notice) (now : BoardModel) (emitted_now : List Notice)
    (e : Effect) : Type 0 where
  pub effect : (now.state, emitted_now) ≡ preceded emitted e
  pub writes_monotone : before.writes ≤ now.writes
  pub bound : now.writes + length emitted ≤ before.writes + length emitted_now
