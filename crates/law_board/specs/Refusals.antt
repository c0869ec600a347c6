-- Events that are refused, or raise #GP, leave no trace.
use Rattle.std.specs.Prelude.{◌≡◌, List, [], ◌∷◌, ◌++◌, length, insert}
use Rattle.synic_board.specs.declared.event.Event.{Event}
use Rattle.synic_board.specs.State.{State}
use Rattle.synic_board.specs.Step.{step}
use Rattle.synic_board.specs.Run.{run_of}

-- an event changes nothing, and emits nothing
pub record LeavesNoTrace (s : State) (event : Event) : Type 0 where
  pub state : (step s event).0 ≡ s
  pub notices : (step s event).2 ≡ []

-- inserting an event between others inserts its reply, and changes no other reply, no notice and not the final state
pub record AnswersAlike (s : State) (before : List Event) (event : Event) (behind : List Event) : Type 0 where
  pub state : (run_of s (before ++ event ∷ behind)).0 ≡ (run_of s (before ++ behind)).0
  pub replies : (run_of s (before ++ event ∷ behind)).1
      ≡ insert (run_of s (before ++ behind)).1 (length before) (step (run_of s before).0 event).1
  pub notices : (run_of s (before ++ event ∷ behind)).2 ≡ (run_of s (before ++ behind)).2
