-- The sizes of a recorded board, and the abstract state of an actor.
use Rattle.std.specs.Prelude.{ℕ, List, []}
use Rattle.atomic_table.specs.Seated.{TableId}
use Rattle.posted_words.specs.declared.rule.Action.{Action}
use Rattle.posted_words.specs.Words.{AreWordSizes}
use Rattle.synic_board.specs.State.{AreSizes as AreBoardSizes}
use Rattle.actor_calls.specs.Calls.{Call}

-- the valid sizes of a shared board: those of a board and of its posted words, which each actor sweeps
pub record AreSharedSizes (processors pages actors lines : ℕ) : Type 0 where
  pub board : AreBoardSizes processors pages
  pub words : AreWordSizes processors actors lines

-- the words of an actor's sweeper, the actor's number, its calls in order, and the steps of its sweeper
pub record Acting : Type 0 where
  pub of : TableId
  pub number : ℕ
  pub calls : List Call
  pub actions : List Action

abbrev pub acting : TableId → ℕ → List Call → List Action → Acting
acting of number calls actions = record { of = of; number = number; calls = calls; actions = actions }

abbrev pub new_actor : TableId → ℕ → Acting
new_actor of number = acting of number [] []
