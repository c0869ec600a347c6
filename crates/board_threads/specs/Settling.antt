-- What holds when the threads have ended.
use Rattle.std.specs.Prelude.{◌≡◌, ◌≢◌, ℕ, List, [], ◌∷◌, All, length}
use Rattle.std.specs.List.{sum_by}
use Rattle.synic_board.specs.State.{State}
use Rattle.synic_board.specs.History.{IsLegal, leads_to}
use Rattle.synic_board.specs.declared.history.Entry.{Entry}
use Rattle.actor_calls.specs.Calls.{Call, calls_by}
use Rattle.board_threads.specs.Sharing.{Acting}
use Rattle.board_threads.specs.declared.settling.ActorCalls.{ActorCalls}
use Rattle.board_threads.specs.declared.settling.Ended.{Ended}

-- no two actors have the same number
abbrev pub HaveOwnNumbers : List ActorCalls → Type 0
HaveOwnNumbers [] = Unit {0}
HaveOwnNumbers (a ∷ rest) = All (λ (b : ActorCalls). b.number ≢ a.number) rest × HaveOwnNumbers rest

-- The history is exactly the calls of these actors.
pub record AreAllOf (history : List Entry) (actors : List ActorCalls) : Type 0 where
  pub numbers : HaveOwnNumbers actors
  -- the entries with an actor's number are its calls, in its order
  pub own : All (λ (a : ActorCalls). calls_by a.number history ≡ a.calls.items) actors
  -- and there are no other entries
  pub all : sum_by (λ (a : ActorCalls). length a.calls.items) actors ≡ length history

-- The result of settling a board that was opened or shared in a state: a run of one thread.
pub record IsSettled (start : State) (e : Ended) : Type 0 where
  -- the replies are those of the reference model
  pub legal : IsLegal start e.history.items
  -- the history leads to the state of the board
  pub leads : e.board.state ≡ leads_to start e.history.items
  pub actors : AreAllOf e.history.items e.actors.items

-- the number and the calls of an actor, before and after settling
abbrev pub calls_held : Acting → ℕ × List Call
calls_held a = (a.number, a.calls)

abbrev pub calls_given : ActorCalls → ℕ × List Call
calls_given a = (a.number, a.calls.items)
