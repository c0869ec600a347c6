-- The rows of a roster under a lock, and the code of what the lock shows.
use Rattle.std.specs.Prelude.{◌≡◌, ℕ, ◌<◌, List, All, map, refl}
use Rattle.std.specs.List.{range_with_len}
use Rattle.std.specs.Coded.{Coded, code_by, coded×, coded_ℕ, coded_list}
use Rattle.synic_board.specs.State.{State, BoardModel, processors}
use Rattle.synic_board.specs.contracts.history.Entry as entries
use Rattle.synic_board.specs.declared.history.Entry.{Entry}
use Rattle.synic_board.specs.inside.Codes.{model_code}
use Rattle.ghost_history.specs.Rows.{Row, row}
use Rattle.shared_board.specs.Calling.{Said, said_from, said_to}
use Rattle.shared_board.specs.Witnessed.{Witnessed, IsOneThread}

-- a row for each of n actors
abbrev pub rows_of : ℕ → List Said → List Row
rows_of n all = map (λ k. row k (said_to k all)) (range_with_len 0 n)

-- what holds under the lock: the roster has the calls of each actor, and no entry is another's
pub record IsRostered (start : State) (w : Witnessed) (rows : List Row) : Type 0 where
  pub run : IsOneThread start w.board.state w.history
  pub rows_are : rows ≡ rows_of w.actors (said_from start w.history)
  pub all : All (λ (e : Entry). e.actor < w.actors) w.history
  pub count : processors w.board.state ≡ processors start

abbrev pub witnessed_code : Coded Witnessed
witnessed_code =
    code_by (BoardModel × (List Entry × ℕ)) (coded× model_code (coded× (coded_list entries.the_row.coded) coded_ℕ))
    (λ w. (w.board, (w.history, w.actors)))
    (λ p. record { board = p.0; history = p.1.0; actors = p.1.1 }) (λ _. refl)
