-- An interrupt sent to several processors, and the same as one assert after another.
use Rattle.std.specs.Prelude.{◌≡◌, ℕ, zero, suc, ◌==◌, if◌then◌else◌, List, [], ◌∷◌, ◌++◌}
use Rattle.std.specs.Int.{bit_at}
use Rattle.board_terms.specs.Quantities.{Vector, Word}
use Rattle.synic_board.specs.declared.event.Event.{Event}
use Rattle.synic_board.specs.declared.event.Event.TheVariants.{Assert, Send}
use Rattle.synic_board.specs.State.{State}
use Rattle.synic_board.specs.Step.{step}
use Rattle.synic_board.specs.Run.{run_of}

-- a vector is asserted at each processor of a mask below n, lowest first
abbrev pub asserts_below : Vector → Word → ℕ → List Event
asserts_below v mask zero = []
asserts_below v mask (suc p) = asserts_below v mask p ++ (if bit_at mask p == 1 then Assert p v ∷ [] else [])

-- a send leads to the state of these asserts, and emits their notices
pub record SendsAlike (s : State) (v : Vector) (mask : Word) (asserts : List Event) : Type 0 where
  pub state : (step s (Send v mask)).0 ≡ (run_of s asserts).0
  pub notices : (step s (Send v mask)).2 ≡ (run_of s asserts).2
