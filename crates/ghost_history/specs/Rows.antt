-- The rows of a roster.
use Rattle.std.specs.Prelude.{◌≡◌, ℕ, List, [], ◌∷◌, ◌++◌, slice_set}
use mathlib.Core.Option.{some}
use lib.ListN.{get_elem?}
use Rattle.board_terms.specs.declared.notices.Notice.{Notice}
use Rattle.synic_board.specs.declared.event.Event.{Event}
use Rattle.synic_board.specs.declared.event.Reply.{Reply}

-- what an event was answered
pub record Answer : Type 0 where
  pub event : Event
  pub reply : Reply
  pub notices : List Notice

abbrev pub answer : Event → Reply → List Notice → Answer
answer event reply notices = record { event = event; reply = reply; notices = notices }

-- an actor's number, and what its events were answered, in order
abbrev pub Row : Type 0
Row = ℕ × List Answer

abbrev pub row : ℕ → List Answer → Row
row number answers = (number, answers)

-- an actor's row is among the rows, and both have one more answer then; no other row changes
abbrev pub IsExtended : List Row → Row → Answer → List Row → Row → Type 0
IsExtended rows own one rows' own' =
    (own' ≡ row own.0 (own.1 ++ one ∷ [])) × (k : ℕ) × (get_elem? rows k ≡ some own) × (rows' ≡ slice_set rows k own')

-- an actor's row is among the rows
abbrev pub IsAmong : List Row → Row → Type 0
IsAmong rows own = (k : ℕ) × (get_elem? rows k ≡ some own)
