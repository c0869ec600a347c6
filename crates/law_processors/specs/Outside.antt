-- A local APIC outside the board takes over requested vectors, which leave the board's own.
use Rattle.std.specs.Prelude.{◌≡◌, ℕ, Bool, true, false, ◌==◌, List, [], ◌∷◌}
use Rattle.std.specs.FinSet as set
use Rattle.board_terms.specs.Quantities.{Processor}
use Rattle.lapic_core.specs.Vectors.{Vectors}
use Rattle.synic_board.specs.declared.event.Event.{Event}
use Rattle.synic_board.specs.declared.event.Event.TheVariants.{Take, Reset}
use Rattle.synic_board.specs.State.{State, apic_of, with_apic}
use Rattle.synic_board.specs.Step.{step}

-- vectors are requested at a processor besides its own
abbrev pub with_requests : State → Processor → Vectors → State
with_requests s p vectors =
    with_apic s p (record (apic_of s p) { requested = set.union (apic_of s p).requested vectors })

-- vectors leave the requests of a processor
abbrev pub without_requests : State → Processor → Vectors → State
without_requests s p vectors =
    with_apic s p (record (apic_of s p) { requested = set.difference (apic_of s p).requested vectors })

-- an event that ends requests of a processor: `take`, and its reset
abbrev pub ends_requests : Processor → Event → Bool
ends_requests p (Take q) = true
ends_requests p (Reset q) = q == p
ends_requests p event = false

-- What a host does whose local APIC is outside: an event; then the local APIC takes over some of the requests of the
-- processor, and some of those that it has are taken and ended there.
pub record Turn : Type 0 where
  pub event : Event
  pub taken : Vectors
  pub ended : Vectors

-- the board, and what the local APIC has, after turns
unfoldable pub taken_over : State → Processor → Vectors → List Turn → State × Vectors
taken_over s p outside [] = (s, outside)
taken_over s p outside (turn ∷ turns) =
    taken_over (without_requests (step s turn.event).0 p turn.taken) p
    (set.difference (set.union outside turn.taken) turn.ended) turns

-- the whole board after the same events, where the same vectors are taken and ended
unfoldable pub whole : State → Processor → List Turn → State
whole s p [] = s
whole s p (turn ∷ turns) = whole (without_requests (step s turn.event).0 p turn.ended) p turns

-- no event ends a request; what is taken over is requested; and what is ended is not requested at the board once more
unfoldable pub AreTurns : State → Processor → List Turn → Type 0
AreTurns s p [] = Unit {0}
AreTurns s p (turn ∷ turns) =
    (ends_requests p turn.event ≡ false)
    × (set.is_subset turn.taken (apic_of (step s turn.event).0 p).requested ≡ true)
    × ((v : ℕ) → set.contains turn.ended v ≡ true
    → set.contains (set.difference (apic_of (step s turn.event).0 p).requested turn.taken) v ≡ false)
    × AreTurns (without_requests (step s turn.event).0 p turn.taken) p turns
