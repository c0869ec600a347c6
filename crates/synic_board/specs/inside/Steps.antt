-- Definitions for the clauses of private functions that perform one event.
use Rattle.std.specs.Prelude.{ℕ, Bool, false, ◌<◌, ◌==◌, nat_le, not, List, length, slice_index_or, Option, None, Some, if◌then◌else◌}
use Rattle.std.specs.Option.{option_map_or}
use Rattle.board_terms.specs.Dues.{number_of}
use Rattle.board_terms.specs.Quantities.{TimerId, Moment}
use Rattle.synic_board.specs.State.{State, processors}
use Rattle.board_terms.specs.declared.pages.Owner.{Owner}
use Rattle.board_terms.specs.declared.pages.Owner.TheVariants.{Guest, Sim, Sief, Nothing}
use Rattle.board_terms.specs.Quantities.{PortNumber}
use Rattle.board_terms.specs.declared.messages.Message.{Message}
use Rattle.board_terms.specs.declared.messages.Message.TheVariants.{FromPort, FromTimer}
use Rattle.gpa_space.specs.Page.{message_bytes}
use Rattle.message_queues.specs.Image.{header, timer_kind, timer_payload}

-- timers of processors on the board
abbrev pub AllOn : State → List TimerId → Type 0
AllOn s ts = (k : ℕ) → k < length ts → (slice_index_or ts k (0, 0)).0 < processors s

-- the earliest deadline has been reached, so some timer is due
abbrev pub is_any_due : Option (Moment × TimerId) → Moment → Bool
is_any_due first moment = option_map_or (λ e. nat_le e.0 moment) first false

-- a timer other than t
abbrev pub is_other : TimerId → TimerId → Bool
is_other t u = not (number_of u == number_of t)

-- the earliest timer, if it is due
abbrev pub first_due : Option (Moment × TimerId) → Moment → Option TimerId
first_due first moment = option_map_or (λ e. if nat_le e.0 moment then Some e.1 else None) first None

-- an owner whose processor is on the board
abbrev pub IsOn : State → Owner → Type 0
IsOn s Guest = Unit {0}
IsOn s (Sim p) = p < processors s
IsOn s (Sief p) = p < processors s
IsOn s Nothing = Unit {0}

-- the message of a post, with the next ticket
abbrev pub posted_message : State → PortNumber → ℕ → List ℕ → Message
posted_message s port kind payload = FromPort s.next_ticket port kind (record { items = payload })

-- the message of a timer, with the next ticket
abbrev pub expired_message : State → TimerId → Moment → Message
expired_message s timer expiration = FromTimer s.next_ticket timer expiration

-- the bytes of the message of a timer in its slot
abbrev pub timer_bytes : TimerId → Moment → Bool → Moment → List ℕ
timer_bytes timer expiration pending delivery =
    message_bytes (header timer_kind 24 pending 0) (timer_payload timer.1 expiration delivery)
