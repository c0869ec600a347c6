-- Guest loads and stores, and the messages that a store consumes (TLFS, "SIM Page" and "Message Delivery").
use Rattle.std.specs.Prelude.{ℕ, zero, suc, ◌/◌, List, [], ◌∷◌, length, Option, None, Some, Result, Ok, Err, if◌then◌else◌}
use Rattle.std.specs.Option.{option_map_or}
use Rattle.board_terms.specs.Quantities.{Processor, Source, Ticket, Address}
use Rattle.arrayvec.specs.ArrayVec.{ArrayVec}
use Rattle.board_terms.specs.declared.notices.Notice.TheVariants.{Consumed}
use Rattle.board_terms.specs.declared.refusal.Refusal.{Refusal}
use Rattle.board_terms.specs.declared.pages.Owner.{Owner}
use Rattle.board_terms.specs.declared.pages.Owner.TheVariants.{Guest, Sim, Sief, Nothing}
use Rattle.gpa_space.specs.Space.{refusal_of, loaded, owner_of, after_store}
use Rattle.synic_board.specs.declared.event.Reply.{Reply}
use Rattle.synic_board.specs.declared.event.Reply.TheVariants.{Done, Bytes, Refused}
use Rattle.synic_board.specs.State.{State, space_of, with_space, slot_of, with_slot_ticket}
use Rattle.synic_board.specs.Effects.{Effect, Outcome, nothing, after, answered, refused}
use Rattle.synic_board.specs.Delivery.{is_slot_empty}

-- an empty slot loses its ticket: the message was consumed
abbrev pub consumed_ticket : State → Processor → Source → Option Ticket → Effect
consumed_ticket s p i None = nothing s
consumed_ticket s p i (Some t) = (with_slot_ticket s p i None, Consumed p i t ∷ [])

unfoldable pub consumed : State → Processor → Source → Effect
consumed s p i = if is_slot_empty s p i then consumed_ticket s p i (slot_of s p i) else nothing s

-- the slots below n, in order
unfoldable pub consumed_below : State → Processor → ℕ → Effect
consumed_below s p zero = nothing s
consumed_below s p (suc i) = after (consumed_below s p i) (consumed (consumed_below s p i).0 p i)

-- a store in a message page consumes the messages of the slots that are empty afterwards
abbrev pub consumed_in : State → Owner → Effect
consumed_in s Guest = nothing s
consumed_in s (Sim p) = consumed_below s p 16
consumed_in s (Sief p) = nothing s
consumed_in s Nothing = nothing s

-- the bytes are stored in the visible page
abbrev pub with_bytes : State → Address → List ℕ → State
with_bytes s address bytes = with_space s (after_store (space_of s) address bytes)

abbrev pub stored_bytes : State → Address → List ℕ → Outcome
stored_bytes s address bytes =
    option_map_or (refused s) (refusal_of (space_of s) address (length bytes))
    (answered Done (consumed_in (with_bytes s address bytes) (owner_of (space_of s) (address / 4096))))

-- the bytes are loaded from the visible page
abbrev pub load_reply : Result (ArrayVec ℕ) Refusal → Reply
load_reply (Ok bytes) = Bytes bytes
load_reply (Err r) = Refused r

abbrev pub read_bytes : State → Address → ℕ → Reply
read_bytes s address count = load_reply (loaded (space_of s) address count)
