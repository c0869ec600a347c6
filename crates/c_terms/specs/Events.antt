-- The event that a plain struct encodes.
use Rattle.std.specs.Prelude.{◌≡◌, ℕ, ◌==◌, nat_lt, ◌||◌, List, length, take, Option, Some, None, if◌then◌else◌}
use Rattle.std.specs.Option.{option_map}
use Rattle.arrayvec.specs.ArrayVec.{ArrayVec}
use Rattle.board_terms.specs.declared.messages.PortShape.TheVariants.{Messages, Flags}
use Rattle.synic_board.specs.declared.event.Event.{Event}
use Rattle.synic_board.specs.declared.event.Event.TheVariants.{OpenPort, ClosePort, Write, Read, Post, Signal, Assert, Absorb, Store, Load, Tick, Take, Suspend, Resume, Reset, Send}
use Rattle.synic_board.specs.State.{State}
use Rattle.synic_board.specs.Effects.{Outcome}
use Rattle.synic_board.specs.Step.{step}
use Rattle.c_terms.specs.declared.event.CEvent.{CEvent}

-- the first `count` bytes, if there are that many and they fit
abbrev pub bytes_from_c : ℕ → List ℕ → ℕ → Option (ArrayVec ℕ)
bytes_from_c most bytes count =
    if nat_lt most count || nat_lt (length bytes) count then None else Some (record { items = take count bytes })

-- a vector, if the number is at least 16
abbrev pub vector_from_c : ℕ → Option ℕ
vector_from_c number = if nat_lt number 16 then None else Some number

-- by the kind; an unknown kind encodes no event
abbrev pub event_from_c : CEvent → Option Event
event_from_c e =
    if e.kind == 1 then Some (OpenPort e.port e.vp e.sint (Messages e.buffers))
    else if e.kind == 2 then Some (OpenPort e.port e.vp e.sint (Flags e.flag e.count))
    else if e.kind == 3 then Some (ClosePort e.port)
    else if e.kind == 4 then Some (Write e.vp e.register e.value)
    else if e.kind == 5 then Some (Read e.vp e.register)
    else if e.kind == 6 then option_map (Post e.port e.message_type) (bytes_from_c 240 e.bytes e.length)
    else if e.kind == 7 then Some (Signal e.port e.flag)
    else if e.kind == 8 then option_map (Assert e.vp) (vector_from_c e.vector)
    else if e.kind == 9 then Some (Absorb e.vp e.part e.value)
    else if e.kind == 10 then option_map (Store e.address) (bytes_from_c 8 e.bytes e.length)
    else if e.kind == 11 then Some (Load e.address e.length)
    else if e.kind == 12 then Some (Tick e.moment)
    else if e.kind == 13 then Some (Take e.vp)
    else if e.kind == 14 then Some (Suspend e.vp)
    else if e.kind == 15 then Some (Resume e.vp)
    else if e.kind == 16 then Some (Reset e.vp)
    else if e.kind == 17 then option_map (λ (vector : ℕ). Send vector e.value) (vector_from_c e.vector)
    else None

-- there is an event, and this is its outcome
abbrev pub HasOutcome : Option Event → State → Outcome → Type 0
HasOutcome None s outcome = ⊥
HasOutcome (Some event) s outcome = outcome ≡ step s event
