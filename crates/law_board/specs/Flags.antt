-- The FlagSet notices of an event (TLFS, "Event Flags").
use Rattle.std.specs.Prelude.{ℕ, Bool, true, false, not, ◌==◌, ◌&&◌, List, Result, Ok, Err}
use Rattle.std.specs.List.{list_any}
use Rattle.board_terms.specs.declared.notices.Notice.{Notice}
use Rattle.board_terms.specs.declared.notices.Notice.TheVariants.{FlagSet}
use Rattle.board_terms.specs.declared.refusal.Refusal.{Refusal}
use Rattle.event_ports.specs.Ports.{flag_place_of}
use Rattle.gpa_space.specs.Space.{is_flag_set}
use Rattle.synic_board.specs.declared.event.Event.{Event}
use Rattle.synic_board.specs.declared.event.Event.TheVariants.{Signal}
use Rattle.synic_board.specs.declared.event.Reply.{Reply}
use Rattle.synic_board.specs.declared.event.Reply.TheVariants.{GeneralProtection, Refused}
use Rattle.synic_board.specs.State.{State, space_of, ports_of}

abbrev pub is_flag_notice : ℕ → ℕ → ℕ → Notice → Bool
is_flag_notice p i flag (FlagSet q j other) = p == q && i == j && flag == other
is_flag_notice p i flag notice = false

-- one of the notices is a FlagSet of that flag
abbrev pub has_flag_notice : ℕ → ℕ → ℕ → List Notice → Bool
has_flag_notice p i flag notices = list_any (is_flag_notice p i flag) notices

-- the target of a signal is that flag
abbrev pub is_place : ℕ → ℕ → ℕ → Result (ℕ × ℕ × ℕ) Refusal → Bool
is_place p i flag (Ok (q, j, other)) = p == q && i == j && flag == other
is_place p i flag (Err r) = false

-- the event is a signal of that flag
abbrev pub signals_flag : State → ℕ → ℕ → ℕ → Event → Bool
signals_flag s p i flag (Signal port number) = is_place p i flag (flag_place_of (ports_of s) port number)
signals_flag s p i flag event = false

-- the event was performed
abbrev pub is_performed : Reply → Bool
is_performed (Refused r) = false
is_performed GeneralProtection = false
is_performed reply = true

-- a signal that was performed found the flag clear
abbrev pub found_clear : State → ℕ → ℕ → ℕ → Event → Reply → Bool
found_clear s p i flag event reply =
    signals_flag s p i flag event && is_performed reply && not (is_flag_set (space_of s) p i flag)
