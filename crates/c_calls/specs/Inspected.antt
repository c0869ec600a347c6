-- A local APIC, a timer and a slot for C.
use Rattle.std.specs.Prelude.{◌≡◌, ℕ, ◌*◌, ◌/◌, ◌%◌, ◌^◌, ◌&&◌, nat_lt, Bool, true, false, List, [], ◌∷◌, Option, None, Some, is_some, if◌then◌else◌}
use Rattle.std.specs.Option.{option_map_or}
use Rattle.board_terms.specs.Quantities.{Ticket}
use Rattle.lapic_core.specs.Vectors.{Vectors, word_of}
use Rattle.lapic_core.specs.Apic.{Apic, class, in_service_class, is_no_end_required}
use Rattle.stimer_bank.specs.declared.timer.Timer.{Timer}
use Rattle.stimer_bank.specs.Bank.{timer_in}
use Rattle.synic_board.specs.State.{State, processors, apic_of, bank_of, slot_of}
use Rattle.c_handles.specs.declared.any_board.AnyBoard.{AnyBoard}
use Rattle.c_handles.specs.Kinds.{state_in}
use Rattle.c_calls.specs.declared.inspect.CLapic.{CLapic}
use Rattle.c_calls.specs.declared.inspect_parts.CTimer.{CTimer}

-- a set of vectors, those from 0 on in the first word
abbrev pub words_of : Vectors → List ℕ
words_of vectors = word_of vectors 0 ∷ word_of vectors 1 ∷ word_of vectors 2 ∷ word_of vectors 3 ∷ []

-- PPR (SDM volume 3, "Interrupt, Task, and Processor Priority"): TPR, or the class of the greatest vector in service
-- where that is higher
abbrev pub processor_priority : Apic → ℕ
processor_priority a =
    if nat_lt (class a.task_priority) (in_service_class a) then in_service_class a * 16 else a.task_priority

abbrev pub lapic_to_c : Apic → CLapic
lapic_to_c a = record {
  requested = words_of a.requested;
  in_service = words_of a.in_service;
  task_priority = a.task_priority;
  processor_priority = processor_priority a;
  is_suspended = a.suspended;
}

abbrev pub no_lapic : CLapic
no_lapic = record {
  requested = 0 ∷ 0 ∷ 0 ∷ 0 ∷ [];
  in_service = 0 ∷ 0 ∷ 0 ∷ 0 ∷ [];
  task_priority = 0;
  processor_priority = 0;
  is_suspended = false;
}

-- the local APIC of a processor, if it is on the board
abbrev pub lapic_on : State → ℕ → CLapic
lapic_on s vp = if nat_lt vp (processors s) then lapic_to_c (apic_of s vp) else no_lapic

abbrev pub lapic_at : Option AnyBoard → ℕ → CLapic
lapic_at None vp = no_lapic
lapic_at (Some board) vp = lapic_on (state_in board) vp

-- whether no EOI is required of a processor, if it is on the board
abbrev pub no_eoi_required_on : State → ℕ → Bool
no_eoi_required_on s vp = nat_lt vp (processors s) && is_no_end_required (apic_of s vp)

abbrev pub no_eoi_required_at : Option AnyBoard → ℕ → Bool
no_eoi_required_at None vp = false
no_eoi_required_at (Some board) vp = no_eoi_required_on (state_in board) vp

-- a timer, with its deadline as two words
abbrev pub timer_to_c : Timer → CTimer
timer_to_c x = record {
  is_due = is_some x.due;
  config = x.config;
  count = x.count;
  low = option_map_or (λ due. due % 2 ^ 64) x.due 0;
  high = option_map_or (λ due. due / 2 ^ 64) x.due 0;
}

abbrev pub no_timer : CTimer
no_timer = record { is_due = false; config = 0; count = 0; low = 0; high = 0 }

-- the timer of a processor with an index, if there is one
abbrev pub timer_on : State → ℕ → ℕ → CTimer
timer_on s vp index =
    if nat_lt vp (processors s) && nat_lt index 4 then timer_to_c (timer_in (bank_of s) (vp, index)) else no_timer

abbrev pub timer_at : Option AnyBoard → ℕ → ℕ → CTimer
timer_at None vp index = no_timer
timer_at (Some board) vp index = timer_on (state_in board) vp index

-- the ticket in the slot of a source, if there is one
abbrev pub slot_on : State → ℕ → ℕ → Option Ticket
slot_on s vp sint = if nat_lt vp (processors s) && nat_lt sint 16 then slot_of s vp sint else None

abbrev pub slot_at : Option AnyBoard → ℕ → ℕ → Option Ticket
slot_at None vp sint = None
slot_at (Some board) vp sint = slot_on (state_in board) vp sint

-- the ticket was stored, or there is none
abbrev pub StoresTicket : Option Ticket → Bool → Ticket → Ticket → Type 0
StoresTicket None result old new = (result ≡ false) × (new ≡ old)
StoresTicket (Some ticket) result old new = (result ≡ true) × (new ≡ ticket)
