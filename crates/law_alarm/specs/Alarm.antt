-- When a host must tick next (the rules of a tick: MACHINE.md, "The clock").
use Rattle.std.specs.Prelude.{◌≡◌, ◌<◌, ℕ, zero, suc, Bool, true, false, not, ◌||◌, ◌&&◌, nat_le, nat_lt, List, [], ◌∷◌, Option, Some, if◌then◌else◌}
use Rattle.std.specs.List.{list_any}
use Rattle.std.specs.Option.{option_map, option_map_or}
use Rattle.synic_board.specs.Alarm.{alarm}
use Rattle.board_terms.specs.Quantities.{Moment}
use Rattle.board_terms.specs.Dues.{least, later_than}
use Rattle.board_terms.specs.declared.notices.Notice.{Notice}
use Rattle.board_terms.specs.declared.notices.Notice.TheVariants.{Expired, Skipped}
use Rattle.stimer_bank.specs.Bank.{idle_timer, dues}
use Rattle.board_terms.specs.declared.messages.Message.{Message}
use Rattle.board_terms.specs.declared.messages.Message.TheVariants.{FromPort, FromTimer}
use Rattle.event_ports.specs.declared.ports.Port.{Port}
use Rattle.event_ports.specs.Ports.{port_at}
use Rattle.message_queues.specs.Queues.{queue_of}
use Rattle.synic_regs.specs.Regs.{has, enable}
use Rattle.synic_regs.specs.declared.register.Register.{Register}
use Rattle.synic_regs.specs.declared.register.Register.TheVariants.{Control, Eom, TimerConfig, TimerCount}
use Rattle.synic_regs.specs.Registers.{register_of}
use Rattle.synic_board.specs.declared.event.Event.{Event}
use Rattle.synic_board.specs.declared.event.Event.TheVariants.{Write, Post, Tick, Suspend, Resume, Reset}
use Rattle.synic_board.specs.declared.event.Reply.TheVariants.{Done}
use Rattle.synic_board.specs.State.{State, opened, regs_of, bank_of, ports_of}
use Rattle.synic_board.specs.Timers.{at_moment}
use Rattle.synic_board.specs.Step.{step}

-- the alarm is at a time, or before it
abbrev pub is_alarm_by : Option Moment → Moment → Bool
is_alarm_by o moment = option_map_or (λ a. nat_le a moment) o false

-- a notice that a timer expired or skipped periods, and a list that begins with one
abbrev pub is_of_timer : Notice → Bool
is_of_timer (Expired p i due) = true
is_of_timer (Skipped p i count) = true
is_of_timer notice = false

abbrev pub begins_with_timer : List Notice → Bool
begins_with_timer [] = false
begins_with_timer (notice ∷ notices) = is_of_timer notice

-- a tick changes only the time, and emits nothing
abbrev pub IsQuiet : State → Moment → Type 0
IsQuiet s moment = step s (Tick moment) ≡ (at_moment s moment, Done, [])

-- a tick makes a timer expire or skip
abbrev pub Wakes : State → Moment → Type 0
Wakes s moment = begins_with_timer (step s (Tick moment)).2 ≡ true

-- the least later time at which a tick does
pub record IsFirst (s : State) (moment : Moment) : Type 0 where
  pub later : s.moment < moment
  pub before : (k : ℕ) → s.moment < k → k < moment → IsQuiet s k
  pub wakes : Wakes s moment

-- a message of a timer is in the queue of a source, so its delivery frees the buffer of the timer
abbrev pub is_of_any_timer : Message → Bool
is_of_any_timer (FromPort ticket port kind payload) = false
is_of_any_timer (FromTimer ticket timer expiration) = true

abbrev pub holds_timer : State → ℕ → ℕ → Bool
holds_timer s p i = list_any is_of_any_timer (queue_of s.queues p i)

-- at the source of a port, if it is open
abbrev pub holds_timer_at : State → Option Port → Bool
holds_timer_at s port = option_map_or (λ (x : Port). holds_timer s x.vp x.sint) port false

-- the next message takes the last ticket, or there is none
abbrev pub is_last_ticket : State → Bool
is_last_ticket s = nat_le 0xfffffffffffffffe s.next_ticket

-- at a source below n
unfoldable pub holds_timer_below : State → ℕ → ℕ → Bool
holds_timer_below s p zero = false
holds_timer_below s p (suc i) = holds_timer s p i || holds_timer_below s p i

abbrev pub differs : Bool → Bool → Bool
differs a b = if a then not b else b

-- the registers whose write may move the alarm: SCONTROL if its bit 0 changes, EOM if a message of a timer waits
abbrev pub moves_by_register : State → ℕ → ℕ → Register → Bool
moves_by_register s p value Control = differs (has value enable) (has (regs_of s p).control enable)
moves_by_register s p value Eom = holds_timer_below s p 16
moves_by_register s p value (TimerConfig n) = true
moves_by_register s p value (TimerCount n) = true
moves_by_register s p value register = false

-- the events that may move the alarm
abbrev pub may_move : State → Event → Bool
may_move s (Write p number value) = option_map_or (moves_by_register s p value) (register_of number) false
may_move s (Post port kind payload) = holds_timer_at s (port_at (ports_of s) port) || is_last_ticket s
may_move s (Tick moment) = nat_lt s.moment moment && is_alarm_by (alarm s) moment
may_move s (Suspend p) = true
may_move s (Resume p) = true
may_move s (Reset p) = true
may_move s event = false

-- a board of one processor, at 650, whose first timer is direct (vector 80) and periodic (100), and was due at 200
abbrev pub late_board : State
late_board = record (opened 1 0 0) {
  moment = 650;
  timers = record { config = 0x1503; count = 100; due = Some 200 } ∷ idle_timer ∷ idle_timer ∷ idle_timer ∷ [];
}

-- the next deadline after the present
abbrev pub deadline_after : State → Option Moment
deadline_after s = option_map (λ r. r.0) (least (later_than s.moment (dues (bank_of s))))
