-- Writing and trying timers, and the clock (TLFS, "Synthetic Timers"; the rules for late and lazy timers are choices
-- of this profile).
use Rattle.std.specs.Prelude.{ℕ, zero, suc, Bool, true, ◌==◌, ◌&&◌, nat_lt, List, [], ◌∷◌, ◌++◌, Option, if◌then◌else◌}
use Rattle.std.specs.Option.{option_map_or}
use Rattle.board_terms.specs.Quantities.{TimerId, Moment}
use Rattle.board_terms.specs.declared.messages.Message.TheVariants.{FromTimer}
use Rattle.board_terms.specs.declared.notices.Notice.{Notice}
use Rattle.board_terms.specs.declared.notices.Notice.TheVariants.{Expired, Skipped}
use Rattle.board_terms.specs.declared.refusal.Refusal.TheVariants.{ClockBack}
use Rattle.synic_regs.specs.Regs.{has, enable}
use Rattle.message_queues.specs.Queues.{is_timer_free}
use Rattle.stimer_bank.specs.declared.timer.Expiry.{Expiry}
use Rattle.stimer_bank.specs.declared.timer.Mode.{Mode}
use Rattle.stimer_bank.specs.declared.timer.Mode.TheVariants.{Direct, Posted}
use Rattle.stimer_bank.specs.Timer.{mode_of}
use Rattle.stimer_bank.specs.Bank.{Bank, timer_in, is_due_in, dues, after_expiry_of, due_list}
use Rattle.synic_board.specs.declared.event.Reply.TheVariants.{Done}
use Rattle.synic_board.specs.State.{State, regs_of, bank_of, with_bank}
use Rattle.synic_board.specs.Effects.{Effect, Outcome, nothing, after, answered, unchanged, refused}
use Rattle.synic_board.specs.Interrupts.{requested}
use Rattle.synic_board.specs.Delivery.{delivered}
use Rattle.synic_board.specs.Posts.{are_tickets_left}

-- the delivery mode of a timer
abbrev pub mode_at : State → TimerId → Mode
mode_at s t = mode_of (timer_in (bank_of s) t).config

-- a timer in message mode needs the SynIC, its buffer and a ticket
abbrev pub is_ready_for : State → TimerId → Mode → Bool
is_ready_for s t (Direct v) = true
is_ready_for s t (Posted i) = has (regs_of s t.0).control enable && is_timer_free s.queues t && are_tickets_left s

-- a timer that is due at the present time and can be delivered
abbrev pub is_ready : State → TimerId → Bool
is_ready s t = is_due_in (bank_of s) t s.moment && is_ready_for s t (mode_at s t)

-- the notices of an expiry
abbrev pub expired_notices : TimerId → Option Moment → List Notice
expired_notices t signal = option_map_or (λ d. Expired t.0 t.1 d ∷ []) signal []

abbrev pub skipped_notices : TimerId → ℕ → List Notice
skipped_notices t skipped = if skipped == 0 then [] else Skipped t.0 t.1 skipped ∷ []

abbrev pub expiry_notices : TimerId → Option Moment → ℕ → List Notice
expiry_notices t signal skipped = expired_notices t signal ++ skipped_notices t skipped

-- the delivery of an expiry: a request, or a message
abbrev pub delivery_by : State → TimerId → Mode → Moment → Effect
delivery_by s t (Direct v) d = requested s t.0 v
delivery_by s t (Posted i) d = delivered s t.0 i (FromTimer s.next_ticket t d)

abbrev pub signalled_by : State → TimerId → Mode → Option Moment → Effect
signalled_by s t mode signal = option_map_or (delivery_by s t mode) signal (nothing s)

-- a ready timer expires
abbrev pub expired_state : State → TimerId → State
expired_state s t = with_bank s (after_expiry_of (bank_of s) t s.moment).0

abbrev pub expiry_at : State → TimerId → Expiry
expiry_at s t = (after_expiry_of (bank_of s) t s.moment).1

-- the timer is written, with the notices of its expiry and of skipped deadlines; then it signals
abbrev pub fired : State → TimerId → Mode → Effect
fired s t mode =
    let expiry = expiry_at s t in
    let expired = expired_state s t in
    after (expired, expiry_notices t expiry.signal expiry.skipped) (signalled_by expired t mode expiry.signal)

-- an attempt of a timer: one that is not ready is unchanged
unfoldable pub attempted : State → TimerId → Effect
attempted s t = if is_ready s t then fired s t (mode_at s t) else nothing s

-- attempts of several timers in order, until so many have expired; readiness is evaluated at each
unfoldable pub attempted_until : ℕ → State → List TimerId → Effect
attempted_until zero s ts = nothing s
attempted_until (suc n) s [] = nothing s
attempted_until (suc n) s (t ∷ ts) =
    after (attempted s t) (attempted_until (if is_ready s t then n else suc n) (attempted s t).0 ts)

-- a timer that is written is tried once, if it is due then
abbrev pub written_timer : State → Bank → TimerId → Outcome
written_timer s b t = answered Done (attempted (with_bank s b) t)

-- the greatest number of timers that expire in one tick; those that are left stay due
abbrev pub most_expiries : ℕ
most_expiries = 32

-- the clock moves, and the timers that are due then are tried in the order of (deadline, processor, index)
abbrev pub at_moment : State → Moment → State
at_moment s moment = record s { moment = moment }

abbrev pub ticked : State → Moment → Outcome
ticked s moment =
    if nat_lt moment s.moment then refused s ClockBack
    else if moment == s.moment then unchanged s Done
    else answered Done (attempted_until most_expiries (at_moment s moment) (due_list (dues (bank_of s)) moment))
