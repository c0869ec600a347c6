-- Writing and expiring timers, and the clock.
use Rattle.std.proofs.Common.{◌≡◌, ℕ, ◌*◌, ◌<◌, Bool, true, false, ◌&&◌, List, [], ◌∷◌, refl, arith, nat_lt, zero, suc}
use Rattle.std.specs.Prelude.{Option, None, Some, ◌==◌, if◌then◌else◌}
use Rattle.stimer_bank.proofs.Shown.{due-there}
use Rattle.board_terms.specs.Dues.{number_of}
use Rattle.board_terms.specs.declared.messages.Message.TheVariants.{FromTimer}
use Rattle.board_terms.specs.declared.refusal.Refusal.TheVariants.{ClockBack}
use Rattle.stimer_bank.specs.declared.timer.Timer.{Timer}
use Rattle.stimer_bank.specs.declared.timer.Mode.{Mode}
use Rattle.stimer_bank.specs.declared.timer.Mode.TheVariants.{Direct, Posted}
use Rattle.stimer_bank.specs.Timer.{is_direct, vector_of, sint_of, mode_of, after_config, after_count, after_expiry}
use Rattle.stimer_bank.specs.Bank.{timer_in, is_due_in, dues, due_list, with_config, with_count, with_timer}
use Rattle.synic_board.specs.State.{State, bank_of, with_bank}
use Rattle.synic_board.specs.declared.event.Reply.TheVariants.{Done, Refused}
use Rattle.synic_board.specs.Timers.{mode_at, is_ready_for, is_ready, expired_notices, skipped_notices, expiry_notices, delivery_by, signalled_by, expired_state, expiry_at, fired, attempted, attempted_until, most_expiries, written_timer, at_moment, ticked}
use Rattle.synic_board.specs.Locations.{times_ended}
use Rattle.synic_board.proofs.keeping.Counts.{ended-append}
use Rattle.synic_board.proofs.keeping.Left.{leaves-same}
use Rattle.synic_board.proofs.keeping.Wholes.{IsIntact, Keeps, KeepsOutcome, EndsNone, keeps-still, keeps-nothing, keeps-unchanged, keeps-after}
use Rattle.synic_board.proofs.keeping.Requests.{either, keeps-requested}
use Rattle.synic_board.proofs.keeping.Attempts.{keeps-delivered}
use Rattle.synic_board.proofs.keeping.Changes.{kept-timer, kept-moment}

-- a due timer belongs to a processor on the board
due-on : (n : ℕ) (s : State) (t : ℕ × ℕ) → IsIntact n s → is_due_in (bank_of s) t s.moment ≡ true → number_of t < 4 * n
due-on n s t h due = let there = due-there (bank_of s) t s.moment due in omega (arith, there, h.whole.timers)

expiry-ends : (t : ℕ × ℕ) (signal : Option ℕ) (skipped : ℕ) → EndsNone (expiry_notices t signal skipped)
expiry-ends t signal skipped ticket =
    omega (arith, ended-append ticket (expired_notices t signal) (skipped_notices t skipped), expired signal, skips)
  where
    expired : (o : Option ℕ) → times_ended ticket (expired_notices t o) ≡ 0
    expired None = refl
    expired (Some d) = refl

    skips : times_ended ticket (skipped_notices t skipped) ≡ 0
    skips = either (λ ns. times_ended ticket ns ≡ 0) (skipped == 0) _ _ (λ _. refl) (λ _. refl)

-- a mode with a source has one of the sixteen
abbrev pub Names : Mode → Type 0
Names (Direct v) = Unit {0}
Names (Posted i) = i < 16

pub mode-names : (config : ℕ) → Names (mode_of config)
mode-names config =
    either Names (is_direct config) (Direct (vector_of config)) (Posted (sint_of config)) (λ _. tt) (λ _. omega arith)

keeps-emitted : (n : ℕ) (s : State) (t : ℕ × ℕ) (mode : Mode) (d : ℕ) → IsIntact n s → t.0 < n → Names mode
    → Keeps n s (delivery_by s t mode d)
keeps-emitted n s t (Direct v) d h below names = keeps-requested n s t.0 v h
keeps-emitted n s t (Posted i) d h below names =
    keeps-delivered n s t.0 i (FromTimer s.next_ticket t d) h below names
    ((λ e. omega (arith, e)), omega arith, tt) refl

keeps-signal : (n : ℕ) (s : State) (t : ℕ × ℕ) (mode : Mode) (o : Option ℕ) → IsIntact n s → t.0 < n → Names mode
    → Keeps n s (signalled_by s t mode o)
keeps-signal n s t mode None h below names = keeps-nothing n s h
keeps-signal n s t mode (Some d) h below names = keeps-emitted n s t mode d h below names

keeps-fired : (n : ℕ) (s : State) (t : ℕ × ℕ) (mode : Mode) → IsIntact n s → number_of t < 4 * n → Names mode
    → Keeps n s (fired s t mode)
keeps-fired n s t mode h low names =
    let now : State = expired_state s t in
    let emitted = expiry_notices t (expiry_at s t).signal (expiry_at s t).skipped in
    let first = keeps-still n s (now, emitted) (kept-timer n s t ((after_expiry (timer_in (bank_of s) t) s.moment).0) h)
    (record { queues = refl; slots = refl; next = refl }) (leaves-same n s now refl refl)
    (expiry-ends t (expiry_at s t).signal (expiry_at s t).skipped) in
    keeps-after n s (now, emitted) (signalled_by now t mode (expiry_at s t).signal) first
    (keeps-signal n now t mode (expiry_at s t).signal first.kept (omega (arith, low)) names)

first-of : (a b : Bool) → (a && b) ≡ true → a ≡ true
first-of true b e = refl
first-of false b e = absurd (cc)

pub keeps-attempted : (n : ℕ) (s : State) (t : ℕ × ℕ) → IsIntact n s → Keeps n s (attempted s t)
unfolding attempted
keeps-attempted n s t h =
    either (Keeps n s) (is_ready s t) _ _
    (λ ready. keeps-fired n s t (mode_at s t) h
    (due-on n s t h (first-of (is_due_in (bank_of s) t s.moment) (is_ready_for s t (mode_at s t)) ready))
    (mode-names (timer_in (bank_of s) t).config))
    (λ _. keeps-nothing n s h)

keeps-attempted_until : (n few : ℕ) (s : State) (ts : List (ℕ × ℕ)) → IsIntact n s
    → Keeps n s (attempted_until few s ts)
unfolding attempted_until
keeps-attempted_until n zero s ts h = keeps-nothing n s h
keeps-attempted_until n (suc few) s [] h = keeps-nothing n s h
keeps-attempted_until n (suc few) s (t ∷ ts) h =
    let first = keeps-attempted n s t h in
    let left = if is_ready s t then few else suc few in
    keeps-after n s (attempted s t) (attempted_until left (attempted s t).0 ts) first
    (keeps-attempted_until n left (attempted s t).0 ts first.kept)

keeps-written : (n : ℕ) (s : State) (t : ℕ × ℕ) (x : Timer) → number_of t < 4 * n → IsIntact n s
    → KeepsOutcome n s (written_timer s (with_timer (bank_of s) t x) t)
keeps-written n s t x low h =
    let now : State = with_bank s (with_timer (bank_of s) t x) in
    let first = keeps-still n s (now, []) (kept-timer n s t x h) (record { queues = refl; slots = refl; next = refl })
    (leaves-same n s now refl refl) (λ _. refl) in
    keeps-after n s (now, []) (attempted now t) first (keeps-attempted n now t first.kept)

pub keeps-written_config : (n : ℕ) (s : State) (t : ℕ × ℕ) (value : ℕ) → number_of t < 4 * n → IsIntact n s
    → KeepsOutcome n s (written_timer s (with_config (bank_of s) t value s.moment) t)
keeps-written_config n s t value low h =
    keeps-written n s t (after_config (timer_in (bank_of s) t) value s.moment) low h

pub keeps-written_count : (n : ℕ) (s : State) (t : ℕ × ℕ) (value : ℕ) → number_of t < 4 * n → IsIntact n s
    → KeepsOutcome n s (written_timer s (with_count (bank_of s) t value s.moment) t)
keeps-written_count n s t value low h = keeps-written n s t (after_count (timer_in (bank_of s) t) value s.moment) low h

pub keeps-ticked : (n : ℕ) (s : State) (moment : ℕ) → IsIntact n s → KeepsOutcome n s (ticked s moment)
keeps-ticked n s moment h =
    let now : State = at_moment s moment in
    let ts : List (ℕ × ℕ) = due_list (dues (bank_of s)) moment in
    either (KeepsOutcome n s) (nat_lt moment s.moment) _ _
    (λ _. keeps-unchanged n s (Refused ClockBack) h)
    (λ _. either (KeepsOutcome n s) (moment == s.moment) _ _
    (λ _. keeps-unchanged n s Done h)
    (λ _. let first = keeps-still n s (now, []) (kept-moment n s moment h)
    (record { queues = refl; slots = refl; next = refl }) (leaves-same n s now refl refl) (λ _. refl) in
    keeps-after n s (now, []) (attempted_until most_expiries now ts) first
    (keeps-attempted_until n most_expiries now ts first.kept)))
