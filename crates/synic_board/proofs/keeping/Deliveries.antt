-- Deliveries, and attempts of timers, stay within the buffers.
use Rattle.std.proofs.Common.{◌≡◌, ℕ, zero, suc, ◌+◌, ◌*◌, ◌<◌, ◌≤◌, Bool, true, false, ◌&&◌, List, [], ◌∷◌, length, get_or, refl, sym, subst, arith, nat_lt}
use Rattle.std.specs.Prelude.{Option, None, Some, ◌==◌, if◌then◌else◌}
use Rattle.std.specs.Option.{option_map_or}
use Rattle.std.proofs.lemmas.Bool.Decides.{nat_tests}
use Rattle.std.specs.FinSet as finset
use Rattle.std.specs.Int.{bit_at}
use Rattle.board_terms.specs.declared.messages.Message.{Message}
use Rattle.board_terms.specs.declared.messages.Message.TheVariants.{FromTimer}
use Rattle.synic_regs.specs.Regs.{has, enable, raised_by}
use Rattle.board_terms.specs.Sources.{source_number}
use Rattle.message_queues.specs.Queues.{is_timer_free, queue_of}
use Rattle.stimer_bank.specs.Bank.{timer_in, is_due_in}
use Rattle.stimer_bank.specs.declared.timer.Timer.{Timer}
use Rattle.stimer_bank.specs.Timer.{is_due, is_direct, vector_of, sint_of, has_no_target, mode_of}
use Rattle.stimer_bank.proofs.Shown.{due-reached}
use Rattle.stimer_bank.proofs.Sound.{aimed-due, signals-past}
use Rattle.board_terms.specs.Dues.{number_of}
use Rattle.board_terms.specs.Messages.{ticket_of}
use Rattle.stimer_bank.specs.declared.timer.Mode.{Mode}
use Rattle.stimer_bank.specs.declared.timer.Mode.TheVariants.{Direct, Posted}
use Rattle.synic_board.specs.State.{State, apic_of, regs_of, bank_of, with_slot_ticket}
use Rattle.synic_board.specs.Effects.{Effect, nothing}
use Rattle.synic_board.specs.Interrupts.{requested, raised}
use Rattle.synic_board.specs.Absorbing.{is_posted, absorbed_below}
use Rattle.synic_board.specs.Sending.{sent_below}
use Rattle.synic_board.specs.Delivery.{delivers, is_slot_empty, with_messages, placed_state, placed_head, placed, tried, tried_below, accepted, delivered}
use Rattle.synic_board.specs.Posts.{are_tickets_left}
use Rattle.synic_board.specs.Timers.{mode_at, is_ready_for, is_ready, delivery_by, signalled_by, expired_state, expiry_at, attempted, attempted_until}
use Rattle.synic_board.specs.Timed.{Ascends, HasExpired}
use Rattle.synic_board.specs.Buffers.{HasBuffers}
use Rattle.synic_board.proofs.keeping.Requests.{either}
use Rattle.synic_board.proofs.keeping.Clocks.{Names, mode-names}
use Rattle.synic_board.proofs.keeping.Timed.{precedes-placed, timed-same, timed-slot, timed-accepted, timed-expired}
use Rattle.synic_board.proofs.keeping.Uses.{unmoved, alike, fewer-queued, IsPart, part-rest, Fits, timer-fits, buffers-joined}

-- vectors
pub buffers-requested : (s : State) (p v : ℕ) → HasBuffers s → HasBuffers (requested s p v).0
buffers-requested s p v h =
    either (λ (e : Effect). HasBuffers e.0) (finset.contains (apic_of s p).requested v) _ _ (λ _. h)
    (λ _. alike s _ refl refl refl refl refl refl h)

pub buffers-raised : (s : State) (p i : ℕ) → HasBuffers s → HasBuffers (raised s p i).0
buffers-raised s p i h =
    elim (raised_by (regs_of s p) i) as
    (λ o. HasBuffers (option_map_or (requested s p) o (nothing s)).0) [ None ↦ h | Some v ↦ buffers-requested s p v h ]

pub buffers-absorbed_below : (s : State) (p part bits n : ℕ) → HasBuffers s
    → HasBuffers (absorbed_below s p part bits n).0
unfolding absorbed_below
buffers-absorbed_below s p part bits zero h = h
buffers-absorbed_below s p part bits (suc i) h =
    let e : Effect = absorbed_below s p part bits i in
    let before = buffers-absorbed_below s p part bits i h in
    either (λ (f : Effect). HasBuffers f.0) (is_posted part bits i) _ _
    (λ _. buffers-requested e.0 p (64 * part + i) before) (λ _. before)

pub buffers-sent_below : (s : State) (v mask n : ℕ) → HasBuffers s → HasBuffers (sent_below s v mask n).0
unfolding sent_below
buffers-sent_below s v mask zero h = h
buffers-sent_below s v mask (suc p) h =
    let e : Effect = sent_below s v mask p in
    let before = buffers-sent_below s v mask p h in
    either (λ (f : Effect). HasBuffers f.0) (bit_at mask p == 1) _ _ (λ _. buffers-requested e.0 p v before)
    (λ _. before)

-- delivery
buffers-placed : (s : State) (p i : ℕ) → HasBuffers s → HasBuffers (placed s p i).0
buffers-placed s p i h = go (queue_of s.queues p i) refl
  where
    go : (q : List Message) → queue_of s.queues p i ≡ q → HasBuffers (placed_head s p i q).0
    go [] is = h
    go (m ∷ rest) is =
        let middle : State = with_messages s p i rest in
        let fewer = fewer-queued s middle (source_number p i) rest refl refl refl refl refl refl
        (subst (IsPart rest) (sym is) (part-rest m rest)) h in
        let first = precedes-placed s.next_ticket s.queues (source_number p i) m rest
        (subst (Ascends s.next_ticket) is (h.timed.order (source_number p i))) in
        let held : State = with_slot_ticket middle p i (Some (ticket_of m)) in
        let timed = timed-slot middle (source_number p i) (Some (ticket_of m)) first fewer.timed in
        unmoved middle (placed_state s p i m rest) refl refl
        (timed-same held (placed_state s p i m rest) refl refl refl refl refl timed) fewer

buffers-tried : (s : State) (p i : ℕ) → HasBuffers s → HasBuffers (tried s p i).0
unfolding tried
buffers-tried s p i h =
    either (λ (e : Effect). HasBuffers e.0) (delivers s p && nat_lt 0 (length (queue_of s.queues p i))) _ _
    (λ _. either (λ (e : Effect). HasBuffers e.0) (is_slot_empty s p i) _ _
    (λ _. buffers-raised (placed s p i).0 p i (buffers-placed s p i h))
    (λ _. alike s _ refl refl refl refl refl refl h))
    (λ _. h)

pub buffers-tried_below : (s : State) (p n : ℕ) → HasBuffers s → HasBuffers (tried_below s p n).0
unfolding tried_below
buffers-tried_below s p zero h = h
buffers-tried_below s p (suc i) h = buffers-tried (tried_below s p i).0 p i (buffers-tried_below s p i h)

pub buffers-delivered : (s : State) (p i : ℕ) (m : Message) → i < 16 → Fits s p i m → ticket_of m ≡ s.next_ticket
    → HasExpired s.moment i m → HasBuffers s → HasBuffers (delivered s p i m).0
buffers-delivered s p i m under free is timely h =
    buffers-tried (accepted s p i m).0 p i
    (buffers-joined s (s.next_ticket + 1) p i m free (timed-accepted s p i m under is timely h.timed) h)

-- a mode with a source has one that a timer may name
abbrev IsAimed : Mode → Type 0
IsAimed (Direct v) = Unit {0}
IsAimed (Posted i) = 0 < i

mode-aimed : (config : ℕ) → has_no_target config ≡ false → IsAimed (mode_of config)
mode-aimed config target = by (is_direct config) target
  where
    by : (direct : Bool) → (if direct then nat_lt (vector_of config) 16 else sint_of config == 0) ≡ false
        → IsAimed (if direct then Direct (vector_of config) else Posted (sint_of config))
    by true named = tt
    by false named = grind (arith, nat_tests)

first-of : (a b : Bool) → (a && b) ≡ true → a ≡ true
first-of true b e = refl
first-of false b e = absurd (cc)

-- a timer in message mode has a free buffer
abbrev IsReadyTo : State → ℕ × ℕ → Mode → Type 0
IsReadyTo s t (Direct v) = Unit {0}
IsReadyTo s t (Posted i) = is_timer_free s.queues t ≡ true

middle-of : (a b c : Bool) → (a && b && c) ≡ true → b ≡ true
middle-of true true c e = refl
middle-of true false c e = absurd (cc)
middle-of false b c e = absurd (cc)

ready-to : (s : State) (t : ℕ × ℕ) (mode : Mode) (due : Bool) → (due && is_ready_for s t mode) ≡ true
    → IsReadyTo s t mode
ready-to s t (Direct v) due e = tt
ready-to s t (Posted i) true e =
    middle-of (has (regs_of s t.0).control enable) (is_timer_free s.queues t) (are_tickets_left s) e
ready-to s t (Posted i) false e = absurd (cc)

buffers-emitted : (s : State) (t : ℕ × ℕ) (mode : Mode) (d : ℕ) → t.1 < 4 → Names mode → IsAimed mode
    → (0 < d) × (d ≤ s.moment)
    → IsReadyTo s t mode → HasBuffers s → HasBuffers (delivery_by s t mode d).0
buffers-emitted s t (Direct v) d index names aimed past ready h = buffers-requested s t.0 v h
buffers-emitted s t (Posted i) d index names aimed past ready h =
    buffers-delivered s t.0 i (FromTimer s.next_ticket t d) names
    (timer-fits s t i s.next_ticket d names index ready) refl (aimed, past.0, past.1) h

buffers-signalled : (s : State) (t : ℕ × ℕ) (mode : Mode) (o : Option ℕ) → t.1 < 4 → Names mode → IsAimed mode
    → ((d : ℕ) → o ≡ Some d → (0 < d) × (d ≤ s.moment)) → IsReadyTo s t mode → HasBuffers s →
    HasBuffers (signalled_by s t mode o).0
buffers-signalled s t mode None index names aimed past ready h = h
buffers-signalled s t mode (Some d) index names aimed past ready h =
    buffers-emitted s t mode d index names aimed (past d refl) ready h

expired-ready : (s : State) (t : ℕ × ℕ) (mode : Mode) → IsReadyTo s t mode → IsReadyTo (expired_state s t) t mode
expired-ready s t (Direct v) ready = tt
expired-ready s t (Posted i) ready = ready

pub buffers-attempted : (s : State) (t : ℕ × ℕ) → t.1 < 4 → HasBuffers s → HasBuffers (attempted s t).0
unfolding attempted
buffers-attempted s t index h =
    either (λ (e : Effect). HasBuffers e.0) (is_ready s t) _ _
    (λ ready.
    let x : Timer = timer_in (bank_of s) t in
    let due : is_due x s.moment ≡ true =
    due-reached (bank_of s) t s.moment
    (first-of (is_due_in (bank_of s) t s.moment) (is_ready_for s t (mode_at s t)) ready) in
    buffers-signalled (expired_state s t) t (mode_at s t) (expiry_at s t).signal index (mode-names x.config)
    (mode-aimed x.config (aimed-due x s.moment due (h.timed.sound (number_of t))))
    (signals-past x s.moment due (h.timed.sound (number_of t)))
    (expired-ready s t (mode_at s t) (ready-to s t (mode_at s t) (is_due_in (bank_of s) t s.moment) ready))
    (unmoved s (expired_state s t) refl refl (timed-expired s t due h.timed) h))
    (λ _. h)

pub buffers-attempted_until : (n : ℕ) (s : State) (ts : List (ℕ × ℕ))
    → ((k : ℕ) → k < length ts → (get_or ts k (0, 0)).1 < 4) → HasBuffers s → HasBuffers (attempted_until n s ts).0
unfolding attempted_until
buffers-attempted_until zero s ts indexes h = h
buffers-attempted_until (suc n) s [] indexes h = h
buffers-attempted_until (suc n) s (t ∷ ts) indexes h =
    buffers-attempted_until (if is_ready s t then n else suc n) (attempted s t).0 ts
    (λ k less. indexes (suc k) (omega (arith, less))) (buffers-attempted s t (indexes 0 (omega arith)) h)
