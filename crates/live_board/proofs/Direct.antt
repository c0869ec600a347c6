-- A timer in direct mode sends no message: it changes no own page.
use Rattle.std.proofs.Common.{◌≡◌, ℕ, ◌+◌, ◌-◌, ◌/◌, ◌%◌, ◌^◌, ◌<◌, ◌≤◌, Bool, true, false, nat_lt, List, length, Option, None, Some, refl, sym, ap, ◌∙◌, subst, arith}
use Rattle.std.specs.Prelude.{◌==◌, bit_and, if◌then◌else◌}
use Rattle.std.specs.Option.{option_map_or}
use Rattle.std.proofs.lemmas.Bool.Decides.{nat_tests}
use Rattle.std.proofs.lemmas.List.{get_or-set_same}
use Rattle.board_terms.specs.Dues.{number_of}
use Rattle.stimer_bank.specs.declared.timer.Timer.{Timer}
use Rattle.stimer_bank.specs.declared.timer.Mode.{Mode}
use Rattle.stimer_bank.specs.declared.timer.Mode.TheVariants.{Direct, Posted}
use Rattle.stimer_bank.specs.Timer.{is_direct, vector_of, sint_of, has_no_target, enables_itself, disabled, enabled, normalized, written_count, after_config, after_count}
use Rattle.stimer_bank.specs.Bank.{timer_in, with_timer, idle_timer}
use Rattle.synic_regs.specs.declared.register.Register.{Register}
use Rattle.synic_regs.specs.declared.register.Register.TheVariants as register
use Rattle.synic_regs.specs.Registers.{register_of}
use Rattle.synic_regs.proofs.Numbers.{have_their_numbers}
use Rattle.synic_board.specs.declared.event.Event.{Event}
use Rattle.synic_board.specs.declared.event.Event.TheVariants.{Write}
use Rattle.synic_board.specs.declared.event.Reply.{Reply}
use Rattle.synic_board.specs.declared.event.Reply.TheVariants.{GeneralProtection}
use Rattle.board_terms.specs.declared.notices.Notice.{Notice}
use Rattle.synic_board.specs.State.{State, processors, bank_of, with_bank}
use Rattle.synic_board.specs.Effects.{Effect, Outcome, unchanged}
use Rattle.synic_board.specs.Registers.{written_register}
use Rattle.synic_board.specs.Sound.{HasShape}
use Rattle.synic_board.specs.Step.{step}
use Rattle.synic_board.specs.Timers.{mode_at, is_ready, signalled_by, expired_state, expiry_at, fired, attempted, written_timer}
use Rattle.synic_board.proofs.keeping.Requests.{either}
use Rattle.live_board.specs.Timers.{is_direct_by, is_direct_write}
use Rattle.live_board.specs.inside.Parts.{IsTimerOf}
use Rattle.live_board.proofs.Tried.{own-requested}

own-signalled : (s : State) (t : ℕ × ℕ) (v : ℕ) (o : Option ℕ) → (signalled_by s t (Direct v) o).0.own ≡ s.own
own-signalled s t v None = refl
own-signalled s t v (Some d) = own-requested s t.0 v

pub own-attempted : (s : State) (t : ℕ × ℕ) → is_direct (timer_in (bank_of s) t).config ≡ true
    → (attempted s t).0.own ≡ s.own
unfolding attempted
own-attempted s t direct =
    let config : ℕ = (timer_in (bank_of s) t).config in
    let mode : mode_at s t ≡ Direct (vector_of config) =
    ap (λ b. if b then Direct (vector_of config) else Posted (sint_of config)) direct in
    either (λ (e : Effect). e.0.own ≡ s.own) (is_ready s t) _ _
    (λ _. subst (λ (m : Mode). (fired s t m).0.own ≡ s.own) (sym mode)
    (own-signalled (expired_state s t) t (vector_of config) (expiry_at s t).signal)) (λ _. refl)

queues-signalled : (s : State) (t : ℕ × ℕ) (v : ℕ) (o : Option ℕ)
    → (signalled_by s t (Direct v) o).0.queues ≡ s.queues
queues-signalled s t v None = refl
queues-signalled s t v (Some d) =
    either (λ (e : Effect). e.0.queues ≡ s.queues) _ _ _ (λ _. refl) (λ _. refl)

pub queues-attempted : (s : State) (t : ℕ × ℕ) → is_direct (timer_in (bank_of s) t).config ≡ true
    → (attempted s t).0.queues ≡ s.queues
unfolding attempted
queues-attempted s t direct =
    let config : ℕ = (timer_in (bank_of s) t).config in
    let mode : mode_at s t ≡ Direct (vector_of config) =
    ap (λ b. if b then Direct (vector_of config) else Posted (sint_of config)) direct in
    either (λ (e : Effect). e.0.queues ≡ s.queues) (is_ready s t) _ _
    (λ _. subst (λ (m : Mode). (fired s t m).0.queues ≡ s.queues) (sym mode)
    (queues-signalled (expired_state s t) t (vector_of config) (expiry_at s t).signal)) (λ _. refl)

-- what a write stores has the same mode
pub direct-disabled : (c : ℕ) → is_direct (disabled c) ≡ is_direct c
direct-disabled c = ap (λ q. q % 2 == 1) (let e : (c - c % 2) / 2 ^ 12 ≡ c / 2 ^ 12 = omega arith in e)

direct-enabled : (c : ℕ) → is_direct (enabled c) ≡ is_direct c
direct-enabled c = ap (λ q. q % 2 == 1) (let e : (c - c % 2 + 1) / 2 ^ 12 ≡ c / 2 ^ 12 = omega arith in e)

direct-normalized : (c : ℕ) → is_direct (normalized c) ≡ is_direct c
direct-normalized c =
    elim (has_no_target c) as
    (λ b. is_direct (if b then disabled c else c) ≡ is_direct c) [ true ↦ direct-disabled c | false ↦ refl ]

direct-count : (c count : ℕ) → is_direct (written_count c count) ≡ is_direct c
direct-count c count = by (count == 0) (enables_itself c)
  where
    by : (a b : Bool) → is_direct (if a then disabled c else if b then normalized (enabled c) else c) ≡ is_direct c
    by true b = direct-disabled c
    by false true = direct-normalized (enabled c) ∙ direct-enabled c
    by false false = refl

own-written : (s : State) (t : ℕ × ℕ) (x : Timer) → number_of t < length s.timers → is_direct x.config ≡ true
    → (written_timer s (with_timer (bank_of s) t x) t).0.own ≡ s.own
own-written s t x low direct =
    own-attempted (with_bank s (with_timer (bank_of s) t x)) t
    (ap (λ (y : Timer). is_direct y.config) (get_or-set_same s.timers (number_of t) x idle_timer low) ∙ direct)

own-register : (s : State) (p number value : ℕ) (o : Option Register) → register_of number ≡ o
    → is_direct_by s p value o ≡ true → p < processors s → processors s ≤ 64 → HasShape s
    → (option_map_or (λ r. (written_register s p r value).0.own) o s.own) ≡ s.own
own-register s p number value (Some (register.TimerConfig n)) is direct on few shape =
    let exists = (have_their_numbers number (register.TimerConfig n)).0 is in
    own-written s (p, n) (after_config (timer_in (bank_of s) (p, n)) value s.moment)
    (omega (arith, exists, on, few, shape.timers)) (direct-normalized (bit_and value 0xf1fff) ∙ direct)
own-register s p number value (Some (register.TimerCount n)) is direct on few shape =
    let exists = (have_their_numbers number (register.TimerCount n)).0 is in
    own-written s (p, n) (after_count (timer_in (bank_of s) (p, n)) value s.moment)
    (omega (arith, exists, on, few, shape.timers))
    (direct-count (timer_in (bank_of s) (p, n)).config value ∙ direct)
own-register s p number value o is direct on few shape = absurd (cc)

pub own-direct : (s now : State) (p : ℕ) (event : Event) (reply : Reply) (notices : List Notice) → IsTimerOf s p event
    → is_direct_write s event ≡ true → (now, reply, notices) ≡ step s event → processors s ≤ 64 → HasShape s
    → now.own ≡ s.own
unfolding step
own-direct s now p (Write q number value) reply notices (on, same, timer) direct is few shape =
    ap (λ (o : Outcome). o.0.own) is ∙ state
    ∙ own-register s p number value (register_of number) refl
    (sym (ap (λ k. is_direct_by s k value (register_of number)) same) ∙ direct) on few shape
  where
    there : nat_lt p (processors s) ≡ true
    there = grind (arith, nat_tests)

    state : (step s (Write q number value)).0.own
        ≡ option_map_or (λ r. (written_register s p r value).0.own) (register_of number) s.own
    state = ap (λ k. (step s (Write k number value)).0.own) same
        ∙ rw there (elim (register_of number) as
        (λ o. (option_map_or (λ r. written_register s p r value) o (unchanged s GeneralProtection)).0.own
        ≡ option_map_or (λ r. (written_register s p r value).0.own) o s.own) [ None ↦ refl | Some r ↦ refl ])
own-direct s now p event reply notices other direct is few shape = absurd other

-- whether the write is of a timer in direct mode then
pub direct-of : (s : State) (p q number value : ℕ) → p ≡ q → is_direct_by s p value (register_of number) ≡ true
    → is_direct_write s (Write q number value) ≡ true
direct-of s p q number value same direct =
    ap (λ k. is_direct_by s k value (register_of number)) (sym same) ∙ direct
