-- A tick wakes a timer iff the alarm is by then.
use Rattle.std.proofs.Common.{◌≡◌, ◌⊎◌, inl, inr, ℕ, zero, suc, ◌+◌, ◌*◌, ◌<◌, ◌≤◌, Bool, true, false, ◌&&◌, List, [], ◌∷◌, ◌++◌, length, get_or, nat_le, nat_lt, refl, sym, ap, subst, ◌∙◌, arith}
use Rattle.std.specs.Prelude.{Option, None, Some, if◌then◌else◌, ◌==◌, ◌-◌, not}
use Rattle.std.specs.Option.{option_map, option_map_or, unwrap_or}
use Rattle.std.proofs.lemmas.Bool.Decides.{nat_tests}
use Rattle.std.proofs.lemmas.Option.{none-some}
use Rattle.board_terms.specs.Dues.{Dues, number_of, timer_of, least, least_below}
use Rattle.board_terms.specs.declared.notices.Notice.{Notice}
use Rattle.board_terms.specs.declared.notices.Notice.TheVariants.{Skipped}
use Rattle.deadline_tree.specs.Deadlines.{is_due_by}
use Rattle.deadline_tree.proofs.Leasts.{Found, found}
use Rattle.stimer_bank.specs.declared.timer.Timer.{Timer}
use Rattle.stimer_bank.specs.declared.timer.Mode.{Mode}
use Rattle.stimer_bank.specs.Timer.{is_periodic, is_lazy, Expired as Expiring, expired, once, catching_up, lazily, late}
use Rattle.stimer_bank.specs.Bank.{timer_in, dues, due_list, active_due, is_due_in}
use Rattle.stimer_bank.specs.DueList.{Timers, Each, Has, IsDueBy}
use Rattle.stimer_bank.proofs.Shown.{due_at, length-dues}
use Rattle.stimer_bank.proofs.Members.{each-listed}
use Rattle.stimer_bank.proofs.Sorted.{sorted}
use Rattle.board_terms.specs.declared.refusal.Refusal.TheVariants.{ClockBack}
use Rattle.synic_board.specs.declared.event.Reply.TheVariants.{Done}
use Rattle.synic_board.specs.State.{State, bank_of}
use Rattle.synic_board.specs.Effects.{Effect, Outcome, nothing, after, answered, unchanged, refused}
use Rattle.synic_board.specs.Timers.{mode_at, is_ready_for, is_ready, skipped_notices, expiry_notices, expiry_at, expired_state, signalled_by, fired, attempted, attempted_until, most_expiries, at_moment, ticked}
use Rattle.synic_board.specs.Step.{step}
use Rattle.synic_board.proofs.keeping.Requests.{either}
use Rattle.synic_board.specs.Alarm.{ready_dues, alarm_after, alarm}
use Rattle.synic_board.proofs.Alarming.{length-ready, ready_at}
use Rattle.law_alarm.specs.Alarm.{is_alarm_by, begins_with_timer, IsQuiet, Wakes}

-- the tick, by the list of due timers
abbrev after_tick : State → ℕ → Effect
after_tick s moment = attempted_until most_expiries (at_moment s moment) (due_list (dues (bank_of s)) moment)

ticked-later : (s : State) (moment : ℕ) → s.moment < moment → ticked s moment ≡ answered Done (after_tick s moment)
ticked-later s moment later =
    let back : nat_lt moment s.moment ≡ false = grind (arith, nat_tests) in
    let same : (moment == s.moment) ≡ false = grind (arith, nat_tests) in
    λ i. if back i then refused s ClockBack else if same i then unchanged s Done
    else answered Done (after_tick s moment)

number_back : (n : ℕ) → number_of (timer_of n) ≡ n
number_back n = omega arith

and-false : (b : Bool) → (b && false) ≡ false
and-false true = refl
and-false false = refl

-- an attempt of a timer that is not ready
idle-attempt : (s : State) (t : ℕ × ℕ) → is_ready s t ≡ false → attempted s t ≡ nothing s
unfolding attempted
idle-attempt s t not_ready = ap (λ b. if b then fired s t (mode_at s t) else nothing s) not_ready

-- and of several
abbrev IsIdle : State → ℕ × ℕ → Type 0
IsIdle s t = is_ready s t ≡ false

idle-until : (few : ℕ) (s : State) (ts : Timers) → Each (IsIdle s) ts → attempted_until few s ts ≡ nothing s
unfolding attempted_until
idle-until zero s ts idle = refl
idle-until (suc few) s [] idle = refl
idle-until (suc few) s (t ∷ ts) idle =
    (λ i. after (idle-attempt s t idle.0 i)
    (attempted_until (if idle.0 i then few else suc few) (idle-attempt s t idle.0 i).0 ts))
    ∙ ap (after (nothing s)) (idle-until (suc few) s ts idle.1)

-- an expiry says so first
begins-more : (xs ys : List Notice) → begins_with_timer xs ≡ true → begins_with_timer (xs ++ ys) ≡ true
begins-more [] ys h = absurd (cc)
begins-more (x ∷ xs) ys h = h

-- an expiry signals, or skips
abbrev Tells : ℕ × ℕ → Expiring → Type 0
Tells t e = begins_with_timer (expiry_notices t e.signal e.skipped) ≡ true

tells-late : (t : ℕ × ℕ) (p d k : ℕ) → Tells t (catching_up p d k)
tells-late t p d k =
    either (Tells t) (nat_le k 8) (record { signal = Some d; skipped = 0; next = Some (d + p) })
    (record { signal = Some d; skipped = k - 8; next = Some (d + p * (k - 7)) }) (λ _. refl) (λ _. refl)

tells-lazy : (t : ℕ × ℕ) (p e k moment : ℕ) → Tells t (lazily p e k moment)
tells-lazy t p e k moment =
    either (Tells t) (nat_le (4 * (e + p - moment)) p) (record { signal = None; skipped = k + 1; next = Some (e + p) })
    (record { signal = Some e; skipped = k; next = Some (e + p) }) (λ _. skips) (λ _. refl)
  where
    skips : begins_with_timer (skipped_notices t (k + 1)) ≡ true
    skips =
        let some : (k + 1 == 0) ≡ false = grind (arith, nat_tests) in
        ap (λ b. begins_with_timer (if b then [] else Skipped t.0 t.1 (k + 1) ∷ [])) some

tells : (t : ℕ × ℕ) (x : Timer) (d moment : ℕ) → Tells t (expired x d moment)
tells t x d moment =
    let k : ℕ = late x.count d moment in
    let lazy : Expiring = lazily x.count (d + k * x.count) k moment in
    let eager : Expiring = catching_up x.count d k in
    either (Tells t) (not (is_periodic x.config)) (once d) (if is_lazy x.config then lazy else eager) (λ _. refl)
    (λ _. either (Tells t) (is_lazy x.config) lazy eager (λ _. tells-lazy t x.count (d + k * x.count) k moment)
    (λ _. tells-late t x.count d k))

wakes-attempt : (s : State) (t : ℕ × ℕ) → is_ready s t ≡ true → begins_with_timer (attempted s t).1 ≡ true
unfolding attempted
wakes-attempt s t ready =
    let mode : Mode = mode_at s t in
    let expiry = expiry_at s t in
    let x : Timer = timer_in (bank_of s) t in
    ap (λ b. begins_with_timer (if b then fired s t mode else nothing s).1) ready
    ∙ begins-more (expiry_notices t expiry.signal expiry.skipped)
    (signalled_by (expired_state s t) t mode expiry.signal).1 (tells t x (unwrap_or x.due 0) s.moment)

-- a ready timer among those that are tried, of which at least one may expire
wakes-until : (few : ℕ) (s : State) (ts : Timers) (u : ℕ × ℕ) → Has ts u → is_ready s u ≡ true
    → begins_with_timer (attempted_until (suc few) s ts).1 ≡ true
unfolding attempted_until
wakes-until few s [] u h ready = absurd h
wakes-until few s (t ∷ ts) u h ready = by (λ more. wakes-until few s ts u more ready) (is_ready s t) refl
  where
    Begins : Type 0
    Begins =
        begins_with_timer (after (attempted s t) (attempted_until (if is_ready s t then few else suc few)
        (attempted s t).0 ts)).1 ≡ true

    there : (Has ts u → begins_with_timer (attempted_until (suc few) s ts).1 ≡ true) → is_ready s t ≡ false
        → (t ≡ u) ⊎ Has ts u → begins_with_timer (attempted_until (suc few) s ts).1 ≡ true
    there rest never (inl same) =
        let clash : true ≡ false = sym ready ∙ ap (is_ready s) (sym same) ∙ never in absurd (cc)
    there rest never (inr more) = rest more

    by : (Has ts u → begins_with_timer (attempted_until (suc few) s ts).1 ≡ true) → (b : Bool) → is_ready s t ≡ b
        → Begins
    by rest true here =
        begins-more (attempted s t).1
        (attempted_until (if is_ready s t then few else suc few) (attempted s t).0 ts).1 (wakes-attempt s t here)
    by rest false never =
        (λ i. begins_with_timer (after (idle-attempt s t never i)
        (attempted_until (if never i then few else suc few) (idle-attempt s t never i).0 ts)).1)
        ∙ there rest never h

-- a timer that could expire and is due by a time has the alarm by then
module _ (s : State) (moment : ℕ) (later : s.moment < moment) where
  by-after : (d : ℕ) → d ≤ moment → nat_le (alarm_after s.moment d) moment ≡ true
  by-after d le =
      either (λ (a : ℕ). nat_le a moment ≡ true) (nat_le d s.moment) (s.moment + 1) d
      (λ _. grind (arith, nat_tests)) (λ _. grind (arith, nat_tests))

  after-by : (d : ℕ) → nat_le (alarm_after s.moment d) moment ≡ true → d ≤ moment
  after-by d = either (λ (a : ℕ). nat_le a moment ≡ true → d ≤ moment) (nat_le d s.moment) (s.moment + 1) d
      (λ low _. grind (arith, nat_tests)) (λ _ by. grind (arith, nat_tests))

  abbrev seen : Option (ℕ × ℕ) → Option ℕ
  seen o = option_map (λ (r : ℕ × (ℕ × ℕ)). alarm_after s.moment r.0)
      (option_map (λ (r : ℕ × ℕ). (r.0, timer_of r.1)) o)

  by-found : (m : Dues) (n d : ℕ) → n < length m → get_or m n None ≡ Some d → d ≤ moment → (o : Option (ℕ × ℕ))
      → Found m (length m) o → is_alarm_by (seen o) moment ≡ true
  by-found m n d low is le None f = absurd (none-some d (sym (f n low) ∙ is))
  by-found m n d low is le (Some r) f =
      let first = f.first n d low is in by-after r.0 (omega (arith, first.0, le))

  alarm-by : (n d : ℕ) → n < length s.timers → get_or (ready_dues s) n None ≡ Some d → d ≤ moment
      → is_alarm_by (alarm s) moment ≡ true
  unfolding least
  alarm-by n d low is le =
      let m : Dues = ready_dues s in
      by-found m n d (omega (arith, low, length-ready s)) is le (least_below m (length m)) (found m (length m))

  -- and the other way
  record IsWaiting (n d : ℕ) : Type 0 where
    pub low : n < length s.timers
    pub is : get_or (ready_dues s) n None ≡ Some d
    pub by : d ≤ moment

  waiting-found : (m : Dues) (P : Type 0)
      → ((n d : ℕ) → n < length m → get_or m n None ≡ Some d → d ≤ moment → P) → (o : Option (ℕ × ℕ))
      → Found m (length m) o → is_alarm_by (seen o) moment ≡ true → P
  waiting-found m P g None f h = absurd (cc)
  waiting-found m P g (Some r) f h = g r.1 r.0 f.low f.due (after-by r.0 h)

  waiting : (P : Type 0)
      → ((n d : ℕ) → n < length s.timers → get_or (ready_dues s) n None ≡ Some d → d ≤ moment → P)
      → is_alarm_by (alarm s) moment ≡ true → P
  unfolding least
  waiting P g h =
      let m : Dues = ready_dues s in
      waiting-found m P (λ n d low is le. g n d (omega (arith, low, length-ready s)) is le)
      (least_below m (length m)) (found m (length m)) h

  -- a listed timer is not ready, if the alarm is later
  abbrev here : State
  here = at_moment s moment

  ready-is : (n : ℕ) → n < length s.timers → is_ready_for s (timer_of n) (mode_at s (timer_of n)) ≡ true
      → get_or (ready_dues s) n None ≡ get_or (dues (bank_of s)) n None
  ready-is n low could =
      ready_at s n low
      ∙ ap (λ b. if b then active_due (bank_of s) n else None) could
      ∙ sym (due_at (bank_of s) n low)

  idle-number : (n d : ℕ) → n < length s.timers → get_or (dues (bank_of s)) n None ≡ Some d → d ≤ moment
      → is_alarm_by (alarm s) moment ≡ false → IsIdle here (timer_of n)
  idle-number n d low is le never = by (is_ready_for s (timer_of n) (mode_at s (timer_of n))) refl
    where
      by : (b : Bool) → is_ready_for s (timer_of n) (mode_at s (timer_of n)) ≡ b → IsIdle here (timer_of n)
      by true could =
          let no : true ≡ false = sym (alarm-by n d low (ready-is n low could ∙ is) le) ∙ never in absurd (cc)
      by false cannot =
          ap (λ b. is_due_in (bank_of s) (timer_of n) moment && b) cannot
          ∙ and-false (is_due_in (bank_of s) (timer_of n) moment)

  -- and so each of them
  same-pairs : (n : ℕ) → timer_of (number_of (timer_of n)) ≡ timer_of n
  same-pairs n = ap timer_of (number_back n)

  each-idle : is_alarm_by (alarm s) moment ≡ false → (ts : Timers)
      → Each (λ t. timer_of (number_of t) ≡ t) ts
      → Each (IsDueBy (dues (bank_of s)) moment (length (dues (bank_of s)))) ts → Each (IsIdle here) ts
  each-idle never [] pairs due = tt
  each-idle never (t ∷ ts) pairs due =
      let first = due.0 in (
        subst (IsIdle here) pairs.0
            (idle-number (number_of t) first.due (omega (arith, first.low, length-dues (bank_of s))) first.is first.by
            never),
        each-idle never ts pairs.1 due.1,
      )

  quiet-later : is_alarm_by (alarm s) moment ≡ false → ticked s moment ≡ (here, Done, [])
  quiet-later never =
      let m : Dues = dues (bank_of s) in
      let idle : Each (IsIdle here) (due_list m moment) =
      each-idle never (due_list m moment) (each-listed (λ t. timer_of (number_of t) ≡ t) same-pairs m moment)
      (sorted m moment).each in
      ticked-later s moment later ∙ ap (answered Done) (idle-until most_expiries here (due_list m moment) idle)

  -- the timer that the alarm is for
  wakes-number : (n d : ℕ) → n < length s.timers → get_or (ready_dues s) n None ≡ Some d → d ≤ moment
      → begins_with_timer (after_tick s moment).1 ≡ true
  wakes-number n d low is le = by (is_ready_for s (timer_of n) (mode_at s (timer_of n))) refl
    where
      m : Dues
      m = dues (bank_of s)

      by : (b : Bool) → is_ready_for s (timer_of n) (mode_at s (timer_of n)) ≡ b
          → begins_with_timer (after_tick s moment).1 ≡ true
      by false cannot =
          absurd (none-some d (sym (ap (λ b. if b then active_due (bank_of s) n else None) cannot)
          ∙ sym (ready_at s n low) ∙ is))
      by true could =
          let due : get_or m n None ≡ Some d = sym (ready-is n low could) ∙ is in
          let reached : nat_le d moment ≡ true = grind (arith, nat_tests) in
          let in_time : is_due_in (bank_of s) (timer_of n) moment ≡ true =
          ap (is_due_by m moment) (number_back n) ∙ ap (λ o. option_map_or (λ e. nat_le e moment) o false) due
          ∙ reached in
          wakes-until 31 here (due_list m moment) (timer_of n)
          ((sorted m moment).every n d (omega (arith, low, length-dues (bank_of s))) due le)
          (λ i. in_time i && could i)

  wakes-later : is_alarm_by (alarm s) moment ≡ true → begins_with_timer (ticked s moment).2 ≡ true
  wakes-later h =
      ap (λ (o : Outcome). begins_with_timer o.2) (ticked-later s moment later)
      ∙ waiting (begins_with_timer (after_tick s moment).1 ≡ true) wakes-number h

pub quiet : (s : State) (moment : ℕ) → s.moment < moment → is_alarm_by (alarm s) moment ≡ false → IsQuiet s moment
unfolding step
quiet s moment later h = quiet-later s moment later h

pub wakes : (s : State) (moment : ℕ) → s.moment < moment → is_alarm_by (alarm s) moment ≡ true → Wakes s moment
unfolding step
wakes s moment later h = wakes-later s moment later h
