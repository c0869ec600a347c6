-- Each period of a periodic timer that is not written is accounted for by one expiry, or skipped once.
use Rattle.std.proofs.Common.{◌≡◌, ℕ, ◌+◌, ◌*◌, ◌/◌, ◌≤◌, true, false, nat_le, List, [], ◌∷◌, ◌++◌, refl, sym, ap, subst, ◌∙◌, arith}
use Rattle.std.specs.Prelude.{Option, None, Some, ◌==◌, if◌then◌else◌}
use Rattle.std.specs.List.{All}
use Rattle.std.specs.Option.{option_map_or, unwrap_or}
use Rattle.std.proofs.lemmas.Bool.Decides.{nat_tests}
use Rattle.std.proofs.lemmas.List.Elements.{All-head, All-tail}
use Rattle.board_terms.specs.Dues.{number_of}
use Rattle.board_terms.specs.declared.notices.Notice.{Notice}
use Rattle.board_terms.specs.declared.notices.Notice.TheVariants.{Skipped}
use Rattle.stimer_bank.specs.declared.timer.Timer.{Timer}
use Rattle.stimer_bank.specs.Timer.{is_periodic, disabled, is_due, Expired as Expiring, expired, after_expiry}
use Rattle.stimer_bank.specs.Bank.{timer_in}
use Rattle.stimer_bank.specs.Laws.{signals, AccountsForAll}
use Rattle.stimer_bank.proofs.Accounts.{accounts}
use Rattle.synic_board.specs.declared.event.Event.{Event}
use Rattle.synic_board.specs.State.{State, bank_of}
use Rattle.synic_board.specs.Effects.{Effect, Outcome, after}
use Rattle.synic_board.specs.Timers.{expired_notices, skipped_notices, expiry_notices, expiry_at}
use Rattle.synic_board.specs.Step.{step}
use Rattle.synic_board.specs.Run.{run_of}
use Rattle.law_board.specs.OneShots.{expiries}
use Rattle.law_board.specs.Periods.{sets_timer, skips, IsPeriodic, after_periods}
use Rattle.synic_board.proofs.keeping.Requests.{either}
use Rattle.synic_board.proofs.Throughout.{expiry_made}
use Rattle.law_board.proofs.Timers.{expiries-joined, skips-joined, same-timer, expires-here, skipped-none, expired-none, throughout-timer, same-number, config-writes, count-writes}

-- the periods that the notices account for
abbrev periods : ℕ × ℕ → List Notice → ℕ
periods t notices = expiries t notices + skips t notices

-- a periodic timer advances by as many periods as its notices account for
abbrev GoesOn : ℕ × ℕ → State → Effect → Type 0
GoesOn t s e =
    (due : ℕ) → IsPeriodic (timer_in (bank_of s) t) due
    → timer_in (bank_of e.0) t ≡ after_periods (timer_in (bank_of s) t) due (periods t e.1)

-- after that many periods it is still periodic, and due then
still-periodic : (x y : Timer) (due count : ℕ) → IsPeriodic x due → y ≡ after_periods x due count
    → IsPeriodic y (due + x.count * count)
still-periodic x y due count h e = record {
  periodic = ap (λ (z : Timer). is_periodic z.config) e ∙ h.periodic;
  some = let same : y.count ≡ x.count = ap (λ (z : Timer). z.count) e in omega (arith, same, h.some);
  due = ap (λ (z : Timer). z.due) e;
}

-- one effect after another
goes-after : (t : ℕ × ℕ) (s : State) (e f : Effect) → GoesOn t s e → GoesOn t e.0 f → GoesOn t s (after e f)
goes-after t s e f a b due h =
    let x : Timer = timer_in (bank_of s) t in
    let y : Timer = timer_in (bank_of e.0) t in
    let first : y ≡ after_periods x due (periods t e.1) = a due h in
    let middle : ℕ = due + x.count * periods t e.1 in
    b middle (still-periodic x y due (periods t e.1) h first)
    ∙ ap (λ (z : Timer). after_periods z middle (periods t f.1)) first
    ∙ ap (λ d. record { config = x.config; count = x.count; due = Some d })
    (sums due x.count (periods t e.1) (periods t f.1) (periods t (e.1 ++ f.1))
    (omega (arith, expiries-joined t e.1 f.1, skips-joined t e.1 f.1)))
  where
    sums : (d c m n l : ℕ) → l ≡ m + n → d + c * m + c * n ≡ d + c * l
    sums d c m n l e = rw e (grind arith)

-- an effect that leaves the timer unchanged and emits no notice of it
goes-nowhere : (t : ℕ × ℕ) (s : State) (e : Effect) → timer_in (bank_of e.0) t ≡ timer_in (bank_of s) t
    → expiries t e.1 ≡ 0 → skips t e.1 ≡ 0 → GoesOn t s e
goes-nowhere t s e same none without due h =
    let x : Timer = timer_in (bank_of s) t in
    let is : due ≡ due + x.count * periods t e.1 = at due x.count (periods t e.1) (omega (arith, none, without)) in
    same ∙ ap (λ o. record { config = x.config; count = x.count; due = o }) (h.due ∙ ap Some is)
  where
    at : (d c n : ℕ) → n ≡ 0 → d ≡ d + c * n
    at d c n e = rw e (grind arith)

-- the periods in the notices of its expiry
emitted-of : (t u : ℕ × ℕ) (signal : Option ℕ) (skipped : ℕ) → number_of u ≡ number_of t
    → periods t (expiry_notices u signal skipped) ≡ signals signal + skipped
emitted-of t u signal skipped same =
    omega (
      arith,
      expiries-joined t (expired_notices u signal) (skipped_notices u skipped),
      skips-joined t (expired_notices u signal) (skipped_notices u skipped),
      skipped-none t u skipped,
      expired-none t u signal,
      first signal,
      second,
    )
  where
    first : (o : Option ℕ) → expiries t (expired_notices u o) ≡ signals o
    first None = refl
    first (Some d) = ap (λ b. 0 + (if b then 1 else 0)) (same-number (number_of u) (number_of t) same)

    second : skips t (skipped_notices u skipped) ≡ skipped
    second =
        either (λ ns. skips t ns ≡ skipped) (skipped == 0) [] (Skipped u.0 u.1 skipped ∷ [])
        (λ none. grind (arith, nat_tests))
        (λ _. let whole : (if number_of u == number_of t then skipped else 0)
        ≡ skipped =
        ap (λ b. if b then skipped else 0) (same-number (number_of u) (number_of t) same) in omega (arith, whole))

-- its deadline has been reached
due-by : (x : Timer) (due moment : ℕ) → x.due ≡ Some due → is_due x moment ≡ true → due ≤ moment
due-by x due moment is at =
    let le : nat_le due moment ≡ true =
    ap (λ (o : Option ℕ). option_map_or (λ d. nat_le d moment) o false) (sym is) ∙ at in
    grind (arith, nat_tests)

-- the timer after its expiry
expires-on : (x : Timer) (due moment : ℕ) → IsPeriodic x due → is_due x moment ≡ true
    → (after_expiry x moment).0
    ≡ after_periods x due (signals (after_expiry x moment).1.signal + (after_expiry x moment).1.skipped)
expires-on x due moment h at =
    let d : ℕ = unwrap_or x.due 0 in
    let is : d ≡ due = ap (λ (o : Option ℕ). unwrap_or o 0) h.due in
    let e : Expiring = expired x d moment in
    let all : AccountsForAll x.count d moment e =
    accounts x d moment h.periodic h.some (omega (arith, is, due-by x due moment h.due at)) in
    ap (λ b. record { config = if b then x.config else disabled x.config; count = x.count; due = e.next }) h.periodic
    ∙ ap (λ o. record { config = x.config; count = x.count; due = o })
    (all.due ∙ ap Some all.grid ∙ ap (λ n. Some (n + x.count * (signals e.signal + e.skipped))) is)

-- its expiry
goes-expiry : (t : ℕ × ℕ) (s : State) (u : ℕ × ℕ) → number_of u ≡ number_of t
    → is_due (timer_in (bank_of s) u) s.moment ≡ true → GoesOn t s (expiry_made s u)
goes-expiry t s u same at due h =
    let x : Timer = timer_in (bank_of s) t in
    let y : Timer = timer_in (bank_of s) u in
    let is : x ≡ y = same-timer s t u same in
    let here : IsPeriodic y due = subst (λ (z : Timer). IsPeriodic z due) is h in
    expires-here s t u same at
    ∙ expires-on y due s.moment here at
    ∙ ap (after_periods y due) (sym (emitted-of t u (expiry_at s u).signal (expiry_at s u).skipped same))
    ∙ ap (λ (z : Timer). after_periods z due (periods t (expiry_made s u).1)) (sym is)

-- an event that does not set it
abbrev GoesOnAfter : ℕ × ℕ → State → Event → Outcome → Type 0
GoesOnAfter t s event outcome = sets_timer t event ≡ false → GoesOn t s (outcome.0, outcome.2)

-- each event
event-goes : (t : ℕ × ℕ) (s : State) (event : Event) → GoesOnAfter t s event (step s event)
event-goes t =
    throughout-timer t (GoesOn t) (GoesOnAfter t)
    (record { still = goes-nowhere t; joins = goes-after t; expires = goes-expiry t }) (record {
      acts = λ s event reply e h _. h;
      configures =
          λ s p n number value e is same _ unwritten. let no : true ≡ false =
          sym (config-writes t p n number value is same) ∙ unwritten in absurd (cc);
      counts = λ s p n number value e is same _ unwritten. let no : true
          ≡ false = sym (count-writes t p n number value is same) ∙ unwritten in absurd (cc);
      resets = λ s p own _ _ unset. let no : true ≡ false = sym (same-number (number_of t / 4) p own) ∙ unset in
          absurd (cc);
    })

-- and all of them
pub goes_on : (s : State) (t : ℕ × ℕ) (due : ℕ) (events : List Event) → IsPeriodic (timer_in (bank_of s) t) due
    → All (λ event. sets_timer t event ≡ false) events
    → timer_in (bank_of (run_of s events).0) t
    ≡ after_periods (timer_in (bank_of s) t) due (expiries t (run_of s events).2 + skips t (run_of s events).2)
unfolding run_of
goes_on s t due [] h quiet = goes-nowhere t s (s, []) refl refl refl due h
goes_on s t due (event ∷ events) h quiet =
    let now : State = (step s event).0 in
    let calm : sets_timer t event ≡ false = All-head (λ event. sets_timer t event ≡ false) event events quiet in
    let rest : All (λ event. sets_timer t event ≡ false) events =
    All-tail (λ event. sets_timer t event ≡ false) event events quiet in
    goes-after t s (now, (step s event).2) ((run_of now events).0, (run_of now events).2) (event-goes t s event calm)
    (λ moment g. goes_on now t moment events g rest) due h
