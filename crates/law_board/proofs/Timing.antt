-- No Expired notice comes before its deadline.
use Rattle.std.proofs.Common.{◌≡◌, ℕ, ◌+◌, ◌-◌, ◌*◌, ◌≤◌, List, [], ◌∷◌, ◌++◌, length, map, refl, sym, ap, subst, ◌∙◌, arith, nat_lt, nat_le, not, true, false}
use Rattle.std.specs.Prelude.{Option, None, Some, ◌==◌}
use Rattle.std.specs.Option.{option_map_or, unwrap_or}
use Rattle.std.proofs.lemmas.Bool.Decides.{nat_tests}
use Rattle.std.proofs.Math.Nat.{div-mul-le_self}
use Rattle.board_terms.specs.Messages.{ticket_of}
use Rattle.board_terms.specs.declared.notices.Notice.{Notice}
use Rattle.board_terms.specs.declared.notices.Notice.TheVariants.{Placed, Withdrawn}
use Rattle.message_queues.specs.Queues.{queue_of, withdrawn_of}
use Rattle.gpa_space.specs.Space.{is_pending, after_pending}
use Rattle.stimer_bank.specs.declared.timer.Timer.{Timer}
use Rattle.stimer_bank.specs.Timer.{Expired, is_due, is_periodic, is_lazy, once, catching_up, lazily, late, expired}
use Rattle.stimer_bank.specs.Bank.{timer_in}
use Rattle.synic_board.specs.declared.event.Event.{Event}
use Rattle.synic_board.specs.declared.event.Reply.{Reply}
use Rattle.synic_board.specs.State.{State, space_of, bank_of, with_space}
use Rattle.synic_board.specs.Effects.{Effect, Outcome, after, answered, unchanged}
use Rattle.synic_board.specs.Delivery.{placed_state}
use Rattle.synic_board.specs.Posts.{with_flag, flagged}
use Rattle.synic_board.specs.Interrupts.{raised}
use Rattle.synic_board.specs.Timers.{expired_notices, skipped_notices, expiry_notices, expiry_at}
use Rattle.synic_board.specs.Resetting.{emptied, cleared}
use Rattle.synic_board.specs.Step.{step}
use Rattle.law_board.specs.Timely.{AreTimely}
use Rattle.synic_board.proofs.keeping.Requests.{either}
use Rattle.synic_board.proofs.Throughout.{OfEffects, throughout}

-- an effect keeps the time, and its expiries were due
record Timely (s : State) (e : Effect) : Type 0 where
  pub same : e.0.moment ≡ s.moment
  pub emitted : AreTimely s.moment e.1

joined : (m : ℕ) (xs ys : List Notice) → AreTimely m xs → AreTimely m ys → AreTimely m (xs ++ ys)
joined m [] ys h k = k
joined m (x ∷ xs) ys h k = (h.0, joined m xs ys h.1 k)

timely-after : (s : State) (e f : Effect) → Timely s e → Timely e.0 f → Timely s (after e f)
timely-after s e f a b =
    record {
      same = b.same ∙ a.same;
      emitted = joined s.moment e.1 f.1 a.emitted (subst (λ m. AreTimely m f.1) a.same b.emitted);
    }

timely-withdrawals : (m p i : ℕ) (tickets : List ℕ) → AreTimely m (map (λ t. Withdrawn p i t) tickets)
timely-withdrawals m p i [] = tt
timely-withdrawals m p i (t ∷ tickets) = (tt, timely-withdrawals m p i tickets)

-- the deadline of an expiry has been reached
abbrev IsBy : ℕ → Option ℕ → Type 0
IsBy t None = Unit {0}
IsBy t (Some d) = d ≤ t

-- of an expiry
abbrev Signals : ℕ → Expired → Type 0
Signals t r = IsBy t r.signal

on-grid : (p d t : ℕ) → d ≤ t → d + late p d t * p ≤ t
on-grid p d t due = let h = div-mul-le_self (t - d) p in omega (arith, h, due)

signals-expired : (x : Timer) (d t : ℕ) → d ≤ t → IsBy t (expired x d t).signal
signals-expired x d t due =
    let k : ℕ = late x.count d t in
    let e : ℕ = d + k * x.count in
    either (Signals t) (not (is_periodic x.config)) (once d) _ (λ _. due)
    (λ _. either (Signals t) (is_lazy x.config) (lazily x.count e k t) (catching_up x.count d k)
    (λ _. either (Signals t) (nat_le (4 * (e + x.count - t)) x.count) _ _ (λ _. tt) (λ _. on-grid x.count d t due))
    (λ _. either (Signals t) (nat_le k 8) _ _ (λ _. due) (λ _. due)))

signals-due : (x : Timer) (t : ℕ) → is_due x t ≡ true → IsBy t (expired x (unwrap_or x.due 0) t).signal
signals-due x t due = by x.due refl
  where
    by : (o : Option ℕ) → x.due ≡ o → IsBy t (expired x (unwrap_or x.due 0) t).signal
    by None e = let none : is_due x t ≡ false = ap (λ o. option_map_or (λ d. nat_le d t) o false) e in absurd (cc)
    by (Some d) e =
        let reached : nat_le d t ≡ true = sym (ap (λ o. option_map_or (λ d. nat_le d t) o false) e) ∙ due in
        let le : d ≤ t = grind (arith, nat_tests) in
        subst (λ o. IsBy t (expired x (unwrap_or o 0) t).signal) (sym e) (signals-expired x d t le)

timely-expiry : (m : ℕ) (t : ℕ × ℕ) (signal : Option ℕ) (skipped : ℕ) → IsBy m signal
    → AreTimely m (expiry_notices t signal skipped)
timely-expiry m t signal skipped by =
    joined m (expired_notices t signal) (skipped_notices t skipped) (first signal by)
    (either (AreTimely m) (skipped == 0) _ _ (λ _. tt) (λ _. (tt, tt)))
  where
    first : (o : Option ℕ) → IsBy m o → AreTimely m (expired_notices t o)
    first None h = tt
    first (Some d) h = (h, tt)

timely : OfEffects Timely
timely = record {
  stays = λ s. record { same = refl; emitted = tt };
  joins = timely-after;
  requests = λ s p v _. record { same = refl; emitted = (tt, tt) };
  accepts = λ s p i m. record { same = refl; emitted = (tt, tt) };
  locations = λ s p i m rest _ _.
      either (λ ns. Timely s (placed_state s p i m rest, Placed p i (ticket_of m) ∷ ns)) (nat_lt 0 (length rest)) _ _
      (λ _. record { same = refl; emitted = (tt, (tt, tt)) }) (λ _. record { same = refl; emitted = (tt, tt) });
  marks = λ s p i. either (λ ns. Timely s (with_space s (after_pending (space_of s) p i), ns))
      (is_pending (space_of s) p i) _ _
      (λ _. record { same = refl; emitted = tt }) (λ _. record { same = refl; emitted = (tt, tt) });
  consumes = λ s p i t _. record { same = refl; emitted = (tt, tt) };
  withdraws = λ s p i port.
      record { same = refl; emitted = timely-withdrawals s.moment p i (withdrawn_of port (queue_of s.queues p i)) };
  frees = λ s p i t. record { same = refl; emitted = (tt, tt) };
  empties = λ s p i. record {
    same = refl;
    emitted = timely-withdrawals s.moment p i (map ticket_of (queue_of s.queues p i));
  };
  expires = λ s t due. record {
    same = refl;
    emitted =
        timely-expiry s.moment t (expiry_at s t).signal (expiry_at s t).skipped
        (signals-due (timer_in (bank_of s) t) s.moment due);
  };
}

-- the expiries of an outcome were due by its own time
record IsOnTime (s : State) (event : Event) (outcome : Outcome) : Type 0 where
  pub emitted : AreTimely outcome.0.moment outcome.2

silent : (s now : State) (event : Event) (reply : Reply) → IsOnTime s event (unchanged now reply)
silent s now event reply = record { emitted = tt }

tells : (s now : State) (event : Event) (reply : Reply) (e : Effect) → Timely now e
    → IsOnTime s event (answered reply e)
tells s now event reply e h = record { emitted = subst (λ m. AreTimely m e.1) (sym h.same) h.emitted }

pub on_time : (s : State) (event : Event) → AreTimely (step s event).0.moment (step s event).2
on_time s event = (throughout Timely IsOnTime timely (record {
  refuses = λ s event r. silent s s event _;
  faults = λ s event. silent s s event _;
  reads = λ s p number. silent s s _ _;
  loads = λ s address count. silent s s _ _;
  acts = λ s event reply moment ports regs e _ h. tells s _ event reply e h;
  eases = λ s event reply p a _ _ _. silent s _ event reply;
  stores = λ s address bytes e h. tells s _ _ _ e h;
  configures = λ s p n number value e _ _ h. tells s _ _ _ e h;
  counts = λ s p n number value e _ _ h. tells s _ _ _ e h;
  repeats = λ s port flag p i f _ _. silent s _ _ _;
  signals = λ s port flag p i f _ _ h. let lit : State = with_flag s p i f in
      tells s s _ _ (after (flagged s p i f) (raised lit p i))
      (timely-after s (flagged s p i f) (raised lit p i) (record { same = refl; emitted = (tt, tt) }) h);
  pauses = λ s event p mark _ _. silent s _ event _;
  resets = λ s p _ h. let e : Effect = emptied s p in
      tells s s _ _ (after e (cleared e.0 p, []))
      (timely-after s e (cleared e.0 p, []) h (record { same = refl; emitted = tt }));
}) s event).emitted
