-- Each event keeps the timers suspended with their local APIC, and four for each processor.
use Rattle.std.proofs.Common.{◌≡◌, ◌≢◌, ◌⊎◌, inl, inr, ℕ, zero, suc, ◌*◌, ◌<◌, ◌≤◌, get_or, set, Bool, false, List, [], ◌∷◌, length, replicate, refl, sym, ap, subst, ◌∙◌, arith}
use Rattle.std.specs.Prelude.{nat_lt}
use Rattle.std.proofs.lemmas.Bool.{cases_eq, cases_lt}
use Rattle.std.proofs.lemmas.List.{length-set, length-replicate, get_or-set_same, get_or-set_other, get_or_past}
use Rattle.lapic_core.specs.Apic.{Apic, empty_apic, request}
use Rattle.board_terms.specs.Dues.{number_of}
use Rattle.board_terms.specs.Messages.{ticket_of}
use Rattle.board_terms.specs.declared.notices.Notice.{Notice}
use Rattle.board_terms.specs.declared.notices.Notice.TheVariants.{Placed}
use Rattle.gpa_space.specs.Space.{is_pending, after_pending}
use Rattle.stimer_bank.specs.declared.timer.Timer.{Timer}
use Rattle.stimer_bank.specs.Timer.{after_config, after_count, after_expiry}
use Rattle.stimer_bank.specs.Bank.{idle_timer, timer_in}
use Rattle.synic_board.specs.declared.event.Event.{Event}
use Rattle.synic_board.specs.declared.event.Reply.{Reply}
use Rattle.synic_board.specs.State.{State, opened, processors, apic_of, space_of, bank_of, with_apic, with_space}
use Rattle.synic_board.specs.Effects.{Effect, Outcome, nothing, after}
use Rattle.synic_board.specs.Interrupts.{raised}
use Rattle.synic_board.specs.Delivery.{placed_state}
use Rattle.synic_board.specs.Posts.{with_flag, flagged}
use Rattle.synic_board.specs.Suspending.{with_suspension}
use Rattle.synic_board.specs.Resetting.{emptied, cleared}
use Rattle.synic_board.specs.Restoring.{with_processor, with_saved_timer}
use Rattle.synic_board.specs.Step.{step}
use Rattle.synic_board.specs.Run.{run_of}
use Rattle.synic_board.specs.Paired.{HasPairedTimers}
use Rattle.synic_board.proofs.Clocks.{many-reset}
use Rattle.synic_board.proofs.keeping.Requests.{either}
use Rattle.synic_board.proofs.Throughout.{OfEffects, throughout}

-- an effect leaves the suspension flags of each processor unchanged, and the timers as many
record Leaves (s : State) (e : Effect) : Type 0 where
  pub many : processors e.0 ≡ processors s
  pub marks : e.0.suspended ≡ s.suspended
  pub apics : (p : ℕ) → (apic_of e.0 p).suspended ≡ (apic_of s p).suspended
  pub timers : length e.0.timers ≡ length s.timers

mute : (s : State) (e : Effect) → e.0.apics ≡ s.apics → e.0.suspended ≡ s.suspended → e.0.timers ≡ s.timers → Leaves s e
mute s e same marks timers = record {
  many = ap (λ (l : List Apic). length l) same;
  marks = marks;
  apics = λ p. ap (λ (l : List Apic). (get_or l p empty_apic).suspended) same;
  timers = ap (λ (l : List Timer). length l) timers;
}

-- an APIC with the same suspension flag
marked-same : (s : State) (p : ℕ) (a : Apic) → a.suspended ≡ (apic_of s p).suspended → (q : ℕ)
    → (apic_of (with_apic s p a) q).suspended ≡ (apic_of s q).suspended
marked-same s p a is q = by (cases_eq q p) (cases_lt p (processors s))
  where
    by : (q ≡ p) ⊎ (q ≢ p) → (p < processors s) ⊎ (processors s ≤ p)
        → (apic_of (with_apic s p a) q).suspended ≡ (apic_of s q).suspended
    by (inl here) (inl on) = ap (λ i. (get_or (set s.apics p a) i empty_apic).suspended) here
        ∙ ap (λ (x : Apic). x.suspended) (get_or-set_same s.apics p a empty_apic on) ∙ is
        ∙ ap (λ i. (apic_of s i).suspended) (sym here)
    by (inl here) (inr past) =
        ap (λ i. (get_or (set s.apics p a) i empty_apic).suspended) here
        ∙ ap (λ (x : Apic). x.suspended)
        (get_or_past (set s.apics p a) p empty_apic (let l = length-set s.apics p a in omega (arith, l, past))
        ∙ sym (get_or_past s.apics p empty_apic past))
        ∙ ap (λ i. (apic_of s i).suspended) (sym here)
    by (inr away) on = ap (λ (x : Apic). x.suspended) (get_or-set_other s.apics p q a empty_apic away)

apic-same : (s : State) (p : ℕ) (a : Apic) → a.suspended ≡ (apic_of s p).suspended → Leaves s (with_apic s p a, [])
apic-same s p a is = record { many = length-set s.apics p a; marks = refl; apics = marked-same s p a is; timers = refl }

left : OfEffects Leaves
left = record {
  stays = λ s. mute s (nothing s) refl refl refl;
  joins = λ s e f a b. record {
    many = b.many ∙ a.many;
    marks = b.marks ∙ a.marks;
    apics = λ p. b.apics p ∙ a.apics p;
    timers = b.timers ∙ a.timers;
  };
  requests = λ s p v _. record {
    many = length-set s.apics p (request (apic_of s p) v);
    marks = refl;
    apics = marked-same s p (request (apic_of s p) v) refl;
    timers = refl;
  };
  accepts = λ s p i m. mute s _ refl refl refl;
  locations = λ s p i m rest _ _.
      either (λ ns. Leaves s (placed_state s p i m rest, Placed p i (ticket_of m) ∷ ns)) (nat_lt 0 (length rest)) _ _
      (λ _. mute s _ refl refl refl) (λ _. mute s _ refl refl refl);
  marks = λ s p i. either (λ ns. Leaves s (with_space s (after_pending (space_of s) p i), ns))
      (is_pending (space_of s) p i) _ _ (λ _. mute s _ refl refl refl) (λ _. mute s _ refl refl refl);
  consumes = λ s p i t _. mute s _ refl refl refl;
  withdraws = λ s p i port. mute s _ refl refl refl;
  frees = λ s p i t. mute s _ refl refl refl;
  empties = λ s p i. mute s _ refl refl refl;
  expires = λ s t due. record {
    many = refl;
    marks = refl;
    apics = λ p. refl;
    timers = length-set s.timers (number_of t) (after_expiry (timer_in (bank_of s) t) s.moment).0;
  };
}

-- an effect from a state with the same processors and flags
from : (s t : State) (e : Effect) → t.apics ≡ s.apics → t.suspended ≡ s.suspended →
    length t.timers ≡ length s.timers → Leaves t e → HasPairedTimers s → HasPairedTimers e.0
from s t e apics marks timers h a = record {
  bound = omega (arith, a.bound, many);
  timers = h.timers ∙ timers ∙ a.timers ∙ ap (λ n. 4 * n) (sym many);
  marks = ap (λ (l : List Bool). length l) (h.marks ∙ marks) ∙ a.marks ∙ sym many;
  suspended = λ p. ap (λ (l : List Bool). get_or l p false) (h.marks ∙ marks) ∙ a.suspended p
      ∙ sym (h.apics p ∙ ap (λ (l : List Apic). (get_or l p empty_apic).suspended) apics);
}
  where
    many : processors e.0 ≡ processors s
    many = h.many ∙ ap (λ (l : List Apic). length l) apics

-- a change of neither local APICs nor timers
pub settled-same : (s now : State) → now.apics ≡ s.apics → now.suspended ≡ s.suspended → now.timers ≡ s.timers
    → HasPairedTimers s → HasPairedTimers now
settled-same s now apics marks timers a = from s s (now, []) refl refl refl (mute s (now, []) apics marks timers) a

-- both flags of a processor are written
written : (s t : State) (p : ℕ) (x : Apic) → t.apics ≡ set s.apics p x → t.suspended ≡ set s.suspended p x.suspended →
    length t.timers ≡ length s.timers → p < processors s → HasPairedTimers s → HasPairedTimers t
written s t p x apics marks timers on a = record {
  bound = omega (arith, a.bound, many);
  timers = timers ∙ a.timers ∙ ap (λ n. 4 * n) (sym many);
  marks = ap (λ (l : List Bool). length l) marks ∙ length-set s.suspended p x.suspended ∙ a.marks ∙ sym many;
  suspended = λ q. ap (λ (l : List Bool). get_or l q false) marks ∙ by q (cases_eq q p)
      ∙ sym (ap (λ (l : List Apic). (get_or l q empty_apic).suspended) apics);
}
  where
    many : processors t ≡ processors s
    many = ap (λ (l : List Apic). length l) apics ∙ length-set s.apics p x

    by : (q : ℕ) → (q ≡ p) ⊎ (q ≢ p)
        → get_or (set s.suspended p x.suspended) q false ≡ (get_or (set s.apics p x) q empty_apic).suspended
    by q (inl here) =
        ap (λ i. get_or (set s.suspended p x.suspended) i false) here
        ∙ get_or-set_same s.suspended p x.suspended false (let m = a.marks in omega (arith, m, on))
        ∙ sym (ap (λ i. (get_or (set s.apics p x) i empty_apic).suspended) here
        ∙ ap (λ (y : Apic). y.suspended) (get_or-set_same s.apics p x empty_apic on))
    by q (inr away) =
        get_or-set_other s.suspended p q x.suspended false away ∙ a.suspended q
        ∙ sym (ap (λ (y : Apic). y.suspended) (get_or-set_other s.apics p q x empty_apic away))

pub settled-processor : (s : State) (p : ℕ) (x : Apic) → p < processors s → HasPairedTimers s
    → HasPairedTimers (with_processor s p x)
settled-processor s p x on a = written s (with_processor s p x) p x refl refl refl on a

pub settled-timer : (s : State) (t : ℕ × ℕ) (x : Timer) → HasPairedTimers s → HasPairedTimers (with_saved_timer s t x)
settled-timer s t x a =
    let now : State =
    with_saved_timer s t x in
    from s now (now, []) refl refl (length-set s.timers (number_of t) x) (mute now (now, []) refl refl refl) a

-- the timers of a processor are reset
many-cleared : (s : State) (p : ℕ) → length (cleared s p).timers ≡ length s.timers
many-cleared s p = many-reset (bank_of s) p

abbrev Keeps : State → Event → Outcome → Type 0
Keeps s event outcome = HasPairedTimers s → HasPairedTimers outcome.0

pub settled-step : (s : State) (event : Event) → HasPairedTimers s → HasPairedTimers (step s event).0
settled-step s event = throughout Leaves Keeps left (record {
  refuses = λ s event r a. a;
  faults = λ s event a. a;
  reads = λ s p number a. a;
  loads = λ s address count a. a;
  acts = λ s event reply moment ports regs e _ h a. from s _ e refl refl refl h a;
  eases = λ s event reply p x _ _ is a. from s s (with_apic s p x, []) refl refl refl (apic-same s p x is) a;
  stores = λ s address bytes e h a. from s _ e refl refl refl h a;
  configures =
      λ s p i number value e on is h a.
      from s _ e refl refl (length-set s.timers (number_of (p, i))
      (after_config (timer_in (bank_of s) (p, i)) value s.moment)) h a;
  counts = λ s p i number value e on is h a.
      from s _ e refl refl (length-set s.timers (number_of (p, i))
      (after_count (timer_in (bank_of s) (p, i)) value s.moment)) h a;
  repeats = λ s port flag p i f _ _ a. settled-same s (with_flag s p i f) refl refl refl a;
  signals = λ s port flag p i f _ _ h a. let lit : State = with_flag s p i f in
      from s s (after (flagged s p i f) (raised lit p i)) refl refl refl
      (left.joins s (flagged s p i f) (raised lit p i) (mute s _ refl refl refl) h) a;
  pauses = λ s event p mark _ on a. written s (with_suspension s p mark) p _ refl refl refl on a;
  resets = λ s p on h a. let e : Effect = emptied s p in let n = h.many in
      written e.0 (cleared e.0 p) p empty_apic refl refl (many-cleared e.0 p) (omega (arith, n, on))
      (from s s e refl refl refl h a);
}) s event

pub settled-run : (s : State) (events : List Event) → HasPairedTimers s → HasPairedTimers (run_of s events).0
unfolding run_of
settled-run s [] a = a
settled-run s (event ∷ events) a = settled-run (step s event).0 events (settled-step s event a)

-- an event that is performed
pub settled : (s now : State) (e : Event) (reply : Reply) (notices : List Notice) → (now, reply, notices) ≡ step s e
    → HasPairedTimers s → HasPairedTimers now
settled s now e reply notices is a = subst (λ (o : Outcome). HasPairedTimers o.0) (sym is) (settled-step s e a)

-- a newly opened board
all-same : {X : Type 0} (n k : ℕ) (x : X) → get_or (replicate n x) k x ≡ x
all-same zero k x = refl
all-same (suc n) zero x = refl
all-same (suc n) (suc k) x = all-same n k x

pub settled-opened : (n pages ticket : ℕ) → n ≤ 64 → HasPairedTimers (opened n pages ticket)
settled-opened n pages ticket bound = record {
  bound = let l = length-replicate n empty_apic in omega (arith, l, bound);
  timers = length-replicate (4 * n) idle_timer ∙ ap (λ k. 4 * k) (sym (length-replicate n empty_apic));
  marks = length-replicate n false ∙ sym (length-replicate n empty_apic);
  suspended = λ p. all-same n p false ∙ sym (ap (λ (x : Apic). x.suspended) (all-same n p empty_apic));
}
