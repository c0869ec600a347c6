-- Slots and queues stay in the order of tickets, and timers sound and near.
use Rattle.std.proofs.Common.{◌≡◌, ◌≢◌, ◌⊎◌, inl, inr, ℕ, zero, suc, ◌+◌, ◌*◌, ◌%◌, ◌<◌, ◌≤◌, true, List, [], ◌∷◌, ◌++◌, length, replicate, get_or, set, refl, sym, subst, arith}
use Rattle.std.specs.Prelude.{Option, None, Some, not}
use Rattle.std.specs.List.{All}
use Rattle.std.proofs.lemmas.Bool.{cases_lt, cases_eq}
use Rattle.std.proofs.lemmas.Option.{none-some}
use Rattle.std.proofs.lemmas.List.{set_past, get_or-set_same, get_or-set_other}
use Rattle.std.proofs.Math.ListN.{get_or-eq_default}
use Rattle.std.proofs.lemmas.List.Elements.{All-nil, All-cons, All-head, All-tail, All-push, All-weaker, All-filter}
use Rattle.board_terms.specs.Dues.{number_of}
use Rattle.board_terms.specs.Messages.{ticket_of}
use Rattle.board_terms.specs.Sources.{source_number}
use Rattle.board_terms.specs.declared.messages.Message.{Message}
use Rattle.board_terms.specs.declared.messages.Message.TheVariants.{FromPort, FromTimer}
use Rattle.message_queues.specs.Queues.{Queues, queue_of, is_from_port, left_of}
use Rattle.stimer_bank.specs.declared.timer.Timer.{Timer}
use Rattle.stimer_bank.specs.Timer.{is_due, after_config, after_count, after_expiry, IsSoundTimer}
use Rattle.stimer_bank.specs.Bank.{idle_timer, timer_in, with_timer}
use Rattle.stimer_bank.proofs.Lists.{opened_sound, written_sound}
use Rattle.stimer_bank.proofs.Sound.{sound-config, sound-count, sound-expired, near-started, near-expired}
use Rattle.synic_board.specs.State.{State, slot_of, bank_of, with_bank, opened}
use Rattle.synic_board.specs.Delivery.{accepted}
use Rattle.synic_board.specs.Timers.{at_moment, expired_state}
use Rattle.synic_board.specs.Resetting.{cleared}
use Rattle.synic_board.specs.Timed.{Ascends, Precedes, HasExpired, IsNear, IsTimed}
use Rattle.synic_board.proofs.keeping.Requests.{either}

-- tickets
pub ascends-more : (a b : ℕ) (q : List Message) → a ≤ b → Ascends a q → Ascends b q
ascends-more a b [] le h = tt
ascends-more a b (m ∷ q) le h = (omega (arith, h.0, le), h.1, ascends-more a b q le h.2)

ascends-below : (next : ℕ) (q : List Message) → Ascends next q → All (λ x. ticket_of x < next) q
ascends-below next [] h = All-nil (λ x. ticket_of x < next)
ascends-below next (m ∷ q) h = All-cons (λ x. ticket_of x < next) m q h.0 (ascends-below next q h.2)

pub ascends-push : (next : ℕ) (q : List Message) (m : Message) → All (λ x. ticket_of x < ticket_of m) q
    → ticket_of m < next → Ascends next q → Ascends next (q ++ m ∷ [])
ascends-push next [] m below low h = (low, All-nil (λ x. ticket_of m < ticket_of x), tt)
ascends-push next (x ∷ q) m below low h = (
  h.0,
  All-push (λ y. ticket_of x < ticket_of y) q m h.1 (All-head (λ y. ticket_of y < ticket_of m) x q below),
  ascends-push next q m (All-tail (λ y. ticket_of y < ticket_of m) x q below) low h.2,
)

ascends-joined : (next : ℕ) (q : List Message) (m : Message) → ticket_of m ≡ next → Ascends next q
    → Ascends (next + 1) (q ++ m ∷ [])
ascends-joined next q m is h =
    ascends-push (next + 1) q m (subst (λ t. All (λ x. ticket_of x < t) q) (sym is) (ascends-below next q h))
    (omega (arith, is)) (ascends-more next (next + 1) q (omega arith) h)

pub ascends-left : (port next : ℕ) (q : List Message) → Ascends next q → Ascends next (left_of port q)
ascends-left port next [] h = tt
ascends-left port next (m ∷ q) h =
    let rest = ascends-left port next q h.2 in
    either (Ascends next) (not (is_from_port port m)) _ _
    (λ _. (h.0, All-filter (λ x. not (is_from_port port x)) (λ x. ticket_of m < ticket_of x) q h.1, rest)) (λ _. rest)

precedes-more : (a b : ℕ) (o : Option ℕ) (q : List Message) → a ≤ b → Precedes a o q → Precedes b o q
precedes-more a b None q le h = tt
precedes-more a b (Some t) q le h = (omega (arith, h.0, le), h.1)

precedes-joined : (next : ℕ) (o : Option ℕ) (q : List Message) (m : Message) → ticket_of m ≡ next → Precedes next o q
    → Precedes (next + 1) o (q ++ m ∷ [])
precedes-joined next None q m is h = tt
precedes-joined next (Some t) q m is h =
    (omega (arith, h.0), All-push (λ x. t < ticket_of x) q m h.1 (omega (arith, h.0, is)))

pub precedes-push : (next : ℕ) (o : Option ℕ) (q : List Message) (m : Message)
    → ((t : ℕ) → o ≡ Some t → t < ticket_of m) → Precedes next o q → Precedes next o (q ++ m ∷ [])
precedes-push next None q m behind h = tt
precedes-push next (Some t) q m behind h = (h.0, All-push (λ x. t < ticket_of x) q m h.1 (behind t refl))

-- the head of a queue goes into the slot
pub precedes-placed : (next : ℕ) (qs : Queues) (j : ℕ) (m : Message) (rest : List Message) → Ascends next (m ∷ rest)
    → Precedes next (Some (ticket_of m)) (get_or (set qs j rest) j [])
precedes-placed next qs j m rest h = (h.0, split (cases_lt j (length qs)))
  where
    Younger : List Message → Type 0
    Younger q = All (λ x. ticket_of m < ticket_of x) q

    split : (j < length qs) ⊎ (length qs ≤ j) → Younger (get_or (set qs j rest) j [])
    split (inl inside) = subst Younger (sym (get_or-set_same qs j rest [] inside)) h.1
    split (inr past) =
        subst (λ xs. Younger (get_or xs j [])) (sym (set_past qs j rest past))
        (subst Younger (sym (get_or-eq_default qs [] past)) (All-nil (λ x. ticket_of m < ticket_of x)))

-- times
timely-later : (a b i : ℕ) → a ≤ b → (m : Message) → HasExpired a i m → HasExpired b i m
timely-later a b i le (FromPort ticket port kind payload) h = tt
timely-later a b i le (FromTimer ticket t expiration) h = (h.0, h.1, omega (arith, h.2, le))

-- each queue, slot or timer, of which one is written
each-written : {X : Type 0} (P : ℕ → X → Type 0) (d : X) (xs : List X) (j : ℕ) (x : X) → P j x
    → ((k : ℕ) → P k (get_or xs k d)) → (k : ℕ) → P k (get_or (set xs j x) k d)
each-written P d xs j x new old k = split (cases_eq k j) (cases_lt j (length xs))
  where
    split : (k ≡ j) ⊎ (k ≢ j) → (j < length xs) ⊎ (length xs ≤ j) → P k (get_or (set xs j x) k d)
    split (inl same) (inl inside) =
        subst (λ n. P n (get_or (set xs j x) n d)) (sym same)
        (subst (P j) (sym (get_or-set_same xs j x d inside)) new)
    split (inr other) _ = subst (P k) (sym (get_or-set_other xs j k x d other)) (old k)
    split _ (inr past) = subst (λ ys. P k (get_or ys k d)) (sym (set_past xs j x past)) (old k)

-- the same queues, slots and timers
pub timed-same : (s now : State) → now.queues ≡ s.queues → now.next_ticket ≡ s.next_ticket → now.moment ≡ s.moment
    → now.timers ≡ s.timers → now.slots ≡ s.slots → IsTimed s → IsTimed now
timed-same s now queues next moment timers slots h = record {
  order = λ k. subst (λ n. Ascends n (get_or now.queues k [])) (sym next)
      (subst (λ qs. Ascends s.next_ticket (get_or qs k [])) (sym queues) (h.order k));
  ahead = λ k. subst (λ n. Precedes n (get_or now.slots k None) (get_or now.queues k [])) (sym next)
      (subst (λ os. Precedes s.next_ticket (get_or os k None) (get_or now.queues k [])) (sym slots)
      (subst (λ qs. Precedes s.next_ticket (get_or s.slots k None) (get_or qs k [])) (sym queues) (h.ahead k)));
  timely = λ k. subst (λ n. All (HasExpired n (k % 16)) (get_or now.queues k [])) (sym moment)
      (subst (λ qs. All (HasExpired s.moment (k % 16)) (get_or qs k [])) (sym queues) (h.timely k));
  sound = λ n. subst (λ ts. IsSoundTimer (get_or ts n idle_timer)) (sym timers) (h.sound n);
  near = λ n. subst (λ m. IsNear m (get_or now.timers n idle_timer)) (sym moment)
      (subst (λ ts. IsNear s.moment (get_or ts n idle_timer)) (sym timers) (h.near n));
}

pub timed-moment : (s : State) (moment : ℕ) → s.moment ≤ moment → IsTimed s → IsTimed (at_moment s moment)
timed-moment s moment later h = record {
  order = h.order;
  ahead = h.ahead;
  timely = λ k. All-weaker (HasExpired s.moment (k % 16)) (HasExpired moment (k % 16))
      (timely-later s.moment moment (k % 16) later) (get_or s.queues k []) (h.timely k);
  sound = h.sound;
  near = λ n d due periodic. omega (arith, h.near n d due periodic, later);
}

-- a queue is written
pub timed-queue : (s now : State) (j : ℕ) (q : List Message) → now.queues ≡ set s.queues j q
    → now.next_ticket ≡ s.next_ticket → now.moment ≡ s.moment → now.timers ≡ s.timers → now.slots ≡ s.slots →
    Ascends s.next_ticket q → Precedes s.next_ticket (get_or s.slots j None) q
    → All (HasExpired s.moment (j % 16)) q → IsTimed s → IsTimed now
timed-queue s now j q queues next moment timers slots order ahead timely h =
    timed-same written now queues next moment timers slots (record {
      order = each-written (λ k. Ascends s.next_ticket) [] s.queues j q order h.order;
      ahead = each-written (λ k. Precedes s.next_ticket (get_or s.slots k None)) [] s.queues j q ahead h.ahead;
      timely = each-written (λ k. All (HasExpired s.moment (k % 16))) [] s.queues j q timely h.timely;
      sound = h.sound;
      near = h.near;
    })
  where
    written : State
    written = record s { queues = set s.queues j q }

-- a slot is written
pub timed-slot : (s : State) (j : ℕ) (o : Option ℕ) → Precedes s.next_ticket o (get_or s.queues j []) → IsTimed s
    → IsTimed (record s { slots = set s.slots j o })
timed-slot s j o ahead h = record {
  order = h.order;
  ahead = each-written (λ k x. Precedes s.next_ticket x (get_or s.queues k [])) None s.slots j o ahead h.ahead;
  timely = h.timely;
  sound = h.sound;
  near = h.near;
}

-- a message is accepted
pub timed-accepted : (s : State) (p i : ℕ) (m : Message) → i < 16 → ticket_of m ≡ s.next_ticket
    → HasExpired s.moment i m → IsTimed s → IsTimed (accepted s p i m).0
timed-accepted s p i m under is timely h = record {
  order = each-written (λ k. Ascends (s.next_ticket + 1)) [] s.queues (source_number p i)
      (queue_of s.queues p i ++ m ∷ [])
      (ascends-joined s.next_ticket (queue_of s.queues p i) m is (h.order (source_number p i)))
      (λ k. ascends-more s.next_ticket (s.next_ticket + 1) (get_or s.queues k []) (omega arith) (h.order k));
  ahead = each-written (λ k. Precedes (s.next_ticket + 1) (get_or s.slots k None)) [] s.queues (source_number p i)
      (queue_of s.queues p i ++ m ∷ [])
      (precedes-joined s.next_ticket (slot_of s p i) (queue_of s.queues p i) m is (h.ahead (source_number p i)))
      (λ k. precedes-more s.next_ticket (s.next_ticket + 1) (get_or s.slots k None) (get_or s.queues k []) (omega arith)
      (h.ahead k));
  timely = each-written (λ k. All (HasExpired s.moment (k % 16))) [] s.queues (source_number p i)
      (queue_of s.queues p i ++ m ∷ [])
      (All-push (HasExpired s.moment (source_number p i % 16)) (queue_of s.queues p i) m
      (h.timely (source_number p i)) (subst (λ n. HasExpired s.moment n m) (sym place) timely)) h.timely;
  sound = h.sound;
  near = h.near;
}
  where
    place : source_number p i % 16 ≡ i
    place = omega (arith, under)

-- a timer is written
pub timed-timer : (s : State) (t : ℕ × ℕ) (x : Timer) → IsSoundTimer x → IsNear s.moment x → IsTimed s
    → IsTimed (with_bank s (with_timer (bank_of s) t x))
timed-timer s t x sound near h = record {
  order = h.order;
  ahead = h.ahead;
  timely = h.timely;
  sound = written_sound s.timers (number_of t) x h.sound sound;
  near = each-written (λ k. IsNear s.moment) idle_timer s.timers (number_of t) x near h.near;
}

pub timed-config : (s : State) (t : ℕ × ℕ) (value : ℕ) → IsTimed s
    → IsTimed (with_bank s (with_timer (bank_of s) t (after_config (timer_in (bank_of s) t) value s.moment)))
timed-config s t value h =
    let x : Timer = timer_in (bank_of s) t in
    timed-timer s t (after_config x value s.moment) (sound-config x value s.moment)
    (λ d due periodic. near-started (after_config x value s.moment).config x.count s.moment d periodic due) h

pub timed-count : (s : State) (t : ℕ × ℕ) (value : ℕ) → IsTimed s
    → IsTimed (with_bank s (with_timer (bank_of s) t (after_count (timer_in (bank_of s) t) value s.moment)))
timed-count s t value h =
    let x : Timer = timer_in (bank_of s) t in
    timed-timer s t (after_count x value s.moment) (sound-count x value s.moment (h.sound (number_of t)))
    (λ d due periodic. near-started (after_count x value s.moment).config value s.moment d periodic due) h

pub timed-expired : (s : State) (t : ℕ × ℕ) → is_due (timer_in (bank_of s) t) s.moment ≡ true → IsTimed s
    → IsTimed (expired_state s t)
timed-expired s t due h =
    let x : Timer = timer_in (bank_of s) t in
    timed-timer s t (after_expiry x s.moment).0 (sound-expired x s.moment due (h.sound (number_of t)))
    (λ d is periodic. near-expired x s.moment d due (h.sound (number_of t)) periodic is) h

-- the timers of a processor are reset
idle-near : (moment : ℕ) → IsNear moment idle_timer
idle-near moment d due periodic = absurd (none-some d due)

pub timed-cleared : (s : State) (p : ℕ) → IsTimed s → IsTimed (cleared s p)
timed-cleared s p h = timed-same four (cleared s p) refl refl refl refl refl
    (idle four_less (p, 3) (idle three_less (p, 2) (idle two_less (p, 1) (idle s (p, 0) h))))
  where
    idle : (s : State) (t : ℕ × ℕ) → IsTimed s → IsTimed (with_bank s (with_timer (bank_of s) t idle_timer))
    idle s t h = timed-timer s t idle_timer (opened_sound 0 0) (idle-near s.moment) h

    two_less : State
    two_less = with_bank s (with_timer (bank_of s) (p, 0) idle_timer)

    three_less : State
    three_less = with_bank two_less (with_timer (bank_of two_less) (p, 1) idle_timer)

    four_less : State
    four_less = with_bank three_less (with_timer (bank_of three_less) (p, 2) idle_timer)

    four : State
    four = with_bank four_less (with_timer (bank_of four_less) (p, 3) idle_timer)

-- a newly opened board
none-queued : (n k : ℕ) → get_or {A = List Message} (replicate n []) k [] ≡ []
none-queued zero k = refl
none-queued (suc n) zero = refl
none-queued (suc n) (suc k) = none-queued n k

none-held : (n k : ℕ) → get_or {A = Option ℕ} (replicate n None) k None ≡ None
none-held zero k = refl
none-held (suc n) zero = refl
none-held (suc n) (suc k) = none-held n k

none-near : (moment n k : ℕ) → IsNear moment (get_or (replicate n idle_timer) k idle_timer)
none-near moment zero k = idle-near moment
none-near moment (suc n) zero = idle-near moment
none-near moment (suc n) (suc k) = none-near moment n k

pub timed-opened : (n pages ticket : ℕ) → IsTimed (opened n pages ticket)
timed-opened n pages ticket = record {
  order = λ k. subst (Ascends ticket) (sym (none-queued (16 * n) k)) tt;
  ahead = λ k. subst (λ o. Precedes ticket o (get_or (replicate (16 * n) []) k [])) (sym (none-held (16 * n) k)) tt;
  timely = λ k. subst (All (HasExpired 0 (k % 16))) (sym (none-queued (16 * n) k)) (All-nil (HasExpired 0 (k % 16)));
  sound = opened_sound (4 * n);
  near = none-near 0 (4 * n);
}
