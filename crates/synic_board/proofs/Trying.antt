-- A tick tries the due timers one after another, each as the earliest of all.
use Rattle.std.proofs.Common.{◌≡◌, ◌≢◌, ℕ, zero, suc, ◌+◌, ◌-◌, ◌*◌, ◌<◌, ◌≤◌, Bool, true, false, ◌&&◌, nat_lt, nat_le, List, [], ◌∷◌, length, get_or, refl, sym, ap, ◌∙◌, arith, subst, append-nil}
use Rattle.std.specs.Prelude.{Option, None, Some, filter, if◌then◌else◌}
use Rattle.std.specs.Option.{option_map_or}
use mir.Val.{bool_byte}
use Rattle.std.specs.FinSet as set
use Rattle.std.proofs.lemmas.Bool.Decides.{nat_tests}
use Rattle.std.proofs.lemmas.List.{length-set}
use Rattle.std.proofs.lemmas.Option.{same_Some}
use Rattle.board_terms.specs.Dues.{Dues, number_of, least, IsLeast}
use Rattle.board_terms.specs.declared.messages.Message.{Message}
use Rattle.board_terms.specs.declared.messages.Message.TheVariants.{FromTimer}
use Rattle.board_terms.specs.declared.notices.Notice.{Notice}
use Rattle.synic_regs.specs.Regs.{raised_by}
use Rattle.message_queues.specs.Queues.{queue_of}
use Rattle.stimer_bank.specs.declared.timer.Mode.{Mode}
use Rattle.stimer_bank.specs.declared.timer.Mode.TheVariants.{Direct, Posted}
use Rattle.stimer_bank.specs.Timer.{after_expiry}
use Rattle.stimer_bank.specs.Bank.{Bank, timer_in, is_due_in, dues, due_list}
use Rattle.stimer_bank.proofs.Shown.{dues-timer-other, length-dues}
use Rattle.stimer_bank.proofs.Rest.{first-listed, rest-filtered, rest-whole, earliest-least}
use Rattle.synic_board.specs.State.{BoardModel, State, processors, apic_of, regs_of, bank_of}
use Rattle.synic_board.specs.Effects.{Effect, nothing, after}
use Rattle.synic_board.specs.Interrupts.{requested, raised}
use Rattle.synic_board.specs.Delivery.{delivers, is_slot_empty, placed_head, placed, marked, tried, accepted, delivered}
use Rattle.synic_board.specs.Timers.{mode_at, is_ready, delivery_by, signalled_by, expired_state, expiry_at, fired, attempted, attempted_until}
use Rattle.synic_board.specs.inside.Effected.{preceded, Effected}
use Rattle.synic_board.specs.inside.Steps.{first_due, is_any_due, is_other}
use Rattle.synic_board.proofs.Clocks.{none_listed}
use Rattle.synic_board.proofs.Folds.{until-none, until-next}
use Rattle.synic_board.proofs.keeping.Bounds.{IsWithin, within-nothing, within-attempted, told_within, same_within}
use Rattle.synic_board.proofs.keeping.Requests.{either}

-- an effect that leaves the timers and the clock as they are
record LeavesTimers (s : State) (e : Effect) : Type 0 where
  pub bank : bank_of e.0 ≡ bank_of s
  pub moment : e.0.moment ≡ s.moment

leaves-nothing : (s : State) → LeavesTimers s (nothing s)
leaves-nothing s = record { bank = refl; moment = refl }

leaves-after : (s : State) (e f : Effect) → LeavesTimers s e → LeavesTimers e.0 f → LeavesTimers s (after e f)
leaves-after s e f a b = record { bank = b.bank ∙ a.bank; moment = b.moment ∙ a.moment }

leaves-requested : (s : State) (p v : ℕ) → LeavesTimers s (requested s p v)
leaves-requested s p v =
    either (LeavesTimers s) (set.contains (apic_of s p).requested v) _ _ (λ _. leaves-nothing s)
    (λ _. record { bank = refl; moment = refl })

leaves-raised : (s : State) (p i : ℕ) → LeavesTimers s (raised s p i)
leaves-raised s p i =
    elim (raised_by (regs_of s p) i) as
    (λ o. LeavesTimers s (option_map_or (requested s p) o (nothing s))) [
      | None ↦ leaves-nothing s
      | Some v ↦
          leaves-requested s p v
    ]

leaves-placed : (s : State) (p i : ℕ) → LeavesTimers s (placed s p i)
leaves-placed s p i = head (queue_of s.queues p i)
  where
    head : (q : List Message) → LeavesTimers s (placed_head s p i q)
    head [] = leaves-nothing s
    head (m ∷ rest) = record { bank = refl; moment = refl }

leaves-marked : (s : State) (p i : ℕ) → LeavesTimers s (marked s p i)
leaves-marked s p i = record { bank = refl; moment = refl }

leaves-tried : (s : State) (p i : ℕ) → LeavesTimers s (tried s p i)
unfolding tried
leaves-tried s p i =
    either (LeavesTimers s) (delivers s p && nat_lt 0 (length (queue_of s.queues p i))) _ _
    (λ _. either (LeavesTimers s) (is_slot_empty s p i) _ _
    (λ _. leaves-after s (placed s p i) (raised (placed s p i).0 p i) (leaves-placed s p i)
    (leaves-raised (placed s p i).0 p i)) (λ _. leaves-marked s p i))
    (λ _. leaves-nothing s)

leaves-delivered : (s : State) (p i : ℕ) (m : Message) → LeavesTimers s (delivered s p i m)
leaves-delivered s p i m =
    leaves-after s (accepted s p i m) (tried (accepted s p i m).0 p i) (record { bank = refl; moment = refl })
    (leaves-tried (accepted s p i m).0 p i)

leaves-emitted : (s : State) (t : ℕ × ℕ) (mode : Mode) (d : ℕ) → LeavesTimers s (delivery_by s t mode d)
leaves-emitted s t (Direct v) d = leaves-requested s t.0 v
leaves-emitted s t (Posted i) d = leaves-delivered s t.0 i (FromTimer s.next_ticket t d)

leaves-signalled : (s : State) (t : ℕ × ℕ) (mode : Mode) (o : Option ℕ) → LeavesTimers s (signalled_by s t mode o)
leaves-signalled s t mode None = leaves-nothing s
leaves-signalled s t mode (Some d) = leaves-emitted s t mode d

-- an attempt leaves the deadlines of the other timers as they are, and the clock
record LeavesOthers (t : ℕ × ℕ) (s : State) (e : Effect) : Type 0 where
  pub others : (k : ℕ) → k ≢ number_of t → get_or (dues (bank_of e.0)) k None ≡ get_or (dues (bank_of s)) k None
  pub moment : e.0.moment ≡ s.moment
  pub count : length e.0.timers ≡ length s.timers

leaves-fired : (s : State) (t : ℕ × ℕ) (mode : Mode) → LeavesOthers t s (fired s t mode)
leaves-fired s t mode = let emitted = leaves-signalled (expired_state s t) t mode (expiry_at s t).signal in record {
  others = λ k n. ap (λ (b : Bank). get_or (dues b) k None) emitted.bank
      ∙ dues-timer-other (bank_of s) t (after_expiry (timer_in (bank_of s) t) s.moment).0 k n;
  moment = emitted.moment;
  count = ap (λ (b : Bank). length b.timers) emitted.bank
      ∙ length-set s.timers (number_of t) (after_expiry (timer_in (bank_of s) t) s.moment).0;
}

leaves-attempted : (s : State) (t : ℕ × ℕ) → LeavesOthers t s (attempted s t)
unfolding attempted
leaves-attempted s t =
    either (LeavesOthers t s) (is_ready s t) _ _ (λ _. leaves-fired s t (mode_at s t))
    (λ _. record { others = λ k n. refl; moment = refl; count = refl })

-- a timer that is not ready is unchanged
unready : (s : State) (t : ℕ × ℕ) → is_ready s t ≡ false → IsWithin 0 s (attempted s t)
unfolding attempted
unready s t never =
    subst (λ b. IsWithin 0 s (if b then fired s t (mode_at s t) else nothing s)) (sym never) (within-nothing 0 s)

stays : (s : State) (t : ℕ × ℕ) → is_ready s t ≡ false → (attempted s t).0 ≡ s
unfolding attempted
stays s t never = ap (λ b. (if b then fired s t (mode_at s t) else nothing s).0) never

-- the timer that is due first, by the cached earliest one
pub due-first : (o : Option (ℕ × (ℕ × ℕ))) (moment : ℕ) (t : ℕ × ℕ) → first_due o moment ≡ Some t → (d : ℕ)
    × (o ≡ Some (d, t)) × (d ≤ moment)
due-first None moment t h = absurd (cc)
due-first (Some r) moment t h =
    elim (nat_le r.0 moment) as
    (λ b. nat_le r.0 moment ≡ b → (if b then Some r.1 else None) ≡ Some t → (d : ℕ) × (Some r ≡ Some (d, t))
    × (d ≤ moment)) [
      | true ↦ λ w e. (r.0, ap (λ u. Some (r.0, u)) (same_Some r.1 t e), grind (arith, nat_tests))
      | false ↦ λ w e. absurd (cc)
    ] refl h

due-none : (o : Option (ℕ × (ℕ × ℕ))) (moment : ℕ) → first_due o moment ≡ None → is_any_due o moment ≡ false
due-none None moment h = refl
due-none (Some r) moment h =
    elim (nat_le r.0 moment) as
    (λ b. (if b then Some r.1 else None) ≡ None → b ≡ false) [ true ↦ λ e. absurd (cc) | false ↦ λ e. refl ] h

-- a timer with a deadline belongs to a processor on the board
pub least-on : (b : Bank) (n d : ℕ) (t : ℕ × ℕ) → length b.timers ≡ 4 * n → t.1 < 4 → least (dues b) ≡ Some (d, t)
    → t.0 < n
least-on b n d t many i h = let low = (earliest-least (dues b) d t i h).low in omega (arith, low, length-dues b, many)

abbrev pub due_now : State → List (ℕ × ℕ)
due_now s = due_list (dues (bank_of s)) s.moment

-- of the attempts of `ts` until `left` have expired, those of `rest` until `more` have expired are still to come
pub record IsTrying (before : BoardModel) (emitted : List Notice) (left : ℕ) (ts : List (ℕ × ℕ)) (now : BoardModel)
    (emitted_now : List Notice) (more : ℕ) (rest : List (ℕ × ℕ)) : Type 0 where
  pub to_come : preceded emitted (attempted_until left before.state ts)
      ≡ preceded emitted_now (attempted_until more now.state rest)
  pub writes_monotone : before.writes ≤ now.writes
  pub bound : now.writes + length emitted ≤ before.writes + length emitted_now
  pub room : length emitted_now + 6 * more ≤ length emitted + 6 * left
  pub same : processors now.state ≡ processors before.state

pub starts-trying : (before : BoardModel) (emitted : List Notice) (left : ℕ) (ts : List (ℕ × ℕ))
    → IsTrying before emitted left ts before emitted left ts
starts-trying before emitted left ts =
    record { to_come = refl; writes_monotone = omega arith; bound = omega arith; room = omega arith; same = refl }

until-zero : (s : State) (ts : List (ℕ × ℕ)) → attempted_until 0 s ts ≡ nothing s
unfolding attempted_until
until-zero s ts = refl

module _ (before : BoardModel) (emitted : List Notice) (left : ℕ) (ts : List (ℕ × ℕ)) (now : BoardModel)
    (emitted_now : List Notice) where
  ends : (more : ℕ) (rest : List (ℕ × ℕ)) → IsTrying before emitted left ts now emitted_now more rest
      → attempted_until more now.state rest ≡ nothing now.state →
      Effected before emitted now emitted_now (attempted_until left before.state ts)
  ends more rest h none = record {
    effect = ap (λ ns. (now.state, ns)) (sym (append-nil emitted_now)) ∙ ap (preceded emitted_now) (sym none)
        ∙ sym h.to_come;
    writes_monotone = h.writes_monotone;
    bound = h.bound;
  }

  -- none is left
  pub tried-all : (more : ℕ) (rest : List (ℕ × ℕ)) → IsTrying before emitted left ts now emitted_now more rest
      → rest ≡ [] → Effected before emitted now emitted_now (attempted_until left before.state ts)
  tried-all more rest h none = ends more rest h (ap (attempted_until more now.state) none ∙ until-none more now.state)

  -- so many have expired
  pub tried-most : (more : ℕ) (rest : List (ℕ × ℕ)) → IsTrying before emitted left ts now emitted_now more rest
      → more ≡ 0 → Effected before emitted now emitted_now (attempted_until left before.state ts)
  tried-most more rest h none =
      ends more rest h (ap (λ n. attempted_until n now.state rest) none ∙ until-zero now.state rest)

  -- the others are tried by a call
  pub tried-rest : (more : ℕ) (rest : List (ℕ × ℕ)) → IsTrying before emitted left ts now emitted_now more rest
      → (next : BoardModel) (said : List Notice) →
      Effected now emitted_now next said (attempted_until more now.state rest)
      → Effected before emitted next said (attempted_until left before.state ts)
  tried-rest more rest h next said f = record {
    effect = f.effect ∙ sym h.to_come;
    writes_monotone = omega (arith, h.writes_monotone, f.writes_monotone);
    bound = omega (arith, h.bound, f.bound);
  }

  -- the first is tried
  tries : (n : ℕ) (t : ℕ × ℕ) (rest : List (ℕ × ℕ))
      → IsTrying before emitted left ts now emitted_now (suc n) (t ∷ rest) → (next : BoardModel) (said : List Notice) →
      Effected now emitted_now next said (attempted now.state t)
      → IsTrying before emitted left ts next said (if is_ready now.state t then n else suc n) rest
  tries n t rest h next said e = record {
    to_come = h.to_come ∙ until-next n now.state next.state t rest emitted_now said e.effect;
    writes_monotone = omega (arith, h.writes_monotone, e.writes_monotone);
    bound = omega (arith, h.bound, e.bound);
    room = expires (is_ready now.state t) refl;
    same = same_within 6 (within-attempted now.state t) e ∙ h.same;
  }
    where
      expires : (b : Bool) → is_ready now.state t ≡ b
          → length said + 6 * (if b then n else suc n) ≤ length emitted + 6 * left
      expires true ready = omega (arith, h.room, told_within 6 (within-attempted now.state t) e)
      expires false ready = omega (arith, h.room, told_within 0 (unready now.state t ready) e)

  pub tries-first : (more : ℕ) (t : ℕ × ℕ) (rest : List (ℕ × ℕ))
      → IsTrying before emitted left ts now emitted_now more (t ∷ rest) → 0 < more
      → (next : BoardModel) (said : List Notice) →
      Effected now emitted_now next said (attempted now.state t) → (expired : Bool) → expired ≡ is_ready now.state t
      → IsTrying before emitted left ts next said (more - bool_byte expired) rest
  tries-first zero t rest h some next said e expired is = absurd (omega (arith, some))
  tries-first (suc n) t rest h some next said e expired is =
      subst (λ k. IsTrying before emitted left ts next said k rest) (same expired)
      (subst (λ b. IsTrying before emitted left ts next said (if b then n else suc n) rest) (sym is)
      (tries n t rest h next said e))
    where
      same : (b : Bool) → (if b then n else suc n) ≡ suc n - bool_byte b
      same true = omega arith
      same false = omega arith

-- the timer that is due first
module _ (now : BoardModel) (t : ℕ × ℕ) (i : t.1 < 4)
    (first : first_due (least (dues (bank_of now.state))) now.state.moment ≡ Some t) where
  abbrev m : Dues
  m = dues (bank_of now.state)

  earliest : (d : ℕ) × (least m ≡ Some (d, t)) × (d ≤ now.state.moment)
  earliest = due-first (least m) now.state.moment t first

  is-least : IsLeast m earliest.0 (number_of t)
  is-least = earliest-least m earliest.0 t i earliest.1

  pub first-is_due : is_due_in (bank_of now.state) t now.state.moment ≡ true
  first-is_due =
      ap (λ o. option_map_or (λ d. nat_le d now.state.moment) o false) is-least.due
      ∙ le earliest.0 now.state.moment earliest.2
    where
      le : (a b : ℕ) → a ≤ b → nat_le a b ≡ true
      le a b h = grind (arith, nat_tests)

  pub others : (us : List (ℕ × ℕ)) × (due_now now.state ≡ t ∷ us)
  others = first-listed m now.state.moment t earliest.0 i is-least earliest.2

  pub tries-due : (before : BoardModel) (emitted : List Notice) (left : ℕ) (ts : List (ℕ × ℕ))
      (emitted_now : List Notice) (more : ℕ)
      → IsTrying before emitted left ts now emitted_now more (due_now now.state) →
      0 < more → (next : BoardModel) (said : List Notice) → Effected now emitted_now next said (attempted now.state t)
      → (expired : Bool) → expired ≡ is_ready now.state t →
      IsTrying before emitted left ts next said (more - bool_byte expired) others.0
  tries-due before emitted left ts emitted_now more h =
      tries-first before emitted left ts now emitted_now more t others.0
      (subst (IsTrying before emitted left ts now emitted_now more) others.1 h)

  -- after it was tried
  module _ (next : BoardModel) (emitted said : List Notice)
      (e : Effected now emitted next said (attempted now.state t)) where
    moved : next.state ≡ (attempted now.state t).0
    moved = ap (λ (x : Effect). x.0) e.effect

    leaves : LeavesOthers t now.state (attempted now.state t)
    leaves = leaves-attempted now.state t

    moment' : next.state.moment ≡ now.state.moment
    moment' = ap (λ (s : State). s.moment) moved ∙ leaves.moment

    as-many : length (dues (bank_of next.state)) ≡ length m
    as-many = length-dues (bank_of next.state) ∙ ap (λ (s : State). length s.timers) moved ∙ leaves.count
        ∙ sym (length-dues (bank_of now.state))

    rest : (k : ℕ) → k ≢ number_of t → get_or (dues (bank_of next.state)) k None ≡ get_or m k None
    rest k a = ap (λ (s : State). get_or (dues (bank_of s)) k None) moved ∙ leaves.others k a

    -- if it is not due any more, it expired
    pub expired : is_due_in (bank_of next.state) t next.state.moment ≡ false → is_ready now.state t ≡ true
    expired never = by (is_ready now.state t) refl
      where
        by : (b : Bool) → is_ready now.state t ≡ b → is_ready now.state t ≡ true
        by true ready = ready
        by false ready =
            absurd (let same = moved ∙ stays now.state t ready in
            let still =
            ap (λ (s : State). is_due_in (bank_of s) t s.moment) same ∙ first-is_due in let f : false ≡ true =
            sym never ∙ still in cc)

    -- if it is not due any more, those that are due are the others
    pub due-others : is_due_in (bank_of next.state) t next.state.moment ≡ false → others.0 ≡ due_now next.state
    due-others never = sym (ap (due_list (dues (bank_of next.state))) moment'
        ∙ rest-whole m (dues (bank_of next.state)) now.state.moment t others.0 others.1 as-many rest
        (ap (is_due_in (bank_of next.state) t) (sym moment') ∙ never))

    -- else they are the others among them
    pub without-first : others.0 ≡ filter (is_other t) (due_now next.state)
    without-first = sym (ap (λ x. filter (is_other t) (due_list (dues (bank_of next.state)) x)) moment'
        ∙ rest-filtered m (dues (bank_of next.state)) now.state.moment t others.0 others.1 as-many rest)

-- no timer is due
pub none-due : (s : State) → first_due (least (dues (bank_of s))) s.moment ≡ None → due_now s ≡ []
none-due s none = none_listed (dues (bank_of s)) s.moment (due-none (least (dues (bank_of s))) s.moment none)
