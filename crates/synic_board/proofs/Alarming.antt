-- The alarm from the earliest timer, if that one is ready.
use Rattle.std.proofs.Common.{◌≡◌, ◌/◌, ◌⊎◌, inl, inr, ℕ, ◌<◌, ◌≤◌, Bool, true, false, length, get_or, refl, sym, ap, ◌∙◌, arith}
use Rattle.std.specs.Prelude.{Option, None, Some, if◌then◌else◌}
use Rattle.std.specs.Option.{option_map}
use Rattle.std.proofs.lemmas.Bool.{cases_lt}
use Rattle.std.proofs.lemmas.Option.{none-some, same_Some}
use Rattle.std.proofs.lemmas.List.{get_or_past}
use Rattle.std.proofs.lemmas.List.FromFn.{length-map-range_with_len, get_or-map-range_with_len}
use Rattle.board_terms.specs.Dues.{number_of, Dues, timer_of, least, least_below, IsLeast}
use Rattle.deadline_tree.proofs.Leasts.{Found, found, least_is, least_none}
use Rattle.stimer_bank.specs.Bank.{Bank, idle_timer, timer_in, is_suspended, dues, active_due}
use Rattle.stimer_bank.proofs.Shown.{due_at, length-dues}
use Rattle.synic_board.specs.State.{State, bank_of}
use Rattle.synic_board.specs.Timers.{mode_at, is_ready_for}
use Rattle.synic_board.specs.Alarm.{ready_due, ready_dues, alarm_after, alarm}

-- the deadlines by number
pub length-ready : (s : State) → length (ready_dues s) ≡ length s.timers
unfolding ready_dues
length-ready s = length-map-range_with_len (ready_due s) 0 (length s.timers)

pub ready_at : (s : State) (n : ℕ) → n < length s.timers → get_or (ready_dues s) n None ≡ ready_due s n
unfolding ready_dues
ready_at s n h = get_or-map-range_with_len (ready_due s) 0 (length s.timers) n n None h (omega arith)

-- a timer that could expire has its deadline
ready-dues : (s : State) (k e : ℕ) → get_or (ready_dues s) k None ≡ Some e → get_or (dues (bank_of s)) k None ≡ Some e
ready-dues s k e is = by (cases_lt k (length s.timers))
  where
    chosen : (b : Bool) (o : Option ℕ) → (if b then o else None) ≡ Some e → o ≡ Some e
    chosen true o h = h
    chosen false o h = absurd (none-some e h)

    by : (k < length s.timers) ⊎ (length s.timers ≤ k) → get_or (dues (bank_of s)) k None ≡ Some e
    by (inl low) =
        due_at (bank_of s) k low
        ∙ chosen (is_ready_for s (timer_of k) (mode_at s (timer_of k))) (active_due (bank_of s) k)
        (sym (ready_at s k low) ∙ is)
    by (inr past) =
        absurd (none-some e (sym (get_or_past (ready_dues s) k None (omega (arith, past, length-ready s))) ∙ is))

-- a deadline with its timer
abbrev with_timer : ℕ × ℕ → ℕ × (ℕ × ℕ)
with_timer r = (r.0, timer_of r.1)

-- no deadline, no alarm
pub none-due : (s : State) → least (dues (bank_of s)) ≡ None → alarm s ≡ None
unfolding least
none-due s none = by (least_below m (length m)) (found m (length m)) none
  where
    m : Dues
    m = dues (bank_of s)

    never : ((k : ℕ) → k < length m → get_or m k None ≡ None) → (k : ℕ) → get_or (ready_dues s) k None ≡ None
    never empty k = at (get_or (ready_dues s) k None) refl
      where
        at : (o : Option ℕ) → get_or (ready_dues s) k None ≡ o → o ≡ None
        at None is = refl
        at (Some e) is = absurd (none-some e (sym (gone (cases_lt k (length m))) ∙ ready-dues s k e is))
          where
            gone : (k < length m) ⊎ (length m ≤ k) → get_or m k None ≡ None
            gone (inl low) = empty k low
            gone (inr past) = get_or_past m k None past

    by : (o : Option (ℕ × ℕ)) → Found m (length m) o → option_map with_timer o ≡ None
        → alarm s ≡ None
    by None f e = ap (option_map (λ r. alarm_after s.moment r.0)) (least_none (ready_dues s) (never f))
    by (Some r) f e = absurd (none-some (with_timer r) (sym e))

-- the earliest timer is ready
pub first-ready : (s : State) (d : ℕ) (t : ℕ × ℕ) → least (dues (bank_of s)) ≡ Some (d, t)
    → is_ready_for s t (mode_at s t) ≡ true → alarm s ≡ Some (alarm_after s.moment d)
unfolding least
first-ready s d t is could = by (least_below m (length m)) (found m (length m)) is
  where
    m : Dues
    m = dues (bank_of s)

    by : (o : Option (ℕ × ℕ)) → Found m (length m) o
        → option_map with_timer o ≡ Some (d, t) → alarm s ≡ Some (alarm_after s.moment d)
    by None f e = absurd (none-some (d, t) e)
    by (Some r) f e =
        let same = same_Some (r.0, timer_of r.1) (d, t) e in
        let due : r.0 ≡ d = ap (λ (x : ℕ × (ℕ × ℕ)). x.0) same in
        let timer : timer_of r.1 ≡ t = ap (λ (x : ℕ × (ℕ × ℕ)). x.1) same in
        let low : r.1 < length s.timers = omega (arith, f.low, length-dues (bank_of s)) in
        let ready : get_or (ready_dues s) r.1 None ≡ Some r.0 =
        ready_at s r.1 low
        ∙ ap (λ b. if b then active_due (bank_of s) r.1 else None)
        (ap (λ u. is_ready_for s u (mode_at s u)) timer ∙ could)
        ∙ sym (due_at (bank_of s) r.1 low)
        ∙ f.due in
        let first : IsLeast (ready_dues s) r.0 r.1 = record {
          low = omega (arith, low, length-ready s);
          due = ready;
          first = λ k c has. f.first k c (inside k c (ready-dues s k c has)) (ready-dues s k c has);
        } in
        ap (option_map (λ x. alarm_after s.moment x.0)) (least_is (ready_dues s) r.0 r.1 first)
        ∙ ap (λ n. Some (alarm_after s.moment n)) due
      where
        inside : (k c : ℕ) → get_or m k None ≡ Some c → k < length m
        inside k c has = at (cases_lt k (length m))
          where
            at : (k < length m) ⊎ (length m ≤ k) → k < length m
            at (inl low) = low
            at (inr past) = absurd (none-some c (sym (get_or_past m k None past) ∙ has))

-- the earliest timer has a deadline
chosen-due : (b : Bool) (o : Option ℕ) (d : ℕ) → (if b then None else o) ≡ Some d → o ≡ Some d
chosen-due true o d h = absurd (none-some d h)
chosen-due false o d h = h

pub first-due : (b : Bank) (d : ℕ) (t : ℕ × ℕ) → least (dues b) ≡ Some (d, t) → (timer_in b t).due ≡ Some d
unfolding least
first-due b d t = by (least_below m (length m)) (found m (length m))
  where
    m : Dues
    m = dues b

    by : (o : Option (ℕ × ℕ)) → Found m (length m) o → option_map with_timer o ≡ Some (d, t)
        → (timer_in b t).due ≡ Some d
    by None f e = absurd (none-some (d, t) e)
    by (Some r) f e =
        let same = same_Some (with_timer r) (d, t) e in
        let due : r.0 ≡ d = ap (λ (x : ℕ × (ℕ × ℕ)). x.0) same in
        let timer : timer_of r.1 ≡ t = ap (λ (x : ℕ × (ℕ × ℕ)). x.1) same in
        let back : number_of (timer_of r.1) ≡ r.1 = omega arith in
        let number : number_of t ≡ r.1 = ap number_of (sym timer) ∙ back in
        let low : r.1 < length b.timers = omega (arith, f.low, length-dues b) in
        ap (λ k. (get_or b.timers k idle_timer).due) number
        ∙ chosen-due (is_suspended b (r.1 / 4)) (get_or b.timers r.1 idle_timer).due r.0
        (sym (due_at b r.1 low) ∙ f.due)
        ∙ ap Some due

-- the alarm from a search of all timers
pub searched : (s : State) (o : Option (ℕ × ℕ)) → o ≡ least_below (ready_dues s) (length (ready_dues s))
    → option_map (λ r. alarm_after s.moment r.0) o ≡ alarm s
unfolding least
searched s o is =
    passes o ∙ ap (λ x. option_map (λ r. alarm_after s.moment r.0) (option_map with_timer x)) is
  where
    passes : (x : Option (ℕ × ℕ))
        → option_map (λ (r : ℕ × ℕ). alarm_after s.moment r.0) x
        ≡ option_map (λ (r : ℕ × (ℕ × ℕ)). alarm_after s.moment r.0) (option_map with_timer x)
    passes None = refl
    passes (Some r) = refl
