-- States that agree in what processor q has, and in the next ticket: ticks by which timers of q alone are due.
use Rattle.std.proofs.Common.{◌≡◌, ◌≢◌, ℕ, zero, suc, ◌+◌, ◌*◌, ◌/◌, ◌%◌, ◌<◌, ◌==◌, Bool, true, false, not, nat_le, nat_lt, [], ◌∷◌, length, Option, None, Some, get_or, refl, sym, ap, ◌∙◌, subst, arith}
use Rattle.std.specs.Prelude.{if◌then◌else◌, cond}
use Rattle.std.specs.List.{insert, position_or_len}
use Rattle.std.specs.Option.{option_map_or}
use Rattle.std.proofs.lemmas.Bool.Decides.{nat_tests}
use Rattle.board_terms.specs.Dues.{Dues, timer_of, due_of}
use Rattle.deadline_tree.specs.Deadlines.{is_due_by}
use Rattle.message_queues.specs.Queues.{is_from_timer}
use Rattle.stimer_bank.specs.Bank.{is_later, listed, due_below, due_list}
use Rattle.stimer_bank.specs.DueList.{Timers, Each}
use Rattle.stimer_bank.proofs.Sorted.{inserted, each_placed}
use Rattle.synic_board.specs.State.{State}
use Rattle.synic_board.specs.Effects.{Effect}
use Rattle.synic_board.specs.Timers.{is_ready, attempted, attempted_until}
use Rattle.law_processors.proofs.Agreeing.{Same, Both, both-after}
use Rattle.law_processors.proofs.AgreeingTickets.{Outside, ready-same, both-attempted, counts-attempted, outside-attempted}

-- attempts of timers of q
abbrev pub IsOf : ℕ → ℕ × ℕ → Type 0
IsOf q t = (t.0 ≡ q) × (t.1 < 4)

pub both-attempted_until : (q few : ℕ) (s t : State) → Same q s t → t.next_ticket ≡ s.next_ticket
    → ((n : ℕ) → Outside q (is_from_timer (q, n)) s t) → (ts : Timers) → Each (IsOf q) ts
    → Both q (attempted_until few s ts) (attempted_until few t ts)
unfolding attempted_until
both-attempted_until q zero s t h tickets outside ts each = (h, refl)
both-attempted_until q (suc few) s t h tickets outside [] each = (h, refl)
both-attempted_until q (suc few) s t h tickets outside (x ∷ ts) each =
    subst (λ (x : ℕ × ℕ). Both q (attempted_until (suc few) s (x ∷ ts)) (attempted_until (suc few) t (x ∷ ts)))
    (ap (λ p. (p, x.1)) (sym each.0.0)) (by x.1 each.0.1 (λ left. both-attempted_until q left
    (attempted s (q, x.1)).0 (attempted t (q, x.1)).0
    (both-attempted q s t h tickets x.1 each.0.1 (outside x.1)).0
    (counts-attempted q s t h tickets x.1 each.0.1 (outside x.1))
    (λ k. outside-attempted q s t h tickets (is_from_timer (q, k)) x.1 each.0.1 (outside k)) ts each.1))
  where
    by : (n : ℕ) → n < 4
        → ((left : ℕ) → Both q (attempted_until left (attempted s (q, n)).0 ts)
        (attempted_until left (attempted t (q, n)).0 ts))
        → Both q (attempted_until (suc few) s ((q, n) ∷ ts)) (attempted_until (suc few) t ((q, n) ∷ ts))
    by n low rest =
        let e : Effect = attempted s (q, n) in
        let f : Effect = attempted t (q, n) in
        let first = both-attempted q s t h tickets n low (outside n) in
        let left : Bool → ℕ = λ b. if b then few else suc few in
        both-after q e (attempted_until (left (is_ready s (q, n))) e.0 ts) f
        (attempted_until (left (is_ready t (q, n))) f.0 ts) first
        (subst (λ b. Both q (attempted_until (left (is_ready s (q, n))) e.0 ts) (attempted_until (left b) f.0 ts))
        (sym (ready-same q s t h tickets n low (outside n))) (rest (left (is_ready s (q, n)))))

-- lists of timers that are due: equal if the deadlines of q are, and none of the others is due
position-alike : (p r : ℕ × ℕ → Bool) (ts : Timers) → Each (λ t. p t ≡ r t) ts
    → position_or_len p ts ≡ position_or_len r ts
position-alike p r [] each = refl
position-alike p r (t ∷ ts) each =
    ap (λ b. cond (not b) (1 + position_or_len p ts) 0) each.0
    ∙ ap (λ n. cond (not (r t)) (1 + n) 0) (position-alike p r ts each.1)

not-listed : (m : Dues) (moment n : ℕ) (ts : Timers) → is_due_by m moment n ≡ false → listed m moment n ts ≡ ts
not-listed m moment n ts never = by (get_or m n None) never
  where
    by : (o : Option ℕ) → option_map_or (λ d. nat_le d moment) o false ≡ false
        → option_map_or
        (λ d. if nat_le d moment then insert ts (position_or_len (is_later m d) ts) (timer_of n) else ts) o ts ≡ ts
    by None is = refl
    by (Some d) is = ap (λ b. if b then insert ts (position_or_len (is_later m d) ts) (timer_of n) else ts) is

module _ (q moment : ℕ) (m w : Dues) (own : (k : ℕ) → k / 4 ≡ q → get_or w k None ≡ get_or m k None)
    (never : (k : ℕ) → k / 4 ≢ q → is_due_by m moment k ≡ false)
    (never-there : (k : ℕ) → k / 4 ≢ q → is_due_by w moment k ≡ false) where
  abbrev AsDue : ℕ × ℕ → Type 0
  AsDue t = due_of w t ≡ due_of m t

  joined : (n : ℕ) (ts : Timers) → Each AsDue ts → n / 4 ≡ q
      → (listed w moment n ts ≡ listed m moment n ts) × Each AsDue (listed m moment n ts)
  joined n ts each at =
      (ap (λ (o : Option ℕ). of w o) (own n at) ∙ same (get_or m n None), stay (get_or m n None))
    where
      of : Dues → Option ℕ → Timers
      of x o =
          option_map_or
          (λ d. if nat_le d moment then insert ts (position_or_len (is_later x d) ts) (timer_of n) else ts) o ts

      later : (d : ℕ) → (us : Timers) → Each AsDue us → Each (λ t. is_later w d t ≡ is_later m d t) us
      later d [] each = tt
      later d (t ∷ us) each = (ap (λ (o : Option ℕ). option_map_or (λ e. nat_lt d e) o false) each.0, later d us each.1)

      same : (o : Option ℕ) → of w o ≡ of m o
      same None = refl
      same (Some d) =
          ap (λ i. if nat_le d moment then insert ts i (timer_of n) else ts)
          (position-alike (is_later w d) (is_later m d) ts (later d ts each))

      itself : AsDue (timer_of n)
      itself =
          let number : 4 * (n / 4) + n % 4 ≡ n = omega arith in
          subst (λ k. get_or w k None ≡ get_or m k None) (sym number) (own n at)

      stay : (o : Option ℕ) → Each AsDue (of m o)
      stay None = each
      stay (Some d) =
          elim (nat_le d moment) as
          (λ b. Each AsDue (if b then insert ts (position_or_len (is_later m d) ts) (timer_of n) else ts)) [
            | true ↦ subst (Each AsDue) (sym (inserted (is_later m d) (timer_of n) ts))
                (each_placed AsDue (is_later m d) (timer_of n) ts each itself)
            | false ↦ each
          ]

  below : (n : ℕ) → (due_below w moment n ≡ due_below m moment n) × Each AsDue (due_below m moment n)
  unfolding due_below
  below zero = (refl, tt)
  below (suc n) = by (below n) (n / 4 == q) refl
    where
      ts : Timers
      ts = due_below m moment n

      by : (due_below w moment n ≡ ts) × Each AsDue ts → (b : Bool) → (n / 4 == q) ≡ b
          → (listed w moment n (due_below w moment n) ≡ listed m moment n ts) × Each AsDue (listed m moment n ts)
      by h true e =
          let at : n / 4 ≡ q = grind (arith, nat_tests) in
          let j = joined n ts h.1 at in
          (ap (λ (us : Timers). listed w moment n us) h.0 ∙ j.0, j.1)
      by h false e =
          let apart : n / 4 ≢ q = grind (arith, nat_tests) in
          let here = not-listed m moment n ts (never n apart) in (
            not-listed w moment n (due_below w moment n) (never-there n apart) ∙ h.0 ∙ sym here,
            subst (Each AsDue) (sym here) h.1,
          )

  pub lists-alike : length w ≡ length m → due_list w moment ≡ due_list m moment
  unfolding due_list
  lists-alike long = ap (λ n. due_below w moment n) long ∙ (below (length m)).0
