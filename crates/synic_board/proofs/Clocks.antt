-- Writing and expiring timers, and the cached earliest one.
use Rattle.std.proofs.Common.{◌≡◌, ◌≢◌, ℕ, ◌*◌, ◌<◌, ◌≤◌, List, [], ◌∷◌, length, refl, sym, ap, ◌∙◌, arith, get_or, nat_lt, true, false, zero, suc}
use Rattle.std.specs.Prelude.{Option, None, Some, ◌==◌, if◌then◌else◌}
use Rattle.std.specs.Option.{option_map_or, option_map}
use Rattle.std.proofs.lemmas.Bool.Decides.{nat_tests}
use Rattle.std.proofs.lemmas.List.{length-set}
use Rattle.lapic_core.specs.Vectors.{Vectors}
use Rattle.board_terms.specs.declared.pages.Owner.{Owner}
use Rattle.board_terms.specs.Dues.{Dues, number_of, timer_of, earlier, least, least_below}
use Rattle.stimer_bank.specs.declared.timer.Timer.{Timer}
use Rattle.stimer_bank.specs.Bank.{Bank, idle_timer, with_timer, reset, dues, due_list}
use Rattle.stimer_bank.specs.DueList.{Each, IsDueBy}
use Rattle.stimer_bank.proofs.Members.{each_at}
use Rattle.stimer_bank.proofs.Sorted.{sorted}
use Rattle.stimer_bank.proofs.Shown.{length-dues, length-four}
use Rattle.board_terms.specs.declared.refusal.Refusal.TheVariants.{ClockBack}
use Rattle.synic_board.specs.declared.event.Reply.TheVariants.{Done}
use Rattle.synic_board.specs.State.{State, bank_of}
use Rattle.synic_board.specs.Effects.{answered, unchanged, refused}
use Rattle.synic_board.specs.Summaries.{Values}
use Rattle.synic_board.specs.Timers.{at_moment, attempted_until, most_expiries, ticked}
use Rattle.synic_board.specs.inside.Steps.{is_any_due}
use Rattle.synic_board.proofs.Folds.{until-none}

-- a bank keeps its timers
pub many-written : (b now : Bank) (t : ℕ × ℕ) (x : Timer) → now ≡ with_timer b t x → length now.timers ≡ length b.timers
many-written b now t x is = ap (λ (y : Bank). length y.timers) is ∙ length-set b.timers (number_of t) x

pub many-reset : (b : Bank) (p : ℕ) → length (reset b p).timers ≡ length b.timers
many-reset b p = length-four b.timers p (λ _. idle_timer)

-- the summary after the earliest timer was written
pub summary_of-earliest : (nexts : List (Option ℕ)) (autos : List Vectors) (owners : List Owner) (queued : List ℕ)
    (was now is : Option (ℕ × (ℕ × ℕ))) (before after : Values) →
    before ≡ record { nexts = nexts; autos = autos; owners = owners; queued = queued; earliest = was }
    → after ≡ record before { earliest = now } → now ≡ is →
    after ≡ record { nexts = nexts; autos = autos; owners = owners; queued = queued; earliest = is }
summary_of-earliest nexts autos owners queued was now is before after start written same =
    written ∙ (λ i. record (start i) { earliest = same i })

-- a listed due timer belongs to a processor on the board
pub listed_on : (b : Bank) (moment m : ℕ) → length b.timers ≡ 4 * m → (k : ℕ) → k < length (due_list (dues b) moment)
    → (get_or (due_list (dues b) moment) k (0, 0)).0 < m
listed_on b moment m many k h =
    on (get_or (due_list (dues b) moment) k (0, 0))
    (each_at (IsDueBy (dues b) moment (length (dues b))) (due_list (dues b) moment) (sorted (dues b) moment).each k h)
  where
    on : (t : ℕ × ℕ) → IsDueBy (dues b) moment (length (dues b)) t → t.0 < m
    on t due = let low = due.low in omega (arith, low, length-dues b, many)

-- the earliest so far is due at d or before
abbrev IsBy : Option (ℕ × ℕ) → ℕ → Type 0
IsBy None d = ⊥
IsBy (Some r) d = r.0 ≤ d

by_new : (o : Option (ℕ × ℕ)) (d n : ℕ) → IsBy (Some (earlier o (d, n))) d
by_new None d n = omega arith
by_new (Some r) d n = elim (nat_lt d r.0) as (λ b. nat_lt d r.0 ≡ b → (if b then (d, n) else r).0 ≤ d) [
  | true ↦ λ e. omega arith
  | false ↦ λ e. grind (arith, nat_tests)
] refl

by_more : (o : Option (ℕ × ℕ)) (x : Option ℕ) (d n : ℕ) → IsBy o d
    → IsBy (option_map_or (λ e. Some (earlier o (e, n))) x o) d
by_more o None d n h = h
by_more None (Some e) d n h = absurd h
by_more (Some r) (Some e) d n h = elim (nat_lt e r.0) as (λ b. nat_lt e r.0 ≡ b → (if b then (e, n) else r).0 ≤ d) [
  | true ↦ λ w. let less : e < r.0 = grind (arith, nat_tests) in omega (arith, less, h)
  | false ↦ λ w. h
] refl

by_due : (m : Dues) (n k d : ℕ) → k < n → get_or m k None ≡ Some d → IsBy (least_below m n) d
unfolding least_below
by_due m zero k d h e = absurd (omega arith)
by_due m (suc n) k d h e =
    elim (k == n) as (λ b. (k == n) ≡ b
    → IsBy (option_map_or (λ e. Some (earlier (least_below m n) (e, n))) (get_or m n None) (least_below m n)) d) [
      | true ↦ λ w. let same : k ≡ n = grind (arith, nat_tests) in
          let is : get_or m n None ≡ Some d = ap (λ i. get_or m i None) (sym same) ∙ e in
          rw is (by_new (least_below m n) d n)
      | false ↦ λ w. let other : k ≢ n =
          grind (arith, nat_tests) in by_more (least_below m n) (get_or m n None) d n (by_due m n k d (omega arith) e)
    ] refl

some_due : (o : Option (ℕ × ℕ)) (d moment : ℕ) → IsBy o d → d ≤ moment
    → is_any_due (option_map (λ r. (r.0, timer_of r.1)) o) moment ≡ true
some_due None d moment h le = absurd h
some_due (Some r) d moment h le = let low : r.0 ≤ moment = omega (arith, h, le) in grind (arith, nat_tests)

pub listed_due : (m : Dues) (moment k d : ℕ) → k < length m → get_or m k None ≡ Some d → d ≤ moment
    → is_any_due (least m) moment ≡ true
unfolding least
listed_due m moment k d h e le = some_due (least_below m (length m)) d moment (by_due m (length m) k d h e) le

-- no timer is listed before the earliest deadline
pub none_listed : (m : Dues) (moment : ℕ) → is_any_due (least m) moment ≡ false → due_list m moment ≡ []
none_listed m moment none = empty (due_list m moment) (sorted m moment).each
  where
    empty : (ts : List (ℕ × ℕ)) → Each (IsDueBy m moment (length m)) ts → ts ≡ []
    empty [] h = refl
    empty (t ∷ ts) h = let some = listed_due m moment (number_of t) h.0.due h.0.low h.0.is h.0.by in absurd (cc)

-- a tick before the earliest deadline changes only the time
pub ticked_before : (s : State) (moment : ℕ) → s.moment ≤ moment → moment ≢ s.moment
    → is_any_due (least (dues (bank_of s))) moment ≡ false → ticked s moment ≡ (at_moment s moment, Done, [])
ticked_before s moment on other none =
    let back : nat_lt moment s.moment ≡ false = grind (arith, nat_tests) in
    let same : (moment == s.moment) ≡ false = grind (arith, nat_tests) in
    let tried = ap (attempted_until most_expiries (at_moment s moment)) (none_listed (dues (bank_of s)) moment none)
    ∙ until-none most_expiries (at_moment s moment) in
    λ i. if back i then refused s ClockBack else if same i then unchanged s Done else answered Done (tried i)
