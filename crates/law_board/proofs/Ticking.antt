-- A tick tries each due timer of a board with at most 32 timers.
use Rattle.std.proofs.Common.{◌≡◌, ℕ, zero, suc, ◌≤◌, Bool, true, false, List, [], ◌∷◌, length, nat_le, refl, ap, arith}
use Rattle.std.specs.Prelude.{Option, None, Some, if◌then◌else◌, not, ◌==◌, slice_index_or, nat_lt}
use Rattle.std.specs.Option.{option_map_or}
use Rattle.std.specs.List.{insert, position_or_len}
use Rattle.std.proofs.lemmas.List.Edits.{length-insert}
use Rattle.std.proofs.lemmas.List.Sums.{prefix_len-le-length}
use Rattle.board_terms.specs.Dues.{Dues, timer_of}
use Rattle.board_terms.specs.declared.refusal.Refusal.TheVariants.{ClockBack}
use Rattle.stimer_bank.specs.Bank.{is_later, due_below, due_list, dues}
use Rattle.stimer_bank.proofs.Shown.{length-dues}
use Rattle.synic_board.specs.declared.event.Reply.TheVariants.{Done}
use Rattle.synic_board.specs.State.{State, bank_of}
use Rattle.synic_board.specs.Effects.{after, answered, unchanged, refused}
use Rattle.synic_board.specs.Timers.{is_ready, attempted, attempted_until, most_expiries, at_moment, ticked}
use Rattle.synic_board.proofs.keeping.Requests.{either}
use Rattle.law_board.specs.Ticks.{attempted_all, ticked_all}

-- at most one timer is listed for each number
listed-bound : (m : Dues) (moment n : ℕ) (ts : List (ℕ × ℕ)) (o : Option ℕ) → length ts ≤ n →
    length (option_map_or (λ d. if nat_le d moment then insert ts (position_or_len (is_later m d) ts) (timer_of n)
    else ts) o ts) ≤ suc n
listed-bound m moment n ts None h = omega (arith, h)
listed-bound m moment n ts (Some d) h =
    either (λ (us : List (ℕ × ℕ)). length us ≤ suc n) (nat_le d moment) _ _
    (λ _. omega (
      arith,
      h,
      length-insert ts (position_or_len (is_later m d) ts) (timer_of n)
          (prefix_len-le-length (λ t. not (is_later m d t)) ts),
    ))
    (λ _. omega (arith, h))

due-bound : (m : Dues) (moment n : ℕ) → length (due_below m moment n) ≤ n
unfolding due_below
due-bound m moment zero = omega arith
due-bound m moment (suc n) =
    listed-bound m moment n (due_below m moment n) (slice_index_or m n None) (due-bound m moment n)

list-bound : (m : Dues) (moment : ℕ) → length (due_list m moment) ≤ length m
unfolding due_list
list-bound m moment = due-bound m moment (length m)

-- with as many attempts as timers, each is tried
each-tried : (n : ℕ) (s : State) (ts : List (ℕ × ℕ)) → length ts ≤ n → attempted_until n s ts ≡ attempted_all s ts
unfolding attempted_until attempted_all
each-tried zero s [] h = refl
each-tried zero s (t ∷ ts) h = absurd (omega (arith, h))
each-tried (suc n) s [] h = refl
each-tried (suc n) s (t ∷ ts) h =
    ap (after (attempted s t))
    (each-tried (if is_ready s t then n else suc n) (attempted s t).0 ts (enough (is_ready s t)))
  where
    enough : (b : Bool) → length ts ≤ (if b then n else suc n)
    enough true = omega (arith, h)
    enough false = omega (arith, h)

pub ticks_all : (s : State) (moment : ℕ) → length s.timers ≤ 32 → ticked s moment ≡ ticked_all s moment
ticks_all s moment few =
    let ts : List (ℕ × ℕ) = due_list (dues (bank_of s)) moment in
    let enough : length ts ≤ most_expiries =
    omega (arith, few, list-bound (dues (bank_of s)) moment, length-dues (bank_of s)) in
    ap (λ e. if nat_lt moment s.moment then refused s ClockBack else if moment == s.moment then unchanged s Done
    else answered Done e) (each-tried most_expiries (at_moment s moment) ts enough)
