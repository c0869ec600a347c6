-- The timers.
use Rattle.std.proofs.Common.{◌≡◌, ℕ, suc, ◌+◌, ◌*◌, ◌<◌, Bool, true, false, List, ◌&&◌, length, get_or, replicate, refl, sym, ap, subst, ◌∙◌, arith}
use Rattle.std.specs.Prelude.{Option, None, Some, is_none, ◌==◌}
use Rattle.std.proofs.lemmas.List.{get_or_past}
use Rattle.stimer_bank.specs.declared.timer.Timer.{Timer}
use Rattle.stimer_bank.specs.Bank.{idle_timer}
use Rattle.synic_board.specs.State.{State, processors}
use Rattle.synic_board.specs.Timed.{IsNear}
use Rattle.text_image.specs.declared.piece.Piece.TheVariants as pieces
use Rattle.text_image.specs.Image.{each_below, timer_lines, timers_lines}
use Rattle.text_restore.specs.Restoring.{rank}
use Rattle.stimer_bank.specs.Ranges.{IsTimer}
use Rattle.law_images.specs.States.{IsBoardState}
use Rattle.law_images.proofs.Fronts.{front, front-none, front-more, front-still, front-all}
use Rattle.law_images.proofs.Tests.{same}
use Rattle.law_images.proofs.Walks.{Point, point, Passes, passes-unless, passes-none, passes-each, passes-from, passes-to}

known-none : (o : Option ℕ) → is_none o ≡ true → o ≡ None
known-none None e = refl
known-none (Some x) e = absurd (cc)

-- a timer without a line is idle
is-idle : (x : Timer) → ((x.config == 0) && ((x.count == 0) && is_none x.due)) ≡ true → x ≡ idle_timer
is-idle x e = by (x.config == 0) (x.count == 0) (is_none x.due) refl refl refl e
  where
    by : (a b c : Bool) → (x.config == 0) ≡ a → (x.count == 0) ≡ b → is_none x.due ≡ c → (a && (b && c)) ≡ true
        → x ≡ idle_timer
    by true true true a b c e =
        let config = same x.config 0 a in
        let count = same x.count 0 b in
        let due = known-none x.due c in
        (λ i. record { config = config i; count = count i; due = due i })
    by true true false a b c e = absurd (cc)
    by true false z a b c e = absurd (cc)
    by false y z a b c e = absurd (cc)

module _ (s : State) (h : IsBoardState s) (t : State) (full : processors t ≡ processors s)
    (same_time : t.moment ≡ s.moment) where
  abbrev with_timers : List Timer → State
  with_timers timers = record t { timers = timers }

  abbrev timers-at : ℕ → ℕ → Point
  timers-at p i = point (with_timers (front (4 * p + i) s.timers idle_timer)) (processors s) (rank 7 p i 0)

  timer-passed : (p i : ℕ) → p < processors s → i < 4 → Passes (timers-at p i) (timer_lines s p i) (timers-at p (suc i))
  timer-passed p i below low =
      passes-unless ((x.config == 0) && ((x.count == 0) && is_none x.due)) (timers-at p i)
      (pieces.Timer p i x.config x.count x.due) (timers-at p (suc i))
      (λ e. passes-none (timers-at p i) (timers-at p (suc i))
      (ap with_timers (next ∙ front-still j s.timers idle_timer (is-idle x e))) refl (omega arith))
      (λ e. record {
        fits = (omega (arith, h.settled.bound, below), omega (arith, low), is.0, is.1, is.2);
        later = λ last before. before;
        turn = sym full;
        restores = (
          omega (arith, full, below),
          low,
          e,
          record { sound = h.timers j; near = subst (λ m. IsNear m x) (sym same_time) (h.buffers.timed.near j) },
          ap with_timers (next ∙ front-more j s.timers idle_timer idle_timer inside),
        );
        count = refl;
        before = omega arith;
      })
    where
      j : ℕ
      j = 4 * p + i

      x : Timer
      x = get_or s.timers (4 * p + i) idle_timer

      inside : 4 * p + i < length s.timers
      inside = omega (arith, h.shape.timers, below, low)

      is : IsTimer (get_or s.timers (4 * p + i) idle_timer)
      is = h.ranges.timers (4 * p + i) idle_timer inside

      next : front (4 * p + suc i) s.timers idle_timer ≡ front (suc (4 * p + i)) s.timers idle_timer
      next = let e : 4 * p + suc i ≡ suc (4 * p + i) = omega arith in ap (λ (k : ℕ). front k s.timers idle_timer) e

  pub timers-passed : Passes
      (point (with_timers (replicate (4 * processors s) idle_timer)) (processors s) (rank 7 0 0 0))
      (each_below (processors s) (timers_lines s))
      (point (with_timers s.timers) (processors s) (rank 8 0 0 0))
  timers-passed =
      passes-from (point (with_timers (replicate (4 * processors s) idle_timer)) (processors s) (rank 7 0 0 0))
      (timers-at 0 0) (point (with_timers s.timers) (processors s) (rank 8 0 0 0))
      (each_below (processors s) (timers_lines s)) (ap with_timers (sym none)) refl (omega arith)
      (passes-to (timers-at 0 0) (timers-at (processors s) 0)
      (point (with_timers s.timers) (processors s) (rank 8 0 0 0)) (each_below (processors s) (timers_lines s))
      (ap with_timers (sym all)) refl (omega (arith, h.settled.bound))
      (passes-each (processors s) (timers_lines s) (λ p. timers-at p 0) step))
    where
      none : replicate (4 * processors s) idle_timer ≡ front 0 s.timers idle_timer
      none = ap (λ (n : ℕ). replicate n idle_timer) (sym h.shape.timers) ∙ front-none s.timers idle_timer

      all : front (4 * processors s + 0) s.timers idle_timer ≡ s.timers
      all = front-all (4 * processors s + 0) s.timers idle_timer
          (λ j up below. get_or_past s.timers j idle_timer (omega (arith, up, h.shape.timers)))

      step : (p : ℕ) → p < processors s → Passes (timers-at p 0) (timers_lines s p) (timers-at (suc p) 0)
      step p below =
          let e : 4 * suc p + 0 ≡ 4 * p + 4 = omega arith in
          passes-to (timers-at p 0) (timers-at p 4) (timers-at (suc p) 0) (timers_lines s p)
          (ap (λ (k : ℕ). with_timers (front k s.timers idle_timer)) e) refl (omega arith)
          (passes-each 4 (timer_lines s p) (timers-at p) (λ i low. timer-passed p i below low))
