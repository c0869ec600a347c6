use Rattle.std.proofs.Common.{◌≡◌, ◌≢◌, ℕ, ◌+◌, ◌<◌, List, ◌∷◌, length, get_or, drop, Bool, true, false, cond, ap, sym, ◌∙◌, subst, arith}
use Rattle.std.specs.Prelude.{filter}
use Rattle.std.proofs.lemmas.List.{at_drop_more, drop_all}
use Rattle.std.proofs.lemmas.Bool.Decides.{nat_tests}
use Rattle.board_terms.specs.Dues.{number_of}
use Rattle.synic_board.specs.inside.Steps.{is_other}
use Rattle.synic_board.proofs.Trying.{IsTrying, starts-trying, tried-all, tried-most, tries-first}
use Rattle.synic_board.proofs.machine.Machine.try_in_order.Goals as goal
use Rattle.synic_board.proofs.machine.Machine.try_in_order.Goals.{then-number, else-number}

-- the next of some timers is among those that pass a test, or is left out
module _ (q : ℕ × ℕ → Bool) (xs : List (ℕ × ℕ)) (i : ℕ) (x : ℕ × ℕ) (inside : i < length xs)
    (is : x ≡ get_or xs i x) where
  next : filter q (drop i xs) ≡ cond (q x) (x ∷ filter q (drop (i + 1) xs)) (filter q (drop (i + 1) xs))
  next = at_drop_more (filter q) xs i x inside
      ∙ ap (λ y. cond (q y) (y ∷ filter q (drop (i + 1) xs)) (filter q (drop (i + 1) xs))) (sym is)

  next-passes : q x ≡ true → filter q (drop i xs) ≡ x ∷ filter q (drop (i + 1) xs)
  next-passes e = next ∙ ap (λ b. cond b (x ∷ filter q (drop (i + 1) xs)) (filter q (drop (i + 1) xs))) e

  next-fails : q x ≡ false → filter q (drop i xs) ≡ filter q (drop (i + 1) xs)
  next-fails e = next ∙ ap (λ b. cond b (x ∷ filter q (drop (i + 1) xs)) (filter q (drop (i + 1) xs))) e

apart : (t u : ℕ × ℕ) (a b : ℕ) → a ≡ number_of u → b ≡ number_of t → a ≢ b → is_other t u ≡ true
apart t u a b e f differ =
    let other : number_of u ≢ number_of t = λ is. differ (e ∙ is ∙ sym f) in grind (arith, nat_tests)

same : (t u : ℕ × ℕ) (a b : ℕ) → a ≡ number_of u → b ≡ number_of t → a ≡ b → is_other t u ≡ false
same t u a b e f is = let one : number_of u ≡ number_of t = sym e ∙ is ∙ f in grind (arith, nat_tests)

pub loop-timer-init : goal.loop-timer-init
loop-timer-init c =
    starts-trying c.args.self.now c.args.notices.now c.args.left (filter (is_other c.args.tried) c.args.timers.now)

pub returns-then-left-eq0 : goal.returns-then-left-eq0
returns-then-left-eq0 c = tried-most _ _ _ _ _ _ _ _ c.loop-timer.invariant c.if-left-eq0.true

pub returns : goal.returns
returns c = tried-all _ _ _ _ _ _ _ _ c.loop-timer.invariant
    (ap (filter (is_other c.args.tried)) (drop_all c.loop-timer.timer-index c.args.timers.now c.loop-timer-test.false))

pub loop-timer-preserved : goal.loop-timer-preserved
loop-timer-preserved c =
    let q = is_other c.args.tried in
    let xs = c.args.timers.now in
    let i = c.loop-timer.timer-index in
    let so_far = c.loop-timer.invariant in
    elim c.if-number.branch as
    (λ _. IsTrying c.args.self.now c.args.notices.now c.args.left
    (filter q xs) c.if-number.self c.if-number.notices c.if-number.left (filter q (drop (i + 1) xs))) [
      | then-number w ↦
          rw (w.self-is, w.notices-is, w.left-is) (tries-first _ _ _ _ _ _ _ _ _
          (subst (λ ts. IsTrying c.args.self.now c.args.notices.now c.args.left
          (filter q xs) c.loop-timer.self c.loop-timer.notices c.loop-timer.left ts)
          (next-passes q xs i c.timer-item.result c.loop-timer-test.true c.timer-item.is
          (apart c.args.tried c.timer-item.result _ _ c.number.ensures.value c.number-in-loop-timer.ensures.value
          w.if-number.true)) so_far)
          (omega (arith, c.if-left-eq0.false)) _ _ w.try_timer.ensures.effected _ w.try_timer.ensures.ready)
      | else-number w ↦
          rw (w.self-is, w.notices-is, w.left-is)
          (subst (λ ts. IsTrying c.args.self.now c.args.notices.now c.args.left
          (filter q xs) c.loop-timer.self c.loop-timer.notices c.loop-timer.left ts)
          (next-fails q xs i c.timer-item.result c.loop-timer-test.true c.timer-item.is
          (same c.args.tried c.timer-item.result _ _ c.number.ensures.value c.number-in-loop-timer.ensures.value
          w.if-number.false)) so_far)
    ]
