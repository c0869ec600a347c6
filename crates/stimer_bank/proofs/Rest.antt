-- The timers of a due list other than the first, once it was tried.
use Rattle.std.proofs.Common.{◌≡◌, ◌≢◌, ℕ, ◌+◌, ◌*◌, ◌/◌, ◌%◌, ◌<◌, ◌≤◌, Bool, true, false, not, cond, nat_le, [], ◌∷◌, length, get_or, ◌⊎◌, inl, inr, refl, sym, ap, ◌∙◌, arith, subst}
use Rattle.std.specs.Prelude.{None, Some, ◌==◌, filter}
use Rattle.std.specs.Option.{option_map_or}
use Rattle.std.proofs.lemmas.Bool.Decides.{nat_tests}
use Rattle.board_terms.specs.Dues.{Dues, number_of, timer_of, due_of, least, IsLeast}
use Rattle.deadline_tree.proofs.Leasts.{finds-least}
use Rattle.deadline_tree.specs.Deadlines.{is_due_by}
use Rattle.stimer_bank.specs.Bank.{due_list}
use Rattle.stimer_bank.specs.DueList.{Timers, Each, Has, Before, InOrder, IsDueBy, IsDueList}
use Rattle.stimer_bank.proofs.Sorted.{sorted, each_more}
use Rattle.stimer_bank.proofs.Members.{each-listed}

-- a timer other than t
abbrev is_other : ℕ × ℕ → ℕ × ℕ → Bool
is_other t u = not (number_of u == number_of t)

-- exactly the timers other than t that are due at a time, in order
pub record IsRest (m : Dues) (moment : ℕ) (t : ℕ × ℕ) (ts : Timers) : Type 0 where
  pub index : Each (λ u. u.1 < 4) ts
  pub others : Each (λ u. number_of u ≢ number_of t) ts
  pub each : Each (IsDueBy m moment (length m)) ts
  pub order : InOrder m ts
  pub every : (k d : ℕ) → k < length m → k ≢ number_of t → get_or m k None ≡ Some d → d ≤ moment → Has ts (timer_of k)

number_back : (k : ℕ) → number_of (timer_of k) ≡ k
number_back k = omega arith

timer_back : (t : ℕ × ℕ) → t.1 < 4 → timer_of (number_of t) ≡ t
timer_back t h = λ i. (processor i, index i)
  where
    processor : (4 * t.0 + t.1) / 4 ≡ t.0
    processor = omega arith

    index : (4 * t.0 + t.1) % 4 ≡ t.1
    index = omega arith

each_has : (P : ℕ × ℕ → Type 0) (ts : Timers) (t : ℕ × ℕ) → Has ts t → Each P ts → P t
each_has P [] t g h = absurd g
each_has P (u ∷ us) t (inl e) h = subst P e h.0
each_has P (u ∷ us) t (inr g) h = each_has P us t g h.1

each_two : (P Q R : ℕ × ℕ → Type 0) (ts : Timers) → ((t : ℕ × ℕ) → P t → Q t → R t) → Each P ts → Each Q ts → Each R ts
each_two P Q R [] f a b = tt
each_two P Q R (u ∷ us) f a b = (f u a.0 b.0, each_two P Q R us f a.1 b.1)

-- timers in order have different numbers
apart : (m : Dues) (moment : ℕ) (t u : ℕ × ℕ) → IsDueBy m moment (length m) t → IsDueBy m moment (length m) u
    → Before m t u → number_of u ≢ number_of t
apart m moment t u a b before e =
    let same : a.due ≡ b.due =
    let f : Some a.due ≡ Some b.due = sym a.is ∙ ap (λ k. get_or m k None) (sym e) ∙ b.is in cc in
    let less = (before a.due b.due a.is b.is).1 same in
    omega (arith, e, less)

module _ (m : Dues) (moment : ℕ) where
  -- the earliest timer of all, if it is due, is the first of a list of the due ones
  first-of : (ts : Timers) (t : ℕ × ℕ) (d : ℕ) → IsDueList m moment (length m) ts → t.1 < 4
      → IsLeast m d (number_of t) → d ≤ moment → (us : Timers) × (ts ≡ t ∷ us)
  first-of [] t d h i l by = absurd (h.every (number_of t) d l.low l.due by)
  first-of (u ∷ us) t d h i l by = from (h.every (number_of t) d l.low l.due by)
    where
      from : (u ≡ timer_of (number_of t)) ⊎ Has us (timer_of (number_of t)) → (vs : Timers) × (u ∷ us ≡ t ∷ vs)
      from (inl e) = (us, ap (λ x. x ∷ us) (e ∙ timer_back t i))
      from (inr g) =
          let before = each_has (Before m u) us (timer_of (number_of t)) g h.order.0 in
          let due = h.each.0 in
          let after = before due.due d due.is (ap (λ k. get_or m k None) (number_back (number_of t)) ∙ l.due) in
          let first = l.first (number_of u) due.due due.is in
          let same : due.due ≡ d = omega (arith, after.0, first.0) in
          let low = after.1 same in
          let high = first.1 same in
          absurd (omega (arith, low, high, number_back (number_of t)))

  pub first-listed : (t : ℕ × ℕ) (d : ℕ) → t.1 < 4 → IsLeast m d (number_of t) → d ≤ moment → (us : Timers)
      × (due_list m moment ≡ t ∷ us)
  first-listed t d i l by = first-of (due_list m moment) t d (sorted m moment) i l by

-- the order depends on the deadlines of the listed timers alone
same_order : (m n : Dues) (ts : Timers) → Each (λ t. due_of n t ≡ due_of m t) ts → InOrder m ts → InOrder n ts
same_order m n [] s o = tt
same_order m n (t ∷ ts) s o = (
  each_two (λ u. due_of n u ≡ due_of m u) (Before m t) (Before n t) ts
      (λ u same before a b e f. before a b (sym s.0 ∙ e) (sym same ∙ f)) s.1 o.0,
  same_order m n ts s.1 o.1,
)

-- the first is tried: the deadlines of the others stay
module _ (m n : Dues) (moment : ℕ) (t : ℕ × ℕ) (us : Timers) (first : due_list m moment ≡ t ∷ us)
    (as-many : length n ≡ length m) (others : (k : ℕ) → k ≢ number_of t → get_or n k None ≡ get_or m k None) where
  listed : IsDueList m moment (length m) (t ∷ us)
  listed = subst (IsDueList m moment (length m)) first (sorted m moment)

  indexes : Each (λ u. u.1 < 4) (t ∷ us)
  indexes = subst (Each (λ u. u.1 < 4)) first (each-listed (λ u. u.1 < 4) (λ k. omega arith) m moment)

  other : Each (λ u. number_of u ≢ number_of t) us
  other = each_two (IsDueBy m moment (length m)) (Before m t) (λ u. number_of u ≢ number_of t) us
      (λ u due before. apart m moment t u listed.each.0 due before) listed.each.1 listed.order.0

  still : Each (λ u. due_of n u ≡ due_of m u) us
  still = each_more (λ u. number_of u ≢ number_of t) (λ u. due_of n u ≡ due_of m u) us
      (λ u a. others (number_of u) a) other

  among : (k : ℕ) → k ≢ number_of t → Has (t ∷ us) (timer_of k) → Has us (timer_of k)
  among k a (inl e) = absurd (a (sym (ap number_of e ∙ number_back k)))
  among k a (inr g) = g

  rest-listed : IsRest n moment t us
  rest-listed = record {
    index = indexes.1;
    others = other;
    each = each_two (IsDueBy m moment (length m)) (λ u. due_of n u ≡ due_of m u) (IsDueBy n moment (length n)) us
        (λ u due same. record {
          due = due.due;
          is = same ∙ due.is;
          by = due.by;
          low = let low = due.low in
              omega (arith, as-many);
        }) listed.each.1 still;
    order = same_order m n us still listed.order.1;
    every = λ k d l a e f. among k a (listed.every k d (omega (arith, l, as-many)) (sym (others k a) ∙ e) f);
  }

-- a list without some of its timers
module _ (q : ℕ × ℕ → Bool) where
  each-filter : (P : ℕ × ℕ → Type 0) (ts : Timers) → Each P ts → Each P (filter q ts)
  each-filter P [] h = tt
  each-filter P (t ∷ ts) h =
      elim (q t) as (λ b. Each P (cond b (t ∷ filter q ts) (filter q ts))) [
        | true ↦
            (h.0, each-filter P ts h.1)
        | false ↦ each-filter P ts h.1
      ]

  all-pass : (ts : Timers) → Each (λ t. q t ≡ true) (filter q ts)
  all-pass [] = tt
  all-pass (t ∷ ts) =
      elim (q t) as (λ b. q t ≡ b → Each (λ u. q u ≡ true) (cond b (t ∷ filter q ts) (filter q ts))) [
        | true ↦
            λ e. (e, all-pass ts)
        | false ↦ λ e. all-pass ts
      ] refl

  order-filter : (m : Dues) (ts : Timers) → InOrder m ts → InOrder m (filter q ts)
  order-filter m [] h = tt
  order-filter m (t ∷ ts) h = elim (q t) as
      (λ b. InOrder m (cond b (t ∷ filter q ts) (filter q ts))) [
        | true ↦
            (each-filter (Before m t) ts h.0, order-filter m ts h.1)
        | false ↦ order-filter m ts h.1
      ]

  has-filter : (ts : Timers) (u : ℕ × ℕ) → q u ≡ true → Has ts u → Has (filter q ts) u
  has-filter [] u e g = absurd g
  has-filter (t ∷ ts) u e (inl f) =
      elim (q t) as (λ b. q t ≡ b → Has (cond b (t ∷ filter q ts) (filter q ts)) u) [
        | true ↦ λ w. inl f
        | false ↦
            λ w. absurd (let g : true ≡ false = sym e ∙ ap q (sym f) ∙ w in cc)
      ] refl
  has-filter (t ∷ ts) u e (inr g) =
      elim (q t) as (λ b. Has (cond b (t ∷ filter q ts) (filter q ts)) u) [
        | true ↦ inr (has-filter ts u e g)
        | false ↦
            has-filter ts u e g
      ]

other-number : (t u : ℕ × ℕ) → is_other t u ≡ true → number_of u ≢ number_of t
other-number t u e same = absurd (grind (arith, nat_tests))

number-other : (t u : ℕ × ℕ) → number_of u ≢ number_of t → is_other t u ≡ true
number-other t u a = grind (arith, nat_tests)

-- the timers of the due list other than t
filtered-rest : (m : Dues) (moment : ℕ) (t : ℕ × ℕ) → IsRest m moment t (filter (is_other t) (due_list m moment))
filtered-rest m moment t =
    let h = sorted m moment in
    let q = is_other t in
    let ts = due_list m moment in record {
      index = each-filter q (λ u. u.1 < 4) ts (each-listed (λ u. u.1 < 4) (λ n. omega arith) m moment);
      others = each_more (λ u. q u ≡ true) (λ u. number_of u ≢ number_of t) (filter q ts) (other-number t)
          (all-pass q ts);
      each = each-filter q (IsDueBy m moment (length m)) ts h.each;
      order = order-filter q m ts h.order;
      every = λ k d l a e f. has-filter q ts (timer_of k)
          (number-other t (timer_of k) (λ same. a (sym (number_back k) ∙ same))) (h.every k d l e f);
    }

-- the due list, if t is not due
whole-rest : (m : Dues) (moment : ℕ) (t : ℕ × ℕ) → is_due_by m moment (number_of t) ≡ false
    → IsRest m moment t (due_list m moment)
whole-rest m moment t never =
    let h = sorted m moment in record {
      index = each-listed (λ u. u.1 < 4) (λ n. omega arith) m moment;
      others = each_more (IsDueBy m moment (length m)) (λ u. number_of u ≢ number_of t)
          (due_list m moment) not-due h.each;
      each = h.each;
      order = h.order;
      every = λ k d l a e f. h.every k d l e f;
    }
  where
    not-due : (u : ℕ × ℕ) → IsDueBy m moment (length m) u → number_of u ≢ number_of t
    not-due u due same =
        let late : nat_le due.due moment ≡ false =
        sym (ap (λ o. option_map_or (λ d. nat_le d moment) o false)
        (ap (λ k. get_or m k None) (sym same) ∙ due.is)) ∙ never in
        let by = due.by in
        absurd (grind (arith, nat_tests))

-- two lists in order that have the same timers
module _ (m : Dues) (moment : ℕ) where
  never-twice : (t : ℕ × ℕ) → IsDueBy m moment (length m) t → Before m t t → ⊥
  never-twice t a before = apart m moment t t a a before refl

  not-both : (x y : ℕ × ℕ) → IsDueBy m moment (length m) x → IsDueBy m moment (length m) y → Before m x y
      → Before m y x → ⊥
  not-both x y a b xy yx =
      let one = xy a.due b.due a.is b.is in
      let two = yx b.due a.due b.is a.is in
      let same : a.due ≡ b.due = omega (arith, one.0, two.0) in
      let p = one.1 same in
      let q = two.1 (sym same) in
      omega (arith, p, q)

  same-list : (xs ys : Timers) → Each (IsDueBy m moment (length m)) xs → Each (IsDueBy m moment (length m)) ys
      → InOrder m xs → InOrder m ys → ((t : ℕ × ℕ) → Has xs t → Has ys t) →
      ((t : ℕ × ℕ) → Has ys t → Has xs t) → xs ≡ ys
  same-list [] [] a b o p there back = refl
  same-list [] (y ∷ ys) a b o p there back = absurd (back y (inl refl))
  same-list (x ∷ xs) [] a b o p there back = absurd (there x (inl refl))
  same-list (x ∷ xs) (y ∷ ys) a b o p there back =
      λ i. head i ∷ same-list xs ys a.1 b.1 o.1 p.1 (λ t g. ahead t g (there t (inr g)))
      (λ t g. behind t g (back t (inr g))) i
    where
      by : (y ≡ x) ⊎ Has ys x → (x ≡ y) ⊎ Has xs y → x ≡ y
      by (inl e) f = sym e
      by (inr g) (inl e) = e
      by (inr g) (inr f) =
          absurd (not-both x y a.0 b.0 (each_has (Before m x) xs y f o.0) (each_has (Before m y) ys x g p.0))

      head : x ≡ y
      head = by (there x (inl refl)) (back y (inl refl))

      ahead : (t : ℕ × ℕ) → Has xs t → (y ≡ t) ⊎ Has ys t → Has ys t
      ahead t g (inl e) =
          absurd (never-twice x a.0 (each_has (Before m x) xs x (subst (Has xs) (sym (head ∙ e)) g) o.0))
      ahead t g (inr k) = k

      behind : (t : ℕ × ℕ) → Has ys t → (x ≡ t) ⊎ Has xs t → Has xs t
      behind t g (inl e) =
          absurd (never-twice y b.0 (each_has (Before m y) ys y (subst (Has ys) (sym (sym head ∙ e)) g) p.0))
      behind t g (inr k) = k

rest-same : (m : Dues) (moment : ℕ) (t : ℕ × ℕ) (xs ys : Timers) → IsRest m moment t xs → IsRest m moment t ys → xs ≡ ys
rest-same m moment t xs ys h k =
    same-list m moment xs ys h.each k.each h.order k.order (within xs ys h k) (within ys xs k h)
  where
    within : (us vs : Timers) → IsRest m moment t us → IsRest m moment t vs → (u : ℕ × ℕ) → Has us u → Has vs u
    within us vs a b u g =
        let due = each_has (IsDueBy m moment (length m)) us u g a.each in
        let other = each_has (λ x. number_of x ≢ number_of t) us u g a.others in
        let index = each_has (λ x. x.1 < 4) us u g a.index in
        subst (Has vs) (timer_back u index) (b.every (number_of u) due.due due.low other due.is due.by)

-- after the first was tried, the others are those that are due without it, and all that are due if it is not
module _ (m n : Dues) (moment : ℕ) (t : ℕ × ℕ) (us : Timers) (first : due_list m moment ≡ t ∷ us)
    (as-many : length n ≡ length m) (others : (k : ℕ) → k ≢ number_of t → get_or n k None ≡ get_or m k None) where
  pub rest-filtered : filter (is_other t) (due_list n moment) ≡ us
  rest-filtered =
      rest-same n moment t (filter (is_other t) (due_list n moment)) us (filtered-rest n moment t)
      (rest-listed m n moment t us first as-many others)

  pub rest-whole : is_due_by n moment (number_of t) ≡ false → due_list n moment ≡ us
  rest-whole never =
      rest-same n moment t (due_list n moment) us (whole-rest n moment t never)
      (rest-listed m n moment t us first as-many others)

-- the earliest timer of all
pub earliest-least : (m : Dues) (d : ℕ) (t : ℕ × ℕ) → t.1 < 4 → least m ≡ Some (d, t) → IsLeast m d (number_of t)
earliest-least m d t i h = ((finds-least m).some d (number_of t)).1 (h ∙ ap (λ u. Some (d, u)) (sym (timer_back t i)))

-- a due list has no other form
pub due-list-is : (m : Dues) (moment : ℕ) (ts : Timers) → Each (λ u. u.1 < 4) ts → IsDueList m moment (length m) ts
    → ts ≡ due_list m moment
due-list-is m moment ts index h =
    let l = sorted m moment in
    same-list m moment ts (due_list m moment) h.each l.each h.order l.order (within ts (due_list m moment) index h l)
    (within (due_list m moment) ts (each-listed (λ u. u.1 < 4) (λ n. omega arith) m moment) l h)
  where
    within : (us vs : Timers) → Each (λ u. u.1 < 4) us → IsDueList m moment (length m) us
        → IsDueList m moment (length m) vs → (u : ℕ × ℕ) → Has us u → Has vs u
    within us vs index a b u g =
        let due = each_has (IsDueBy m moment (length m)) us u g a.each in
        subst (Has vs) (timer_back u (each_has (λ x. x.1 < 4) us u g index))
        (b.every (number_of u) due.due due.low due.is due.by)
