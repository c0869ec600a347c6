-- The least of a list of deadlines.
use Rattle.std.proofs.Common.{◌≡◌, ℕ, zero, suc, ◌+◌, ◌/◌, ◌%◌, ◌<◌, ◌≤◌, true, false, nat_lt, length, get_or, inl, inr, refl, sym, ap, ◌∙◌, add-one, arith}
use Rattle.std.specs.Prelude.{Option, None, Some, if◌then◌else◌}
use Rattle.std.specs.Option.{option_map_or, option_map}
use Rattle.std.proofs.lemmas.Bool.{cases_eq, cases_lt}
use Rattle.std.proofs.lemmas.Bool.Decides.{nat_tests}
use Rattle.std.proofs.lemmas.Option.{none-some, same_Some}
use Rattle.std.proofs.lemmas.List.{get_or_past}
use Rattle.board_terms.specs.Dues.{Dues, least, least_below, earlier, timer_of, IsLeast}
use Rattle.deadline_tree.specs.Laws.{FindsLeast}

-- what the scan of the numbers below n found
pub record IsFound (m : Dues) (n : ℕ) (r : ℕ × ℕ) : Type 0 where
  pub low : r.1 < n
  pub due : get_or m r.1 None ≡ Some r.0
  pub first : (k e : ℕ) → k < n → get_or m k None ≡ Some e → (r.0 ≤ e) × (e ≡ r.0 → r.1 ≤ k)

abbrev pub Found : Dues → ℕ → Option (ℕ × ℕ) → Type 0
Found m n None = (k : ℕ) → k < n → get_or m k None ≡ None
Found m n (Some r) = IsFound m n r

-- the number n has no deadline
skip : (m : Dues) (n : ℕ) → get_or m n None ≡ None → (o : Option (ℕ × ℕ)) → Found m n o → Found m (suc n) o
skip m n h None f =
    λ k l. elim (cases_eq k n) as (λ _. get_or m k None ≡ None) [ inl e ↦ rw e h | inr e ↦ f k (omega arith) ]
skip m n h (Some r) f = record {
  low = omega (arith, f.low);
  due = f.due;
  first = λ k e l g. elim (cases_eq k n) as
      (λ _. (r.0 ≤ e) × (e ≡ r.0 → r.1 ≤ k)) [
        | inl x ↦
            absurd (none-some e (sym h ∙ ap (λ j. get_or m j None) (sym x) ∙ g))
        | inr x ↦ f.first k e (omega arith) g
      ];
}

-- the number n is due at d
join : (m : Dues) (n d : ℕ) → get_or m n None ≡ Some d → (o : Option (ℕ × ℕ)) → Found m n o
    → IsFound m (suc n) (earlier o (d, n))
join m n d h None f = record {
  low = omega arith;
  due = h;
  first = λ k e l g. elim (cases_eq k n) as (λ _. (d ≤ e) × (e ≡ d → n ≤ k)) [
    | inl x ↦ let y : d ≡ e =
        same_Some d e (sym h ∙ ap (λ j. get_or m j None) (sym x) ∙ g) in (omega arith, λ _. omega arith)
    | inr x ↦ absurd (none-some e (sym (f k (omega arith)) ∙ g))
  ];
}
join m n d h (Some r) f =
    elim (nat_lt d r.0) as (λ t. nat_lt d r.0 ≡ t → IsFound m (suc n) (if t then (d, n) else r)) [
      | true ↦ λ w. let less : d < r.0 = grind (arith, nat_tests) in record {
        low = omega arith;
        due = h;
        first = λ k e l g. elim (cases_eq k n) as (λ _. (d ≤ e) × (e ≡ d → n ≤ k)) [
          | inl x ↦ let y : d ≡ e =
              same_Some d e (sym h ∙ ap (λ j. get_or m j None) (sym x) ∙ g) in (omega arith, λ _. omega arith)
          | inr x ↦ let z = f.first k e (omega arith) g in (omega (arith, z.0), λ y. absurd (omega (arith, z.0)))
        ];
      }
      | false ↦ λ w. let more : r.0 ≤ d = grind (arith, nat_tests) in record {
        low = omega (arith, f.low);
        due = f.due;
        first = λ k e l g. elim (cases_eq k n) as (λ _. (r.0 ≤ e) × (e ≡ r.0 → r.1 ≤ k)) [
          | inl x ↦ let y : d ≡ e =
              same_Some d e (sym h ∙ ap (λ j. get_or m j None) (sym x) ∙ g) in (omega arith, λ _. omega (arith, f.low))
          | inr x ↦ f.first k e (omega arith) g
        ];
      }
    ] refl

step : (m : Dues) (n : ℕ) (o : Option (ℕ × ℕ)) → Found m n o → (x : Option ℕ) → get_or m n None ≡ x
    → Found m (suc n) (option_map_or (λ d. Some (earlier o (d, n))) x o)
step m n o f None h = skip m n h o f
step m n o f (Some d) h = join m n d h o f

pub found : (m : Dues) (n : ℕ) → Found m n (least_below m n)
unfolding least_below
found m zero = λ k l. absurd (omega arith)
found m (suc n) = step m n (least_below m n) (found m n) (get_or m n None) refl

same_least : (m : Dues) (d n : ℕ) → IsLeast m d n → (o : Option (ℕ × ℕ)) → Found m (length m) o → o ≡ Some (d, n)
same_least m d n l None h = absurd (none-some d (sym (h n l.low) ∙ l.due))
same_least m d n l (Some r) h =
    let one = l.first r.1 r.0 h.due in
    let two = h.first n d l.low l.due in
    let dues : r.0 ≡ d = omega (arith, one.0, two.0) in
    let n_le : n ≤ r.1 = one.1 dues in
    let r_le : r.1 ≤ n = two.1 (sym dues) in
    let numbers : r.1 ≡ n = omega arith in
    λ i. Some (dues i, numbers i)

-- the least, given its properties
pub least_is : (m : Dues) (d n : ℕ) → IsLeast m d n → least m ≡ Some (d, timer_of n)
unfolding least
least_is m d n l =
    ap (option_map (λ (r : ℕ × ℕ). (r.0, timer_of r.1)))
    (same_least m d n l (least_below m (length m)) (found m (length m)))

same_none : (m : Dues) → ((k : ℕ) → get_or m k None ≡ None) → (o : Option (ℕ × ℕ)) → Found m (length m) o → o ≡ None
same_none m n None h = refl
same_none m n (Some r) h = absurd (none-some r.0 (sym (n r.1) ∙ h.due))

pub least_none : (m : Dues) → ((k : ℕ) → get_or m k None ≡ None) → least m ≡ None
unfolding least
least_none m n =
    ap (option_map (λ (r : ℕ × ℕ). (r.0, timer_of r.1))) (same_none m n (least_below m (length m)) (found m (length m)))

-- a deadline with its timer
abbrev with_timer : ℕ × ℕ → ℕ × (ℕ × ℕ)
with_timer r = (r.0, timer_of r.1)

-- the properties of the least
from_found : (m : Dues) (d n : ℕ) → (o : Option (ℕ × ℕ)) → Found m (length m) o
    → option_map with_timer o ≡ Some (d, timer_of n) → IsLeast m d n
from_found m d n None h e = absurd (none-some (d, timer_of n) e)
from_found m d n (Some r) h e =
    let same = same_Some (r.0, timer_of r.1) (d, timer_of n) e in
    let dues : r.0 ≡ d = ap (λ (x : ℕ × (ℕ × ℕ)). x.0) same in
    let processors : r.1 / 4 ≡ n / 4 = ap (λ (x : ℕ × (ℕ × ℕ)). x.1.0) same in
    let indices : r.1 % 4 ≡ n % 4 = ap (λ (x : ℕ × (ℕ × ℕ)). x.1.1) same in
    let numbers : r.1 ≡ n = omega arith in
    record {
      low = omega (arith, h.low, numbers);
      due = ap (λ k. get_or m k None) (sym numbers) ∙ h.due ∙ ap Some dues;
      first = λ k e g. elim (cases_lt k (length m)) as (λ _. (d ≤ e) × (e ≡ d → n ≤ k)) [
        | inl inside ↦ let f =
            h.first k e inside g in (omega (arith, f.0, dues), λ y. omega (arith, f.1 (y ∙ sym dues), numbers))
        | inr outside ↦ absurd (none-some e (sym (get_or_past m k None outside) ∙ g))
      ];
    }

none_found : (m : Dues) → (o : Option (ℕ × ℕ)) → Found m (length m) o → option_map with_timer o ≡ None → (n : ℕ)
    → get_or m n None ≡ None
none_found m None h e n =
    elim (cases_lt n (length m)) as
    (λ _. get_or m n None ≡ None) [ inl inside ↦ h n inside | inr outside ↦ get_or_past m n None outside ]
none_found m (Some r) h e n = absurd (none-some (r.0, timer_of r.1) (sym e))

pub finds-least : (m : Dues) → FindsLeast m
unfolding least
finds-least m = record {
  some = λ d n. (least_is m d n, from_found m d n (least_below m (length m)) (found m (length m)));
  none = (least_none m, λ e. none_found m (least_below m (length m)) (found m (length m)) e);
}

-- a scan of the numbers, one by one
pub least-none : (m : Dues) → least_below m 0 ≡ None
unfolding least_below
least-none m = refl

pub least-more : (m : Dues) (n : ℕ)
    → least_below m (n + 1) ≡ option_map_or (λ d. Some (earlier (least_below m n) (d, n))) (get_or m n None)
    (least_below m n)
unfolding least_below
least-more m n = rw add-one refl

-- what it found after the last one
pub least-is-found : (m : Dues) (d n : ℕ) → Some (d, n) ≡ least_below m (length m) → (n < length m)
    × (Some (d, timer_of n) ≡ least m)
unfolding least
least-is-found m d n h = (by (least_below m (length m)) (found m (length m)) h, ap (option_map with_timer) h)
  where
    by : (o : Option (ℕ × ℕ)) → Found m (length m) o → Some (d, n) ≡ o → n < length m
    by None f e = absurd (none-some (d, n) (sym e))
    by (Some r) f e = let same : n ≡ r.1 = ap (λ (x : ℕ × ℕ). x.1) (same_Some _ _ e) in omega (arith, same, f.low)

pub least-is-none : (m : Dues) → None ≡ least_below m (length m) → None ≡ least m
unfolding least
least-is-none m h = ap (option_map with_timer) h

-- the earliest timer has an index below four
pub least-index : (m : Dues) (d : ℕ) (t : ℕ × ℕ) → least m ≡ Some (d, t) → t.1 < 4
unfolding least
least-index m d t h = by (least_below m (length m)) h
  where
    by : (o : Option (ℕ × ℕ)) → option_map with_timer o ≡ Some (d, t) → t.1 < 4
    by None e = absurd (none-some (d, t) e)
    by (Some r) e =
        let index : r.1 % 4 ≡ t.1 =
        ap (λ (x : ℕ × (ℕ × ℕ)). x.1.1) (same_Some (r.0, timer_of r.1) (d, t) e) in omega arith
