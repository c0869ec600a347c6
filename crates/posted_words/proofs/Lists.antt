-- Sums over a list, and facts of each element, given one element by its index.
use Rattle.std.proofs.Common.{◌≡◌, ℕ, zero, suc, ◌+◌, ◌<◌, ◌≤◌, List, [], ◌∷◌, length, get_or, set, All, refl, sym, ap, subst, arith}
use Rattle.std.specs.Prelude.{sum_by}
use Rattle.std.proofs.lemmas.List.Sums.{sum_by-cons, sum_by-set, get_or-le-sum_by}
use Rattle.std.proofs.lemmas.List.Elements.{All-get_or, All-head, All-tail}
use mathlib.Core.Option.{some, some-ne-none, some-injective}
use lib.ListN.{get_elem?}

module _ {A : Type 0} where
  pub get_found : (xs : List A) (i : ℕ) (a d : A) → get_elem? xs i ≡ some a → (i < length xs) × (get_or xs i d ≡ a)
  get_found [] i a d e = absurd (some-ne-none a (sym e))
  get_found (x ∷ xs) zero a d e = (omega arith, some-injective x a e)
  get_found (x ∷ xs) (suc i) a d e = let r = get_found xs i a d e in (omega arith, r.1)

  pub All-found : (P : A → Type 0) (xs : List A) (i : ℕ) (a : A) → get_elem? xs i ≡ some a → All P xs → P a
  All-found P xs i a e all = let f = get_found xs i a a e in subst P f.1 (All-get_or P xs i a f.0 all)

  pub sum_by-set_found : (f : A → ℕ) (xs : List A) (i : ℕ) (a b : A) → get_elem? xs i ≡ some a
      → sum_by f (set xs i b) + f a ≡ sum_by f xs + f b
  sum_by-set_found f xs i a b e =
      let r =
      get_found xs i a a e in let s =
      sum_by-set f xs i b a r.0 in let here : f (get_or xs i a) ≡ f a = ap f r.1 in omega arith

  pub found-le-sum_by : (f : A → ℕ) (xs : List A) (i : ℕ) (a : A) → get_elem? xs i ≡ some a → f a ≤ sum_by f xs
  found-le-sum_by f xs i a e =
      let r =
      get_found xs i a a e in let l =
      get_or-le-sum_by f xs i a r.0 in let here : f (get_or xs i a) ≡ f a = ap f r.1 in omega arith

  -- f is 0 where g is
  abbrev pub Follows : (g f : A → ℕ) → A → Type 0
  Follows g f x = g x ≡ 0 → f x ≡ 0

  sum_by-none : (g f : A → ℕ) (xs : List A) → sum_by g xs ≡ 0 → All (Follows g f) xs → sum_by f xs ≡ 0
  sum_by-none g f [] e all = refl
  sum_by-none g f (x ∷ xs) e all =
      let G = sum_by-cons g x xs in
      let F = sum_by-cons f x xs in
      let here : f x ≡ 0 = All-head (Follows g f) x xs all (omega arith) in
      let r = sum_by-none g f xs (omega arith) (All-tail (Follows g f) x xs all) in
      omega arith

  -- if one element has all of g, it has all of f
  pub sum_by-alone : (g f : A → ℕ) (xs : List A) (i : ℕ) (a : A) → get_elem? xs i ≡ some a → sum_by g xs ≡ g a
      → All (Follows g f) xs → sum_by f xs ≡ f a
  sum_by-alone g f [] i a e is all = absurd (some-ne-none a (sym e))
  sum_by-alone g f (x ∷ xs) zero a e is all =
      let G = sum_by-cons g x xs in
      let F = sum_by-cons f x xs in
      let p : g x ≡ g a = ap g (some-injective x a e) in
      let q : f x ≡ f a = ap f (some-injective x a e) in
      let r = sum_by-none g f xs (omega arith) (All-tail (Follows g f) x xs all) in
      omega arith
  sum_by-alone g f (x ∷ xs) (suc i) a e is all =
      let G = sum_by-cons g x xs in
      let F = sum_by-cons f x xs in
      let o = found-le-sum_by g xs i a e in
      let here : f x ≡ 0 = All-head (Follows g f) x xs all (omega arith) in
      let r = sum_by-alone g f xs i a e (omega arith) (All-tail (Follows g f) x xs all) in
      omega arith
