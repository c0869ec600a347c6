-- The front of a list: its first k elements. The others are as on a newly opened board.
use Rattle.std.proofs.Common.{◌≡◌, ℕ, zero, suc, ◌+◌, ◌<◌, ◌≤◌, List, [], ◌∷◌, length, get_or, set, replicate, refl, sym, ap, ◌∙◌, arith}
use Rattle.std.specs.Prelude.{sum_by}
use Rattle.std.proofs.lemmas.List.{set-get_or}
use Rattle.std.proofs.lemmas.List.Sums.{sum_by-cons, sum_by-set}

abbrev pub front : {A : Type 0} → ℕ → List A → A → List A
front k [] d = []
front zero (x ∷ xs) d = d ∷ front zero xs d
front (suc k) (x ∷ xs) d = x ∷ front k xs d

pub length-front : {A : Type 0} (k : ℕ) (xs : List A) (d : A) → length (front k xs d) ≡ length xs
length-front k [] d = refl
length-front zero (x ∷ xs) d = ap suc (length-front zero xs d)
length-front (suc k) (x ∷ xs) d = ap suc (length-front k xs d)

pub front-none : {A : Type 0} (xs : List A) (d : A) → replicate (length xs) d ≡ front zero xs d
front-none [] d = refl
front-none {A} (x ∷ xs) d = ap (λ (ys : List A). d ∷ ys) (front-none xs d)

-- the next element is set
pub front-more : {A : Type 0} (k : ℕ) (xs : List A) (d e : A) → k < length xs
    → front (suc k) xs d ≡ set (front k xs d) k (get_or xs k e)
front-more k [] d e h = absurd (omega (arith, h))
front-more zero (x ∷ xs) d e h = refl
front-more {A} (suc k) (x ∷ xs) d e h = ap (λ (ys : List A). x ∷ ys) (front-more k xs d e (omega (arith, h)))

-- an element of the list that is as on a newly opened board
pub front-still : {A : Type 0} (k : ℕ) (xs : List A) (d : A) → get_or xs k d ≡ d → front (suc k) xs d ≡ front k xs d
front-still k [] d e = refl
front-still {A} zero (x ∷ xs) d e = ap (λ (y : A). y ∷ front zero xs d) e
front-still {A} (suc k) (x ∷ xs) d e = ap (λ (ys : List A). x ∷ ys) (front-still k xs d e)

pub front-new : {A : Type 0} (k j : ℕ) (xs : List A) (d e : A) → k ≤ j → j < length xs → get_or (front k xs d) j e ≡ d
front-new k j [] d e h below = absurd (omega (arith, below))
front-new zero zero (x ∷ xs) d e h below = refl
front-new zero (suc j) (x ∷ xs) d e h below = front-new zero j xs d e (omega arith) (omega (arith, below))
front-new (suc k) zero (x ∷ xs) d e h below = absurd (omega (arith, h))
front-new (suc k) (suc j) (x ∷ xs) d e h below = front-new k j xs d e (omega (arith, h)) (omega (arith, below))

-- if the other elements of the list are as on a newly opened board, the front is the list
pub front-all : {A : Type 0} (k : ℕ) (xs : List A) (d : A) → ((j : ℕ) → k ≤ j → j < length xs → get_or xs j d ≡ d)
    → front k xs d ≡ xs
front-all k [] d h = refl
front-all {A} zero (x ∷ xs) d h =
    let first = h 0 (omega arith) (omega arith) in
    let rest = front-all zero xs d (λ j up below. h (suc j) (omega arith) (omega (arith, below))) in
    (λ i. sym first i ∷ rest i)
front-all {A} (suc k) (x ∷ xs) d h =
    ap (λ (ys : List A). x ∷ ys) (front-all k xs d (λ j up below. h (suc j) (omega (arith, up)) (omega (arith, below))))

pub front-whole : {A : Type 0} (xs : List A) (d : A) (k : ℕ) → length xs ≤ k → front k xs d ≡ xs
front-whole xs d k h = front-all k xs d (λ j up below. absurd (omega (arith, h, up, below)))

-- the next element is as on a newly opened board
pub front-start : {A : Type 0} (k : ℕ) (xs : List A) (d : A) → k < length xs → set (front k xs d) k d ≡ front k xs d
front-start {A} k xs d h =
    ap (set (front k xs d) k) (sym (front-new k k xs d d (omega arith) h)) ∙ set-get_or (front k xs d) k d

-- Sums over a front are at most those over the list.
pub front-sum : {A : Type 0} (f : A → ℕ) (k : ℕ) (xs : List A) (d : A) → f d ≡ 0 → sum_by f (front k xs d) ≤ sum_by f xs
front-sum f k [] d none = omega arith
front-sum f zero (x ∷ xs) d none =
    omega (arith, sum_by-cons f d (front zero xs d), sum_by-cons f x xs, none, front-sum f zero xs d none)
front-sum f (suc k) (x ∷ xs) d none =
    omega (arith, sum_by-cons f x (front k xs d), sum_by-cons f x xs, front-sum f k xs d none)

-- where an element of the list is replaced by a part of it
pub front-sum-room : {A : Type 0} (f : A → ℕ) (k w : ℕ) (xs : List A) (d y : A) → f d ≡ 0 → k < length xs
    → f y + w ≤ f (get_or xs k d) → sum_by f (set (front k xs d) k y) + w ≤ sum_by f xs
front-sum-room f k w xs d y none below part =
    let within : k < length (front k xs d) = omega (arith, length-front k xs d, below) in
    let first : f (get_or (front k xs d) k d) ≡ f d = ap f (front-new k k xs d d (omega arith) below) in
    let one = sum_by-set f (front k xs d) k y d within in
    let two = sum_by-set f (front k xs d) k (get_or xs k d) d within in
    let more = ap (sum_by f) (front-more k xs d d below) in
    omega (arith, first, one, two, more, none, part, front-sum f (suc k) xs d none)

-- a front and the next element of the list
pub front-sum-next : {A : Type 0} (f : A → ℕ) (k : ℕ) (xs : List A) (d : A) → f d ≡ 0 → k < length xs
    → sum_by f (front k xs d) + f (get_or xs k d) ≤ sum_by f xs
front-sum-next f k xs d none below =
    omega (
      arith,
      front-sum-room f k (f (get_or xs k d)) xs d d none below (omega (arith, none)),
      ap (sum_by f) (front-start k xs d below),
    )
