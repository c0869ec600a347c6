-- The rows of actors, as the history grows.
use Rattle.std.proofs.Common.{◌≡◌, ℕ, zero, suc, ◌+◌, ◌<◌, Bool, true, false, List, [], ◌∷◌, ◌++◌, length, All, map, take, get_or, cond, refl, sym, ap, ◌∙◌, arith, set}
use Rattle.std.specs.Prelude.{◌==◌, filter}
use Rattle.std.specs.List.{range_with_len}
use Rattle.std.proofs.lemmas.Bool.Decides.{nat_tests}
use Rattle.std.proofs.lemmas.List.{append-nil}
use Rattle.std.proofs.lemmas.List.Elements.{All-append, All-head, All-tail, filter-append}
use mathlib.Core.List.{map-append}
use mathlib.Core.Option.{some, some-injective, some-ne-none}
use lib.ListN.{get_elem?}
use Rattle.synic_board.specs.declared.history.Entry.{Entry}
use Rattle.ghost_history.specs.Rows.{Row, row}
use Rattle.actor_calls.proofs.Taking.{taken-on}
use Rattle.shared_board.specs.Calling.{Calling, Said, said_to}
use Rattle.shared_board.specs.inside.Rostered.{rows_of}

abbrev is_by : ℕ → Said → Bool
is_by n e = n == e.0

pub said_to-append : (n : ℕ) (xs ys : List Said) → said_to n (xs ++ ys) ≡ said_to n xs ++ said_to n ys
said_to-append n xs ys =
    ap (map (λ (x : Said). x.1)) (filter-append (is_by n) xs ys)
    ∙ map-append (λ (x : Said). x.1) (filter (is_by n) xs) (filter (is_by n) ys)

-- one more answer joins those to its actor, and to no other
by_test : (n : ℕ) (e : Said) (b : Bool) → is_by n e ≡ b → filter (is_by n) (e ∷ []) ≡ cond b (e ∷ []) []
by_test n e b is = ap (λ (c : Bool). cond c (e ∷ []) []) is

own-push : (n : ℕ) (h : List Said) (e : Said) → e.0 ≡ n → said_to n (h ++ e ∷ []) ≡ said_to n h ++ e.1 ∷ []
own-push n h e is =
    said_to-append n h (e ∷ [])
    ∙ ap (λ l. said_to n h ++ map (λ (x : Said). x.1) l) (by_test n e true (grind (arith, nat_tests)))

other-push : (n : ℕ) (h : List Said) (e : Said) → is_by n e ≡ false → said_to n (h ++ e ∷ []) ≡ said_to n h
other-push n h e is =
    said_to-append n h (e ∷ []) ∙ ap (λ l. said_to n h ++ map (λ (x : Said). x.1) l) (by_test n e false is)
    ∙ append-nil (said_to n h)

-- the rows of n actors from a on
abbrev rows_from : ℕ → ℕ → List Said → List Row
rows_from a n h = map (λ k. row k (said_to k h)) (range_with_len a n)

row-at : (a n k : ℕ) (h : List Said) (x : Row) → get_elem? (rows_from a n h) k ≡ some x → (k < n)
    × (x ≡ row (a + k) (said_to (a + k) h))
row-at a zero k h x at = absurd (some-ne-none x (sym at))
row-at a (suc n) zero h x at =
    let same : a ≡ a + 0 = omega arith in
    (omega arith, sym (some-injective (row a (said_to a h)) x at) ∙ ap (λ m. row m (said_to m h)) same)
row-at a (suc n) (suc k) h x at =
    let r = row-at (a + 1) n k h x at in
    let same : a + 1 + k ≡ a + suc k = omega arith in
    let inside : k < n = r.0 in
    (omega arith, r.1 ∙ ap (λ m. row m (said_to m h)) same)

-- the row at an index is that actor's
pub row-of : (n k : ℕ) (h : List Said) (x : Row) → get_elem? (rows_of n h) k ≡ some x → (k < n)
    × (x ≡ row k (said_to k h))
row-of n k h x at =
    let r = row-at 0 n k h x at in
    let same : 0 + k ≡ k = omega arith in
    (r.0, r.1 ∙ ap (λ m. row m (said_to m h)) same)

-- an entry of an actor below leaves the rows
later : (a n : ℕ) (h : List Said) (e : Said) → e.0 < a → rows_from a n h ≡ rows_from a n (h ++ e ∷ [])
later a zero h e below = refl
later a (suc n) h e below =
    let same : said_to a h ≡ said_to a (h ++ e ∷ []) = sym (other-push a h e (grind (arith, nat_tests))) in
    let rest = later (a + 1) n h e (omega arith) in
    λ i. row a (same i) ∷ rest i

set-from : (a n k : ℕ) (h : List Said) (e : Said) → k < n → e.0 ≡ a + k
    → set (rows_from a n h) k (row (a + k) (said_to (a + k) h ++ e.1 ∷ [])) ≡ rows_from a n (h ++ e ∷ [])
set-from a zero k h e inside is = absurd (omega arith)
set-from a (suc n) zero h e inside is =
    let here : a + 0 ≡ a = omega arith in
    let first : row (a + 0) (said_to (a + 0) h ++ e.1 ∷ []) ≡ row a (said_to a (h ++ e ∷ [])) =
    ap (λ m. row m (said_to m h ++ e.1 ∷ [])) here ∙ ap (row a) (sym (own-push a h e (omega arith))) in
    let rest = later (a + 1) n h e (omega arith) in
    λ i. first i ∷ rest i
set-from a (suc n) (suc k) h e inside is =
    let here : a + suc k ≡ a + 1 + k = omega arith in
    let same : said_to a h ≡ said_to a (h ++ e ∷ []) = sym (other-push a h e (grind (arith, nat_tests))) in
    let rest = ap (λ m. set (rows_from (a + 1) n h) k (row m (said_to m h ++ e.1 ∷ []))) here
    ∙ set-from (a + 1) n k h e (omega arith) (omega arith) in
    λ i. row a (same i) ∷ rest i

-- one more entry changes the row of its actor alone
pub rows-push : (n k : ℕ) (h : List Said) (e : Said) → k < n → e.0 ≡ k
    → set (rows_of n h) k (row k (said_to k h ++ e.1 ∷ [])) ≡ rows_of n (h ++ e ∷ [])
rows-push n k h e inside is =
    let here : k ≡ 0 + k = omega arith in
    ap (λ m. set (rows_of n h) k (row m (said_to m h ++ e.1 ∷ []))) here ∙ set-from 0 n k h e inside (omega arith)

-- an actor above all others has no entry
none-by : (n : ℕ) (h : List Said) → All (λ (e : Said). e.0 < n) h → said_to n h ≡ []
none-by n [] all = refl
none-by n (e ∷ h) all =
    let below : e.0 < n = All-head (λ (x : Said). x.0 < n) e h all in
    let not : is_by n e ≡ false = grind (arith, nat_tests) in
    ap (λ (c : Bool). map (λ (x : Said). x.1) (cond c (e ∷ filter (is_by n) h) (filter (is_by n) h))) not
    ∙ none-by n h (All-tail (λ (x : Said). x.0 < n) e h all)

more-from : (a n : ℕ) (h : List Said) → said_to (a + n) h ≡ []
    → rows_from a n h ++ row (a + n) [] ∷ [] ≡ rows_from a (suc n) h
more-from a zero h none =
    let here : a + 0 ≡ a = omega arith in
    let first : row (a + 0) [] ≡ row a (said_to a h) =
    ap (row (a + 0)) (sym none) ∙ ap (λ m. row m (said_to m h)) here in
    λ i. first i ∷ []
more-from a (suc n) h none =
    let here : a + suc n ≡ a + 1 + n = omega arith in
    let rest = ap (λ m. rows_from (a + 1) n h ++ row m [] ∷ []) here
    ∙ more-from (a + 1) n h (ap (λ m. said_to m h) (sym here) ∙ none) in
    ap (λ l. row a (said_to a h) ∷ l) rest

-- one more actor has a row without entries
pub rows-more : (n : ℕ) (h : List Said) → All (λ (e : Said). e.0 < n) h
    → rows_of n h ++ row n [] ∷ [] ≡ rows_of (n + 1) h
rows-more n h all =
    let here : n ≡ 0 + n = omega arith in
    let one : suc n ≡ n + 1 = omega arith in
    ap (λ m. rows_of n h ++ row m [] ∷ []) here
    ∙ more-from 0 n h (ap (λ m. said_to m h) (sym here) ∙ none-by n h all) ∙ ap (λ m. rows_of m h) one

pub all-push : (n : ℕ) (h : List Entry) (e : Entry) → All (λ (x : Entry). x.actor < n) h → e.actor < n
    → All (λ (x : Entry). x.actor < n) (h ++ e ∷ [])
all-push n h e all below = All-append (λ (x : Entry). x.actor < n) h (e ∷ []) all one
  where
    one : All (λ (x : Entry). x.actor < n) (e ∷ [])
    one zero d inside = below
    one (suc k) d inside = absurd (omega arith)

pub all-more : (n : ℕ) (h : List Entry) → All (λ (x : Entry). x.actor < n) h → All (λ (x : Entry). x.actor < n + 1) h
all-more n h all = λ k d inside. let below = all k d inside in omega arith

range-more : (a n : ℕ) → range_with_len a (n + 1) ≡ range_with_len a n ++ (a + n) ∷ []
range-more a zero = let here : a ≡ a + 0 = omega arith in ap (λ m. m ∷ []) here
range-more a (suc n) =
    let more : suc n + 1 ≡ suc (n + 1) = omega arith in
    let here : a + 1 + n ≡ a + suc n = omega arith in
    ap (range_with_len a) more
    ∙ ap (λ l. a ∷ l) (range-more (a + 1) n ∙ ap (λ m. range_with_len (a + 1) n ++ m ∷ []) here)

-- one more actor with the next number
pub numbered : (actors : List Calling) (n : ℕ) (a : Calling) → n < length actors → a ≡ get_or actors n a
    → a.number ≡ n → map (λ (x : Calling). x.number) (take n actors) ≡ range_with_len 0 n
    → map (λ (x : Calling). x.number) (take (n + 1) actors) ≡ range_with_len 0 (n + 1)
numbered actors n a inside at is so =
    let here : n ≡ 0 + n = omega arith in
    ap (map (λ (x : Calling). x.number)) (taken-on actors n a inside at)
    ∙ map-append (λ (x : Calling). x.number) (take n actors) (a ∷ [])
    ∙ (λ i. so i ++ (is ∙ here) i ∷ []) ∙ sym (range-more 0 n)
