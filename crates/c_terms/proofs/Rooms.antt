-- More items after those at the front of a buffer.
use Rattle.std.proofs.Common.{◌≡◌, ℕ, ◌+◌, ◌-◌, ◌<◌, ◌≤◌, List, [], ◌∷◌, ◌++◌, length, take, drop, set, ap, ◌∙◌, refl, arith, ⊎_elim, length-append}
use Rattle.std.specs.Prelude.{slice_get, nat_lt, if◌then◌else◌}
use Rattle.std.proofs.lemmas.Bool.{cases_lt}
use Rattle.std.proofs.lemmas.Bool.Decides.{nat_tests}
use Rattle.std.proofs.lemmas.Grind.{common_steps}
use Rattle.std.proofs.lemmas.List.{append-nil, drop_all, length-drop, length-take-le}
use Rattle.std.proofs.lemmas.Option.{gets}
use borrow.Rule.Slice.PartMut.{put_mid}
use Rattle.c_terms.specs.Rooms.{Fronts}

-- an item after the first n
at_back : {A : Type 0} (xs ys : List A) (n i : ℕ) → length xs ≡ n → n ≤ i
    → slice_get (xs ++ ys) i ≡ slice_get ys (i - n)
at_back xs ys n i len ge = grind (arith, common_steps, gets)

at_drop : {A : Type 0} (xs : List A) (n i : ℕ) → n ≤ i → slice_get (drop n xs) (i - n) ≡ slice_get xs i
at_drop xs n i ge = grind (arith, common_steps, gets)

-- no items at the front of an unchanged buffer
pub fronts_none : {A : Type 0} (a : List A) → Fronts [] a a
fronts_none a = record { many = refl; each = λ i within. grind (arith, nat_tests) }

-- one more item is written after those at the front
pub fronts_push : {A : Type 0} (xs : List A) (x : A) (b a : List A) (n : ℕ) → Fronts xs b a → length xs ≡ n
    → n < length a → Fronts (xs ++ x ∷ []) b (set a n x)
fronts_push xs x b a n h len lt =
    record {
      many = grind (arith, common_steps);
      each = λ i within. grind (arith, common_steps, gets, nat_tests, h.each i within);
    }

-- several items are copied to the front of the rest of the buffer
pub fronts_more : {A : Type 0} (xs ms b a rest : List A) (n : ℕ) → Fronts xs b a → Fronts ms (drop n a) rest
    → length xs ≡ n → n ≤ length a → Fronts (xs ++ ms) b (take n a ++ rest)
fronts_more xs ms b a rest n h m len le =
    record {
      many = grind (arith, common_steps);
      each = λ i within. ⊎_elim (front i within) (view_of i within) (cases_lt i n);
    }
  where
    front : (i : ℕ) → i < length b → i < n
        → slice_get (take n a ++ rest) i
        ≡ (if nat_lt i (length (xs ++ ms)) then slice_get (xs ++ ms) i else slice_get b i)
    front i within lt = grind (arith, common_steps, gets, nat_tests, h.each i within)

    view_of : (i : ℕ) → i < length b → n ≤ i
        → slice_get (take n a ++ rest) i
        ≡ (if nat_lt i (length (xs ++ ms)) then slice_get (xs ++ ms) i else slice_get b i)
    view_of i within ge =
        let bound : i - n < length (drop n a) = grind (arith, common_steps) in
        let old : slice_get (drop n a) (i - n) ≡ slice_get a i = at_drop a n i ge in
        let new : slice_get (xs ++ ms) i ≡ slice_get ms (i - n) = at_back xs ms n i len ge in
        let many : length (xs ++ ms) ≡ n + length ms = length-append xs ms ∙ ap (λ k. k + length ms) len in
        let own = h.each i within in
        let more = m.each (i - n) bound in
        at_back (take n a) rest n i (length-take-le n a le) ge ∙ grind (arith, nat_tests)

-- the buffer after a write to its rest
pub put_rest : {A : Type 0} (a rest : List A) (n : ℕ) → put_mid n (length a - n) a rest ≡ take n a ++ rest
put_rest a rest n =
    ap (λ r. take n a ++ (rest ++ r)) (drop_all (length a - n) (drop n a) (omega (arith, length-drop n a)))
    ∙ ap (λ r. take n a ++ r) (append-nil rest)
