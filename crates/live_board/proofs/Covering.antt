-- The first overlay that is mapped at a page stays the first, unless it moves or another comes.
use Rattle.std.proofs.Common.{◌≡◌, ◌≢◌, ℕ, zero, suc, ◌+◌, ◌/◌, Bool, true, false, ◌==◌, List, [], ◌∷◌, length, set, nat_lt, None, Some, refl, sym, ap, ◌∙◌, arith, length-set}
use Rattle.std.specs.Prelude.{if◌then◌else◌, not}
use Rattle.std.specs.List.{position_or_len}
use Rattle.std.proofs.lemmas.Bool.Decides.{nat_tests}
use mathlib.Core.Bool.{cond}
use Rattle.gpa_space.specs.Space.{is_mapped_at, overlay_of}
use Rattle.live_board.specs.Hiding.{HidesOnlyWhatWasRefreshed}

not_there : (page x : ℕ) → x / 4096 ≢ page → is_mapped_at page x ≡ false
not_there page x n = let b : (x / 4096 == page) ≡ false = grind (arith, nat_tests) in grind (arith, nat_tests)

same-first : (f : ℕ → Bool) (xs : List ℕ) (k v : ℕ) → f v ≡ false → position_or_len f xs ≢ k
    → position_or_len f (set xs k v) ≡ position_or_len f xs
same-first f [] k v off other = refl
same-first f (x ∷ xs) zero v off other = by (f x) refl
  where
    by : (b : Bool) → f x ≡ b → position_or_len f (v ∷ xs) ≡ position_or_len f (x ∷ xs)
    by true e = absurd (other (ap (λ c. cond (not c) (1 + position_or_len f xs) 0) e))
    by false e = ap (λ c. cond (not c) (1 + position_or_len f xs) 0) (off ∙ sym e)
same-first f (x ∷ xs) (suc k) v off other = by (same-first f xs k v off) (f x) refl
  where
    by : (position_or_len f xs ≢ k → position_or_len f (set xs k v) ≡ position_or_len f xs) → (b : Bool) → f x ≡ b
        → position_or_len f (x ∷ set xs k v) ≡ position_or_len f (x ∷ xs)
    by rest true e = ap (λ c. cond (not c) (1 + position_or_len f (set xs k v)) 0) e
        ∙ sym (ap (λ c. cond (not c) (1 + position_or_len f xs) 0) e)
    by rest false e = ap (λ c. cond (not c) (1 + position_or_len f (set xs k v)) 0) e
        ∙ ap (λ n. 1 + n) (rest
        (λ at. other (ap (λ c. cond (not c) (1 + position_or_len f xs) 0) e ∙ ap (λ n. 1 + n) at
        ∙ (let one : 1 + k ≡ suc k = omega arith in one))))
        ∙ sym (ap (λ c. cond (not c) (1 + position_or_len f xs) 0) e)

first-is : (n l o : ℕ) → (if nat_lt n l then Some n else None) ≡ Some o → n ≡ o
first-is n l o = by (nat_lt n l)
  where
    by : (b : Bool) → (if b then Some n else None) ≡ Some o → n ≡ o
    by true e = cc
    by false e = absurd (cc)

pub hides_only : HidesOnlyWhatWasRefreshed
hides_only s p k value page o is other apart =
    let f = is_mapped_at page in
    let first : position_or_len f s.registers ≡ o = first-is _ (length s.registers) o is in
    let same = same-first f s.registers (overlay_of p k) value (not_there page value (λ e. apart (sym e)))
    (λ e. other (sym first ∙ e)) in
    (λ i. cond (nat_lt (same i) (length-set s.registers (overlay_of p k) value i)) (Some (same i)) None) ∙ is
