-- The tokens of new words: all but the last one are kept to be split off.
use Rattle.std.proofs.Common.{◌≡◌, ℕ, zero, suc, ◌+◌, List, [], ◌∷◌, ◌++◌, replicate, length, length-append, refl, sym, ap, ◌∙◌, arith}
use Rattle.std.proofs.lemmas.List.{length-replicate, replicate-append-replicate}

module _ {A : Type 0} where
  last-replicate : (ys : List A) (x t : A) (n : ℕ) → ys ++ x ∷ [] ≡ replicate (suc n) t → (ys ≡ replicate n t) × (x ≡ t)
  last-replicate [] x t zero e = (refl, cc)
  last-replicate [] x t (suc n) e = absurd (cc)
  last-replicate (y ∷ ys) x t zero e = absurd (omega (arith, ap length e, length-append ys (x ∷ [])))
  last-replicate (y ∷ ys) x t (suc n) e =
      let tail : ys ++ x ∷ [] ≡ replicate (suc n) t = cc in
      let head : y ≡ t = cc in
      let r = last-replicate ys x t n tail in
      ((λ i. head i ∷ r.0 i), r.1)

  pub kept : (first whole rest all : List A) (x t : A) (m n k : ℕ) → first ≡ replicate m t → whole ≡ replicate k t
      → k ≡ suc n → whole ≡ rest ++ x ∷ [] → all ≡ first ++ rest →
      (all ≡ replicate (m + n) t) × (x ≡ t)
  kept first whole rest all x t m n k some others more split joined =
      let r = last-replicate rest x t n (sym split ∙ others ∙ ap (λ j. replicate j t) more) in
      (joined ∙ (λ i. some i ++ r.0 i) ∙ replicate-append-replicate m n t, r.1)

  pub as-many : (all : List A) (t : A) (n : ℕ) → all ≡ replicate n t → all ≡ replicate (length all) t
  as-many all t n e = e ∙ ap (λ j. replicate j t) (sym (ap length e ∙ length-replicate n t))
