-- The lines of the numbers below a bound, when those of one number get one more line and no lines follow them.
use Rattle.std.proofs.Common.{◌≡◌, ◌≢◌, ◌⊎◌, inl, inr, ℕ, zero, suc, ◌<◌, List, [], ◌∷◌, ◌++◌, append_assoc, append-nil, refl, sym, ap, ◌∙◌, arith}
use Rattle.std.proofs.lemmas.Bool.{cases_eq}
use Rattle.text_image.specs.Image.{Lines, each_below}

-- a section of one line, or of none
pub each-one : (f : ℕ → Lines) → each_below 1 f ≡ f 0
unfolding each_below
each-one f = refl

pub each-same : (n : ℕ) (f g : ℕ → Lines) → ((j : ℕ) → j < n → g j ≡ f j) → each_below n g ≡ each_below n f
unfolding each_below
each-same zero f g h = refl
each-same (suc n) f g h =
    let first =
    each-same n f g (λ j below. h j (omega arith)) in let last = h n (omega arith) in (λ i. first i ++ last i)

pub each-empty : (n : ℕ) (f : ℕ → Lines) → ((j : ℕ) → j < n → f j ≡ []) → each_below n f ≡ []
unfolding each_below
each-empty zero f h = refl
each-empty (suc n) f h =
    let first =
    each-empty n f (λ j below. h j (omega arith)) in let last = h n (omega arith) in (λ i. first i ++ last i)

-- The lines of number k get one more line, those of the other numbers stay, and there are none after number k.
pub record Grows (n k : ℕ) (f g : ℕ → Lines) (x : List (List ℕ)) : Type 0 where
  pub within : k < n
  pub others : (j : ℕ) → j < n → j ≢ k → g j ≡ f j
  pub empty : (j : ℕ) → j < n → k < j → f j ≡ []
  pub here : g k ≡ f k ++ x ∷ []

pub each-grows : (n k : ℕ) (f g : ℕ → Lines) (x : List (List ℕ)) → Grows n k f g x
    → each_below n g ≡ each_below n f ++ x ∷ []
unfolding each_below
each-grows zero k f g x h = absurd (omega (arith, h.within))
each-grows (suc n) k f g x h = by (cases_eq k n) (λ within. each-grows n k f g x (record {
  within = within;
  others = λ j below. h.others j (omega arith);
  empty = λ j below. h.empty j (omega arith);
  here = h.here;
}))
  where
    by : (k ≡ n) ⊎ (k ≢ n) → (k < n → each_below n g ≡ each_below n f ++ x ∷ [])
        → each_below n g ++ g n ≡ (each_below n f ++ f n) ++ x ∷ []
    by (inl last) before =
        let same = each-same n f g (λ j below. h.others j (omega arith) (λ e. omega (arith, e, last))) in
        let added : g n ≡ f n ++ x ∷ [] = (λ i. g (sym last i)) ∙ h.here ∙ (λ i. f (last i) ++ x ∷ []) in
        (λ i. same i ++ added i) ∙ sym (append_assoc (each_below n f) (f n) (x ∷ []))
    by (inr other) before =
        let within = h.within in
        let more = before (omega arith) in
        let none = h.empty n (omega arith) (omega arith) in
        let still = h.others n (omega arith) (λ e. other (sym e)) ∙ none in
        (λ i. more i ++ still i) ∙ append-nil (each_below n f ++ x ∷ [])
        ∙ ap (λ (y : Lines). y ++ x ∷ [])
        (sym (append-nil (each_below n f)) ∙ ap (λ (y : Lines). each_below n f ++ y) (sym none))
