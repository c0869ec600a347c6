-- Calls that all return the same value build a list of it.
use Rattle.std.proofs.Common.{◌≡◌, ℕ, List, [], ◌∷◌, length, replicate, refl, sym, ap, ◌∙◌}
use Rattle.std.specs.List.{FoldsTo, AppendsResults}

folded : {F X : Type 0} (step : F → X → F → Type 0) (one : X) → ((p : F) (x : X) (q : F) → step p x q → x ≡ one)
    → (p : F) (xs : List X) (q : F) → FoldsTo step p xs q → xs ≡ replicate (length xs) one
folded step one each p [] q h = refl
folded step one each p (x ∷ xs) q h = λ i. each p x h.0 h.1 i ∷ folded step one each h.0 xs q h.2 i

pub repeated : {F X : Type 0} (step : F → X → F → Type 0) (one : X) → ((p : F) (x : X) (q : F) → step p x q → x ≡ one)
    → (xs : List X) (f : F) (n : ℕ) →
    AppendsResults step [] xs f → length xs ≡ n → xs ≡ replicate n one
repeated step one each xs f n made long =
    made.2 ∙ folded step one each f made.0 made.1 made.3 ∙ ap (λ k. replicate k one) (sym (ap length made.2) ∙ long)
