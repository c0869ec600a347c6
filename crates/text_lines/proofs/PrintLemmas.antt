-- Lines that are written one after another.
use Rattle.std.proofs.Common.{◌≡◌, ◌≤◌, ◌<◌, ℕ, ◌+◌, get_or, List, [], ◌∷◌, ◌++◌, length, drop, refl, sym, ap, ◌∙◌, append_assoc, append-nil}
use Rattle.std.proofs.lemmas.List.{drop_all, drop_more}
use Rattle.text_base.specs.Fields.{line_of}
use Rattle.text_lines.specs.Printing.{text_of, numbered}

pub text_of-append : (xs ys : List (List (List ℕ))) → text_of (xs ++ ys) ≡ text_of xs ++ text_of ys
text_of-append [] ys = refl
text_of-append (fields ∷ xs) ys =
    ap (λ (rest : List ℕ). line_of fields ++ rest) (text_of-append xs ys)
    ∙ sym (append_assoc (line_of fields) (text_of xs) (text_of ys))

-- the lines of one more item
pub numbered-step : {A : Type 0} (lines : ℕ → A → List (List (List ℕ))) (n : ℕ) (xs : List A) (d : A)
    (so_far next out : List ℕ) → n < length xs →
    next ≡ so_far ++ text_of (lines n (get_or xs n d)) → so_far ++ text_of (numbered lines n (drop n xs)) ≡ out
    → next ++ text_of (numbered lines (n + 1) (drop (n + 1) xs)) ≡ out
numbered-step lines n xs d so_far next out h here all =
    let rest = numbered lines (n + 1) (drop (n + 1) xs) in
    ap (λ (x : List ℕ). x ++ text_of rest) here
    ∙ append_assoc so_far (text_of (lines n (get_or xs n d))) (text_of rest)
    ∙ ap (λ (x : List ℕ). so_far ++ x) (sym (text_of-append (lines n (get_or xs n d)) rest))
    ∙ ap (λ (ys : List _). so_far ++ text_of (numbered lines n ys)) (sym (drop_more xs n d h))
    ∙ all

pub numbered-end : {A : Type 0} (lines : ℕ → A → List (List (List ℕ))) (n : ℕ) (xs : List A) (so_far out : List ℕ)
    → length xs ≤ n →
    so_far ++ text_of (numbered lines n (drop n xs)) ≡ out → so_far ≡ out
numbered-end lines n xs so_far out all h =
    sym (append-nil so_far) ∙ ap (λ (ys : List _). so_far ++ text_of (numbered lines n ys)) (sym (drop_all n xs all))
    ∙ h
