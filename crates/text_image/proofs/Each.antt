-- The lines of the numbers below a bound, written one after another.
use Rattle.std.proofs.Common.{◌≡◌, ℕ, suc, ◌+◌, List, ◌++◌, append_assoc, append-nil, sym, ap, ◌∙◌, arith}
use Rattle.text_lines.specs.Printing.{text_of}
use Rattle.text_lines.proofs.PrintLemmas.{text_of-append}
use Rattle.text_image.specs.Image.{Lines, each_below}

-- no number yet
pub each-none : (lines : ℕ → Lines) (out : List ℕ) → out ≡ out ++ text_of (each_below 0 lines)
unfolding each_below
each-none lines out = sym (append-nil out)

more : (lines : ℕ → Lines) (n : ℕ) → each_below (n + 1) lines ≡ each_below n lines ++ lines n
unfolding each_below
more lines n = let one : n + 1 ≡ suc n = omega arith in ap (λ (m : ℕ). each_below m lines) one

-- one more number
pub each-step : (lines : ℕ → Lines) (n k : ℕ) (start so_far next : List ℕ)
    → so_far ≡ start ++ text_of (each_below n lines) → k ≡ n → next ≡ so_far ++ text_of (lines k) →
    next ≡ start ++ text_of (each_below (n + 1) lines)
each-step lines n k start so_far next before same here =
    here
    ∙ ap (λ (x : List ℕ). x ++ text_of (lines k)) before
    ∙ append_assoc start (text_of (each_below n lines)) (text_of (lines k))
    ∙ ap (λ (x : List ℕ). start ++ x)
    (sym (text_of-append (each_below n lines) (lines k))
    ∙ ap (λ (m : ℕ). text_of (each_below n lines ++ lines m)) same ∙ sym (ap text_of (more lines n)))
