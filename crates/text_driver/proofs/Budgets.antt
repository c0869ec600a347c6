-- How many bytes may still be read, and what a partly read input determines.
use Rattle.std.proofs.Common.{◌≡◌, ℕ, ◌+◌, ◌<◌, List, [], ◌∷◌, ◌++◌, length, length-append, ap, arith, Option, None, Some}
use Rattle.std.specs.Option.{IfSome}
use Rattle.std.specs.Io.KnownBytes.{Consumes}
use Rattle.text_base.specs.Buffered.{Buffered}

-- A whole line was taken.
pub smaller : (old new : Buffered) (came : List ℕ) → old.waiting ++ came ≡ new.line ++ 10 ∷ new.waiting
    → length came + new.budget ≡ old.budget →
    length new.waiting + new.budget < length old.waiting + old.budget
smaller old new came split spent =
    omega (arith, ap length split, length-append old.waiting came, length-append new.line (10 ∷ new.waiting), spent)

pub less_left : (old new : Buffered) (past came : List ℕ)
    → length past + (length old.waiting + old.budget) ≡ 1073741824 →
    old.waiting ++ came ≡ new.line ++ 10 ∷ new.waiting → length came + new.budget ≡ old.budget
    → length (past ++ (new.line ++ 10 ∷ [])) + (length new.waiting + new.budget) ≡ 1073741824
less_left old new past came whole split spent = omega (
  arith,
  whole,
  spent,
  ap length split,
  length-append old.waiting came,
  length-append new.line (10 ∷ new.waiting),
  length-append past (new.line ++ 10 ∷ []),
  length-append new.line (10 ∷ []),
)

-- For every continuation of the input.
pub on-input : (r0 r1 : Option (List ℕ)) (taken : List ℕ) (P : List ℕ → Type 0) → Consumes r0 r1 taken
    → ((ys : List ℕ) → P (taken ++ ys)) → IfSome r0 P
on-input None r1 taken P reads h = tt
on-input (Some xs) None taken P reads h = absurd reads
on-input (Some xs) (Some ys) taken P reads h = rw reads (h ys)
