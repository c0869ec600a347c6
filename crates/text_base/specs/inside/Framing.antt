-- What an output is to the calls that know it as a sink only.
use Rattle.std.specs.Prelude.{ℕ, suc, List, [], ◌∷◌, ◌++◌, length, Option, None, Some}

-- one list that has the reference, what the stream held at first, and the text
abbrev pub framed : ℕ → Option (List ℕ) → List ℕ → List ℕ
framed name None text = name ∷ 0 ∷ text
framed name (Some bytes) text = name ∷ suc (length bytes) ∷ (bytes ++ text)

-- what the first writer of a list holds
abbrev pub first_contents : {W : Type 0} → (W → Option (List ℕ)) → List W → Option (List ℕ)
first_contents contents [] = None
first_contents contents (writer ∷ writers) = contents writer
