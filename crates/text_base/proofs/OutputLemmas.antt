-- Reading what a stream held at first, and the text, from one list.
use Rattle.std.proofs.Common.{◌≡◌, ℕ, suc, List, [], ◌∷◌, ◌++◌, length, refl, ap, append_assoc, arith}
use Rattle.std.specs.Prelude.{Option, None, Some}
use Rattle.text_base.specs.inside.Framing.{framed}

-- two lists of which the first parts are as long
parts-same : (a b x y : List ℕ) → length a ≡ length b → a ++ x ≡ b ++ y → (a ≡ b) × (x ≡ y)
parts-same [] [] x y n e = (refl, e)
parts-same [] (d ∷ b) x y n e = absurd (omega arith)
parts-same (c ∷ a) [] x y n e = absurd (omega arith)
parts-same (c ∷ a) (d ∷ b) x y n e =
    let head : c ≡ d = cc in
    let tail : a ++ x ≡ b ++ y = cc in
    let rest = parts-same a b x y (omega arith) tail in
    ((λ i. head i ∷ rest.0 i), rest.1)

-- the reference, what the stream held at first, and the text
pub record Same (m n : ℕ) (a b : Option (List ℕ)) (x y : List ℕ) : Type 0 where
  pub name : m ≡ n
  pub start : a ≡ b
  pub text : x ≡ y

pub framed-same : (m n : ℕ) (a b : Option (List ℕ)) (x y : List ℕ) → framed m a x ≡ framed n b y → Same m n a b x y
framed-same m n None None x y e = record { name = cc; start = refl; text = cc }
framed-same m n None (Some ys) x y e = absurd (cc)
framed-same m n (Some xs) None x y e = absurd (cc)
framed-same m n (Some xs) (Some ys) x y e =
    let long : suc (length xs) ≡ suc (length ys) = cc in
    let text : xs ++ x ≡ ys ++ y = cc in
    let both = parts-same xs ys x y (omega arith) text in
    record { name = cc; start = ap Some both.0; text = both.1 }

pub framed-more : (name : ℕ) (start : Option (List ℕ)) (text more : List ℕ)
    → framed name start text ++ more ≡ framed name start (text ++ more)
framed-more name None text more = refl
framed-more name (Some bytes) text more = simp append_assoc
