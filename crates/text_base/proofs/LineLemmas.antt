-- The lines of a growing text.
use Rattle.std.proofs.Common.{◌≡◌, ◌≢◌, ℕ, List, [], ◌∷◌, ◌++◌, append_assoc, cond, eqb, Bool, true, false, refl, sym, ap, ◌∙◌, ne_eqb, eq-eqb, eqb-true}
use Rattle.text_base.specs.Lines.{lines_of, rest_of, onto_lines, onto_rest, joined, IsOneLine}

pub lines_of-line : (xs ys : List ℕ) → IsOneLine xs → lines_of (xs ++ 10 ∷ ys) ≡ xs ∷ lines_of ys
lines_of-line [] ys h = refl
lines_of-line (x ∷ xs) ys h = rw (ne_eqb x 10 h.0, lines_of-line xs ys h.1) refl

pub rest_of-line : (xs ys : List ℕ) → IsOneLine xs → rest_of (xs ++ 10 ∷ ys) ≡ rest_of ys
rest_of-line [] ys h = refl
rest_of-line (x ∷ xs) ys h = rw (ne_eqb x 10 h.0, lines_of-line xs ys h.1, rest_of-line xs ys h.1) refl

-- a line that continues
abbrev pub before_lines : List ℕ → List (List ℕ) → List (List ℕ)
before_lines xs [] = []
before_lines xs (line ∷ lines) = (xs ++ line) ∷ lines

abbrev pub before_rest : List ℕ → List (List ℕ) → List ℕ → List ℕ
before_rest xs [] rest = xs ++ rest
before_rest xs (line ∷ lines) rest = rest

onto_before : (x : ℕ) (xs : List ℕ) (ls : List (List ℕ)) → onto_lines x (before_lines xs ls) ≡ before_lines (x ∷ xs) ls
onto_before x xs [] = refl
onto_before x xs (l ∷ ls) = refl

onto_before_rest : (x : ℕ) (xs : List ℕ) (ls : List (List ℕ)) (rest : List ℕ)
    → onto_rest x (before_lines xs ls) (before_rest xs ls rest) ≡ before_rest (x ∷ xs) ls rest
onto_before_rest x xs [] rest = refl
onto_before_rest x xs (l ∷ ls) rest = refl

before_nil : (ls : List (List ℕ)) → ls ≡ before_lines [] ls
before_nil [] = refl
before_nil (l ∷ ls) = refl

before_rest_nil : (ls : List (List ℕ)) (rest : List ℕ) → rest ≡ before_rest [] ls rest
before_rest_nil [] rest = refl
before_rest_nil (l ∷ ls) rest = refl

pub lines_of-more : (xs ys : List ℕ) → IsOneLine xs → lines_of (xs ++ ys) ≡ before_lines xs (lines_of ys)
lines_of-more [] ys h = before_nil (lines_of ys)
lines_of-more (x ∷ xs) ys h = rw (ne_eqb x 10 h.0, lines_of-more xs ys h.1) (onto_before x xs (lines_of ys))

pub rest_of-more : (xs ys : List ℕ) → IsOneLine xs → rest_of (xs ++ ys) ≡ before_rest xs (lines_of ys) (rest_of ys)
rest_of-more [] ys h = before_rest_nil (lines_of ys) (rest_of ys)
rest_of-more (x ∷ xs) ys h =
    rw (ne_eqb x 10 h.0, lines_of-more xs ys h.1, rest_of-more xs ys h.1)
    (onto_before_rest x xs (lines_of ys) (rest_of ys))

pub lines_of-rest : (xs : List ℕ) → IsOneLine xs → lines_of xs ≡ []
lines_of-rest [] h = refl
lines_of-rest (x ∷ xs) h = rw (ne_eqb x 10 h.0, lines_of-rest xs h.1) refl

pub rest_of-rest : (xs : List ℕ) → IsOneLine xs → rest_of xs ≡ xs
rest_of-rest [] h = refl
rest_of-rest (x ∷ xs) h = rw (ne_eqb x 10 h.0, lines_of-rest xs h.1, rest_of-rest xs h.1) refl

-- none of the lines has a line feed
abbrev pub AreLines : List (List ℕ) → Type 0
AreLines [] = Unit {0}
AreLines (line ∷ lines) = IsOneLine line × AreLines lines

pub lines-append : (lines more : List (List ℕ)) → AreLines lines → AreLines more → AreLines (lines ++ more)
lines-append [] more h k = k
lines-append (l ∷ lines) more h k = (h.0, lines-append lines more h.1 k)

pub lines-front : (lines more : List (List ℕ)) → AreLines (lines ++ more) → AreLines lines
lines-front [] more h = tt
lines-front (l ∷ lines) more h = (h.0, lines-front lines more h.1)

pub lines-behind : (lines more : List (List ℕ)) → AreLines (lines ++ more) → AreLines more
lines-behind [] more h = h
lines-behind (l ∷ lines) more h = lines-behind lines more h.1

pub joined-append : (xs ys : List (List ℕ)) → joined (xs ++ ys) ≡ joined xs ++ joined ys
joined-append [] ys = refl
joined-append (x ∷ xs) ys =
    ap (λ (z : List ℕ). x ++ 10 ∷ z) (joined-append xs ys) ∙ sym (append_assoc x (10 ∷ joined xs) (joined ys))

pub joined-snoc : (lines : List (List ℕ)) (line ys : List ℕ)
    → joined (lines ++ line ∷ []) ++ ys ≡ joined lines ++ (line ++ 10 ∷ ys)
joined-snoc lines line ys =
    ap (λ (x : List ℕ). x ++ ys) (joined-append lines (line ∷ [])) ∙ append_assoc (joined lines) (line ++ 10 ∷ []) ys
    ∙ ap (λ (x : List ℕ). joined lines ++ x) (append_assoc line (10 ∷ []) ys)

pub lines_of-joined : (lines : List (List ℕ)) (ys : List ℕ) → AreLines lines
    → lines_of (joined lines ++ ys) ≡ lines ++ lines_of ys
lines_of-joined [] ys h = refl
lines_of-joined (l ∷ lines) ys h =
    ap lines_of (append_assoc l (10 ∷ joined lines) ys) ∙ lines_of-line l (joined lines ++ ys) h.0
    ∙ ap (λ (x : List (List ℕ)). l ∷ x) (lines_of-joined lines ys h.1)

pub rest_of-joined : (lines : List (List ℕ)) (ys : List ℕ) → AreLines lines → rest_of (joined lines ++ ys) ≡ rest_of ys
rest_of-joined [] ys h = refl
rest_of-joined (l ∷ lines) ys h =
    ap rest_of (append_assoc l (10 ∷ joined lines) ys) ∙ rest_of-line l (joined lines ++ ys) h.0
    ∙ rest_of-joined lines ys h.1

-- a text is its lines, and the rest after the last line feed
pub record IsCut (text : List ℕ) (lines : List (List ℕ)) (rest : List ℕ) : Type 0 where
  pub each : AreLines lines
  pub one : IsOneLine rest
  pub whole : text ≡ joined lines ++ rest

cut-more : (b : ℕ) (text : List ℕ) (lines : List (List ℕ)) (rest : List ℕ) → b ≢ 10 → IsCut text lines rest
    → IsCut (b ∷ text) (onto_lines b lines) (onto_rest b lines rest)
cut-more b text [] rest other h = record { each = tt; one = (other, h.one); whole = ap (λ (x : List ℕ). b ∷ x) h.whole }
cut-more b text (l ∷ lines) rest other h =
    record { each = ((other, h.each.0), h.each.1); one = h.one; whole = ap (λ (x : List ℕ). b ∷ x) h.whole }

pub cut : (text : List ℕ) → IsCut text (lines_of text) (rest_of text)
cut [] = record { each = tt; one = tt; whole = refl }
cut (b ∷ text) = by (eqb b 10) refl (cut text)
  where
    by : (feed : Bool) → eqb b 10 ≡ feed → IsCut text (lines_of text) (rest_of text) →
        IsCut (b ∷ text) (cond feed ([] ∷ lines_of text) (onto_lines b (lines_of text)))
        (cond feed (rest_of text) (onto_rest b (lines_of text) (rest_of text)))
    by true e h =
        record {
          each = (tt, h.each);
          one = h.one;
          whole = ap (λ (x : ℕ). x ∷ text) (eqb-true b 10 e) ∙ ap (λ (x : List ℕ). 10 ∷ x) h.whole;
        }
    by false e h = cut-more b text (lines_of text) (rest_of text) (λ is. let yes = eq-eqb b 10 is in cc) h
