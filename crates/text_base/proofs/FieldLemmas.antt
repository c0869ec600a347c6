-- The fields of a text.
use Rattle.std.proofs.Common.{◌≡◌, ◌≢◌, ◌<◌, subst, ne_eqb, ◌+◌, ◌-◌, ◌∷◌, ◌++◌, ◌≤◌, [], ℕ, List}
use Rattle.std.proofs.Common.{Option, None, Some, Bool, nat_eq, false, true, cond, take, drop, length, get_or, arith, sym, ap, ◌∙◌, drop-cons, suc, refl}
use native.Mathlib.Numerals.{unary_clauses}
use Rattle.std.specs.Fmt.{digits}
use Rattle.std.specs.List.{All, onto_first}
use Rattle.std.proofs.lemmas.List.{take_all, length-drop, length-take, take-append-drop}
use Rattle.std.proofs.Math.Seq.{take-append_seam, get_or-append_seam}
use Rattle.std.proofs.lemmas.List.Splits.{slice_split_at, join_with_byte-slice_split}
use Rattle.std.proofs.lemmas.List.Elements.{All-nil, All-cons}
use Rattle.text_base.specs.Fields.{fields_of, spaced}
use Rattle.text_base.specs.Numbers.{spelled, two_digits, byte_at, AreBytes}
use Rattle.text_base.specs.inside.Parsing.{IsFront, IsBytesFront, IsBytesField, HasNoSpace}
use Rattle.text_base.proofs.NumberLemmas.{byte_at-only}
use Rattle.text_base.proofs.PlainWords.{IsPlain, digits-plain, spelled-plain}

pub at_space : (text : List ℕ) (i : ℕ) → i < length text → All (λ (x : ℕ). nat_eq x 32 ≡ false) (take i text)
    → get_or text i 0 ≡ 32 →
    fields_of text ≡ take i text ∷ fields_of (take (length text - (i + 1)) (drop (i + 1) text))
at_space text i within others space =
    let rest = take_all (length text - (i + 1)) (drop (i + 1) text) (omega (arith, length-drop (i + 1) text)) in
    let here : drop i text ≡ 32 ∷ drop (i + 1) text =
    rw (drop-cons text i 0) (simp unary_clauses (ap (λ (x : ℕ). x ∷ drop (suc i) text) space)) in
    let whole : text ≡ take i text ++ 32 ∷ drop (i + 1) text =
    sym (take-append-drop i text) ∙ ap (λ (r : List ℕ). take i text ++ r) here in
    rw rest (ap fields_of whole ∙ slice_split_at (λ b. nat_eq b 32) (take i text) 32 (drop (i + 1) text) others refl)

no_spaces : (text : List ℕ) → IsPlain text → HasNoSpace text
no_spaces [] h = All-nil (λ (x : ℕ). nat_eq x 32 ≡ false)
no_spaces (x ∷ xs) h =
    All-cons (λ (x : ℕ). nat_eq x 32 ≡ false) x xs (ne_eqb x 32 (λ e. let low = h.0 in omega arith)) (no_spaces xs h.1)

-- no space is in a number
pub number-no_space : (text : List ℕ) (base n count : ℕ) → IsFront base text n count → HasNoSpace (take count text)
number-no_space text base n count front =
    subst HasNoSpace (sym front.1) (no_spaces (digits base false n) (digits-plain base n))

-- nor in bytes of two digits each
pub bytes-no_space : (text bytes : List ℕ) (count : ℕ) → IsBytesFront text bytes count → HasNoSpace (take count text)
bytes-no_space text bytes count front = subst HasNoSpace (sym front.1) (no_spaces (spelled bytes) (spelled-plain bytes))

onto_some : (x : ℕ) (ps : List (List ℕ)) → onto_first x ps ≢ []
onto_some x [] e = cc
onto_some x (p ∷ ps) e = cc

-- each text has a field
pub some_field : (text : List ℕ) → fields_of text ≢ []
some_field [] e = cc
some_field (x ∷ xs) e = go (nat_eq x 32) e
  where
    go : (b : Bool) → cond b ([] ∷ fields_of xs) (onto_first x (fields_of xs)) ≢ []
    go true e = cc
    go false e = onto_some x (fields_of xs) e

onto_one : (x : ℕ) (xs : List ℕ) (ps : List (List ℕ)) → ps ≢ [] → onto_first x ps ≡ (x ∷ xs) ∷ [] → ps ≡ xs ∷ []
onto_one x xs [] some e = absurd (some refl)
onto_one x xs (p ∷ ps) some e = cc

-- a text that is one field has no space
pub one_field : (word : List ℕ) → fields_of word ≡ word ∷ [] → HasNoSpace word
one_field [] e = All-nil (λ (x : ℕ). nat_eq x 32 ≡ false)
one_field (x ∷ xs) e = go (nat_eq x 32) refl e (λ one. one_field xs one)
  where
    go : (b : Bool) → nat_eq x 32 ≡ b → cond b ([] ∷ fields_of xs) (onto_first x (fields_of xs)) ≡ (x ∷ xs) ∷ [] →
        (fields_of xs ≡ xs ∷ [] → All (λ (y : ℕ). nat_eq y 32 ≡ false) xs)
        → All (λ (y : ℕ). nat_eq y 32 ≡ false) (x ∷ xs)
    go true is e rest = cc
    go false is e rest =
        All-cons (λ (y : ℕ). nat_eq y 32 ≡ false) x xs is (rest (onto_one x xs (fields_of xs) (some_field xs) e))

-- a text whose first field is this word
first-is : (text word : List ℕ) (rest : List (List ℕ)) → fields_of text ≡ word ∷ rest → text ≡ spaced (word ∷ rest)
first-is text word rest e = sym (join_with_byte-slice_split 32 text) ∙ ap spaced e

pub first-begins : (text word : List ℕ) (rest : List (List ℕ)) → fields_of text ≡ word ∷ rest
    → take (length word) text ≡ word
first-begins text word [] e =
    ap (take (length word)) (first-is text word [] e) ∙ take_all (length word) word (omega arith)
first-begins text word (field ∷ fields) e =
    ap (take (length word)) (first-is text word (field ∷ fields) e)
    ∙ take-append_seam word (32 ∷ spaced (field ∷ fields))

pub first-ends : (text word : List ℕ) (rest : List (List ℕ)) → fields_of text ≡ word ∷ rest
    → length word ≢ length text → get_or text (length word) 0 ≡ 32
first-ends text word [] e more = absurd (more (ap length (sym (first-is text word [] e))))
first-ends text word (field ∷ fields) e more =
    ap (λ (t : List ℕ). get_or t (length word) 0) (first-is text word (field ∷ fields) e)
    ∙ get_or-append_seam word 32 (spaced (field ∷ fields)) 0

-- a first field of bytes
pub bytes-front : (text bytes : List ℕ) (rest : List (List ℕ)) → AreBytes bytes
    → fields_of text ≡ spelled bytes ∷ rest → IsBytesField text bytes (length (spelled bytes))
bytes-front text bytes rest all is =
    let begins = first-begins text (spelled bytes) rest is in
    let long : length (take (length (spelled bytes)) text) ≡ length (spelled bytes) = ap length begins in (
      (omega (arith, long, length-take (length (spelled bytes)) text), begins, all),
      λ within. first-ends text (spelled bytes) rest is (λ same. omega (arith, same, within)),
    )

-- a first field that is no byte in two digits
pub no-byte_field : (text field : List ℕ) (rest : List (List ℕ)) → fields_of text ≡ field ∷ rest →
    ((b : ℕ) → b < 256 → 2 ≤ length text → take 2 text ≡ two_digits b → (2 < length text → get_or text 2 0 ≡ 32) → ⊥)
    → byte_at field ≡ None
no-byte_field text field rest is never = go (byte_at field) refl
  where
    go : (r : Option ℕ) → byte_at field ≡ r → byte_at field ≡ None
    go None e = e
    go (Some b) e =
        let only = byte_at-only field b e in
        let two : length field ≡ 2 = ap length only.1 in
        let begins : take 2 text ≡ field = ap (λ (n : ℕ). take n text) (sym two) ∙ first-begins text field rest is in
        let long : length (take 2 text) ≡ 2 = ap length begins ∙ two in
        let ends : 2 < length text → get_or text 2 0 ≡ 32 =
        λ more. ap (λ (n : ℕ). get_or text n 0) (sym two)
        ∙ first-ends text field rest is (λ same. omega (arith, same, two, more)) in
        absurd (never b only.0 (omega (arith, long, length-take 2 text)) (begins ∙ only.1) ends)
