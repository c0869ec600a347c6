-- Lines of words without spaces.
use Rattle.std.proofs.Common.{◌≡◌, ℕ, ◌+◌, ◌*◌, ◌/◌, ◌%◌, ◌<◌, ◌≤◌, zero, suc, List, [], ◌∷◌, ◌++◌, length, length-append, refl, ap, ◌∙◌, cond, arith, Bool, true, false, nat_eq, nat_lt, ne_eqb, ◌&&◌, Decides}
use Rattle.std.proofs.lemmas.Bool.Decides.{Decides-and, Decides-ltb}
use Rattle.std.specs.Fmt.{digits, digits_onto, digit_glyph}
use Rattle.text_base.specs.Numbers.{spelled, two_digits}
use Rattle.text_base.specs.Lines.{IsOneLine}
use Rattle.text_base.specs.Fields.{fields_of, spaced}

-- every byte is above the space
abbrev pub IsPlain : List ℕ → Type 0
IsPlain [] = Unit {0}
IsPlain (b ∷ bytes) = (32 < b) × IsPlain bytes

abbrev pub ArePlain : List (List ℕ) → Type 0
ArePlain [] = Unit {0}
ArePlain (f ∷ fields) = IsPlain f × ArePlain fields

same-Decides : (b : Bool) → Decides b (b ≡ true)
same-Decides b = (λ e. e, λ e. e)

-- the same, as a test
abbrev pub is_plain : List ℕ → Bool
is_plain [] = true
is_plain (b ∷ bytes) = nat_lt 32 b && is_plain bytes

pub plain_by : (xs : List ℕ) → is_plain xs ≡ true → IsPlain xs
plain_by [] e = tt
plain_by (x ∷ xs) e =
    let h = (Decides-and _ _ (Decides-ltb 32 x) (same-Decides (is_plain xs))).0 e in (h.0, plain_by xs h.1)

pub glyph-plain : (d : ℕ) → 32 < digit_glyph false d
glyph-plain d = go (nat_lt d 10)
  where
    go : (b : Bool) → 32 < cond b (48 + d) (87 + d)
    go true = omega arith
    go false = omega arith

either : (P : List ℕ → Type 0) (b : Bool) (x y : List ℕ) → P x → P y → P (cond b x y)
either P true x y h k = h
either P false x y h k = k

onto-plain : (k base n : ℕ) (acc : List ℕ) → IsPlain acc → IsPlain (digits_onto k base false n acc)
onto-plain zero base n acc h = h
onto-plain (suc k) base n acc h = either IsPlain (nat_eq (n / base) 0) (digit_glyph false (n % base) ∷ acc)
    (digits_onto k base false (n / base) (digit_glyph false (n % base) ∷ acc)) (glyph-plain (n % base), h)
    (onto-plain k base (n / base) (digit_glyph false (n % base) ∷ acc) (glyph-plain (n % base), h))

onto-short : (k base n : ℕ) (acc : List ℕ) → length (digits_onto k base false n acc) ≤ k + length acc
onto-short zero base n acc = omega arith
onto-short (suc k) base n acc =
    let h = onto-short k base (n / base) (digit_glyph false (n % base) ∷ acc) in
    either (λ x. length x ≤ suc k + length acc) (nat_eq (n / base) 0) (digit_glyph false (n % base) ∷ acc)
    (digits_onto k base false (n / base) (digit_glyph false (n % base) ∷ acc)) (omega arith) (omega arith)

pub digits-plain : (base n : ℕ) → IsPlain (digits base false n)
unfolding digits
digits-plain base n = onto-plain 64 base n [] tt

pub digits-short : (base n : ℕ) → length (digits base false n) ≤ 64
unfolding digits
digits-short base n = let h = onto-short 64 base n [] in omega arith

pub two_digits-plain : (b : ℕ) → IsPlain (two_digits b)
two_digits-plain b = (glyph-plain (b / 16), (glyph-plain (b % 16), tt))

pub spelled-plain : (bytes : List ℕ) → IsPlain (spelled bytes)
spelled-plain [] = tt
spelled-plain (b ∷ bytes) = (glyph-plain (b / 16), (glyph-plain (b % 16), spelled-plain bytes))

pub spelled-length : (bytes : List ℕ) → length (spelled bytes) ≡ 2 * length bytes
spelled-length [] = refl
spelled-length (b ∷ bytes) = let h = spelled-length bytes in omega (arith, h)

one-plain : (xs : List ℕ) → IsPlain xs → IsOneLine xs
one-plain [] h = tt
one-plain (x ∷ xs) h = ((λ e. let low = h.0 in omega arith), one-plain xs h.1)

one-append : (xs ys : List ℕ) → IsOneLine xs → IsOneLine ys → IsOneLine (xs ++ ys)
one-append [] ys h k = k
one-append (x ∷ xs) ys h k = (h.0, one-append xs ys h.1 k)

one-words : (fields : List (List ℕ)) → ArePlain fields → IsOneLine (spaced fields)
one-words [] h = tt
one-words (f ∷ []) h = one-plain f h.0
one-words (f ∷ g ∷ fields) h =
    one-append f (32 ∷ spaced (g ∷ fields)) (one-plain f h.0) ((λ e. omega (arith, e)), one-words (g ∷ fields) h.1)

pub split-one : (xs : List ℕ) → IsPlain xs → fields_of xs ≡ xs ∷ []
split-one [] h = refl
split-one (x ∷ xs) h = rw (ne_eqb x 32 (λ e. let low = h.0 in omega arith), split-one xs h.1) refl

split-more : (xs ys : List ℕ) → IsPlain xs → fields_of (xs ++ 32 ∷ ys) ≡ xs ∷ fields_of ys
split-more [] ys h = refl
split-more (x ∷ xs) ys h = rw (ne_eqb x 32 (λ e. let low = h.0 in omega arith), split-more xs ys h.1) refl

-- a line that was written from fields is parsed as these fields
pub fields-words : (f : List ℕ) (fields : List (List ℕ)) → ArePlain (f ∷ fields)
    → fields_of (spaced (f ∷ fields)) ≡ f ∷ fields
fields-words f [] h = split-one f h.0
fields-words f (g ∷ fields) h =
    split-more f (spaced (g ∷ fields)) h.0 ∙ ap (λ (x : List (List ℕ)). f ∷ x) (fields-words g fields h.1)

abbrev pub total : List (List ℕ) → ℕ
total [] = 0
total (f ∷ fields) = length f + 1 + total fields

short-words : (fields : List (List ℕ)) → length (spaced fields) ≤ total fields
short-words [] = omega arith
short-words (f ∷ []) = omega arith
short-words (f ∷ g ∷ fields) =
    let h = short-words (g ∷ fields) in omega (arith, h, length-append f (32 ∷ spaced (g ∷ fields)))

-- a line in its written form
pub record IsWritten (fields : List (List ℕ)) : Type 0 where
  pub one : IsOneLine (spaced fields)
  pub short : length (spaced fields) ≤ 640
  pub read : fields_of (spaced fields) ≡ fields

pub written : (f : List ℕ) (fields : List (List ℕ)) → ArePlain (f ∷ fields) → total (f ∷ fields) ≤ 640
    → IsWritten (f ∷ fields)
written f fields h bound =
    record {
      one = one-words (f ∷ fields) h;
      short = (let k = short-words (f ∷ fields) in omega arith);
      read = fields-words f fields h;
    }
