-- Bytes as two digits each.
use Rattle.std.proofs.Common.{◌≡◌, ◌≢◌, ℕ, ◌+◌, ◌*◌, ◌/◌, ◌%◌, ◌<◌, ◌≤◌, ◌-◌, List, [], ◌∷◌, ◌++◌, length, get_or, take, drop}
use Rattle.std.proofs.Common.{Option, Some, None, IfNone, refl, sym, ap, subst, ◌∙◌, arith, false, append_assoc}
use Rattle.std.specs.Fmt.{digit_glyph}
use Rattle.std.proofs.lemmas.List.{take_all, take-append-drop, get_or-drop, length-drop}
use Rattle.std.proofs.lemmas.List.Elements.{All-head, All-tail, All-push}
use Rattle.text_base.proofs.DigitLemmas.{glyph-injective}
use Rattle.text_base.proofs.PlainWords.{glyph-plain}
use Rattle.text_base.specs.Numbers.{spelled, IsByte, AreBytes}
use Rattle.text_base.specs.inside.Parsing.{IsBytesField}

-- what follows bytes is a space, or nothing
abbrev IsEnd : List ℕ → Type 0
IsEnd s = 0 < length s → get_or s 0 0 ≡ 32

no-digit : (d : ℕ) (s : List ℕ) → IsEnd (digit_glyph false d ∷ s) → ⊥
no-digit d s end = let space : digit_glyph false d ≡ 32 = end (omega arith) in omega (arith, glyph-plain d, space)

-- decoding a prefix leaves the rest to decode
record GoesOn (xs r bytes s : List ℕ) : Type 0 where
  pub more : List ℕ
  pub whole : bytes ≡ xs ++ more
  pub rest : r ≡ spelled more ++ s
  pub all : AreBytes more

onto-same : (x b : ℕ) (bytes xs more : List ℕ) → x ≡ b → bytes ≡ xs ++ more → b ∷ bytes ≡ (x ∷ xs) ++ more
onto-same x b bytes xs more same whole = cc

spelled-front : (xs r bytes s : List ℕ) → AreBytes xs → AreBytes bytes → IsEnd s
    → spelled xs ++ r ≡ spelled bytes ++ s → GoesOn xs r bytes s
spelled-front [] r bytes s h k end e = record { more = bytes; whole = refl; rest = e; all = k }
spelled-front (x ∷ xs) r [] s h k end e =
    absurd (no-digit (x / 16) (digit_glyph false (x % 16) ∷ spelled xs ++ r) (subst IsEnd (sym e) end))
spelled-front (x ∷ xs) r (b ∷ bytes) s h k end e =
    let high : digit_glyph false (x / 16) ≡ digit_glyph false (b / 16) = cc in
    let low : digit_glyph false (x % 16) ≡ digit_glyph false (b % 16) = cc in
    let tail : spelled xs ++ r ≡ spelled bytes ++ s = cc in
    let small : x < 256 = All-head IsByte x xs h in
    let small' : b < 256 = All-head IsByte b bytes k in
    let same_high = glyph-injective (x / 16) (b / 16) high in
    let same_low = glyph-injective (x % 16) (b % 16) low in
    let same : x ≡ b = omega arith in
    let g = spelled-front xs r bytes s (All-tail IsByte x xs h) (All-tail IsByte b bytes k) end tail in
    record { more = g.more; whole = onto-same x b bytes xs g.more same g.whole; rest = g.rest; all = g.all }

pub spelled-push : (xs : List ℕ) (h l : ℕ) → h < 16 → l < 16
    → spelled (xs ++ (h * 16 + l) ∷ []) ≡ spelled xs ++ digit_glyph false h ∷ digit_glyph false l ∷ []
spelled-push [] h l a b =
    let high : (h * 16 + l) / 16 ≡ h =
    omega arith in let low : (h * 16 + l) % 16 ≡ l = omega arith in rw (high, low) refl
spelled-push (x ∷ xs) h l a b =
    ap (λ (y : List ℕ). digit_glyph false (x / 16) ∷ digit_glyph false (x % 16) ∷ y) (spelled-push xs h l a b)

-- decoding the next byte
pub record Next (xs r bytes : List ℕ) : Type 0 where
  pub b : ℕ
  pub more : List ℕ
  pub small : b < 256
  pub whole : bytes ≡ xs ++ b ∷ more
  pub two : 2 ≤ length r
  pub high : get_or r 0 0 ≡ digit_glyph false (b / 16)
  pub low : get_or r 1 0 ≡ digit_glyph false (b % 16)

-- what follows decoded bytes: more bytes of the field, and then its end
goes-on : (text xs r bytes : List ℕ) (count : ℕ) → text ≡ spelled xs ++ r → AreBytes xs
    → IsBytesField text bytes count →
    GoesOn xs r bytes (drop count text) × IsEnd (drop count text)
goes-on text xs r bytes count split h field =
    (spelled-front xs r bytes (drop count text) h field.0.2 end (sym split ∙ whole), end)
  where
    end : IsEnd (drop count text)
    end more =
        let here : count + 0 ≡ count = omega arith in
        get_or-drop count text 0 0 ∙ ap (λ (i : ℕ). get_or text i 0) here
        ∙ field.1 (omega (arith, more, length-drop count text))

    whole : text ≡ spelled bytes ++ drop count text
    whole = sym (take-append-drop count text) ∙ ap (λ (y : List ℕ). y ++ drop count text) field.0.1

next-of : (xs r bytes s more : List ℕ) → bytes ≡ xs ++ more → r ≡ spelled more ++ s → AreBytes more → more ≢ []
    → Next xs r bytes
next-of xs r bytes s [] same rest all some = absurd (some refl)
next-of xs r bytes s (b ∷ more) same rest all some = record {
  b = b;
  more = more;
  small = All-head IsByte b more all;
  whole = same;
  two = omega (arith, ap length rest);
  high = ap (λ (y : List ℕ). get_or y 0 0) rest;
  low = ap (λ (y : List ℕ). get_or y 1 0) rest;
}

pub next-byte : (text xs r bytes : List ℕ) (count : ℕ) → text ≡ spelled xs ++ r → AreBytes xs
    → IsBytesField text bytes count → 0 < length r → get_or r 0 0 ≢ 32 → Next xs r bytes
next-byte text xs r bytes count split h field some digit =
    let on = goes-on text xs r bytes count split h field in
    next-of xs r bytes (drop count text) on.0.more on.0.whole on.0.rest on.0.all (λ none.
    let rest : r ≡ drop count text = rw none at on.0.rest in
    digit (ap (λ (y : List ℕ). get_or y 0 0) rest ∙ on.1 (omega (arith, some, ap length rest))))

-- where no byte can be decoded, a field of bytes ends
pub ended : (text xs r bytes : List ℕ) (count : ℕ) → text ≡ spelled xs ++ r → AreBytes xs
    → IsBytesField text bytes count → (Next xs r bytes → ⊥) → count + length r ≡ length text
ended text xs r bytes count split h field never = by (goes-on text xs r bytes count split h field).0
  where
    s : List ℕ
    s = drop count text

    at : (more : List ℕ) → bytes ≡ xs ++ more → r ≡ spelled more ++ s → AreBytes more → count + length r ≡ length text
    at [] same rest all = omega (arith, ap length rest, length-drop count text, field.0.0)
    at (b ∷ more) same rest all = absurd (never (next-of xs r bytes s (b ∷ more) same rest all (λ none. cc)))

    by : GoesOn xs r bytes s → count + length r ≡ length text
    by g = at g.more g.whole g.rest g.all

-- a digit is no space
pub digit-no_space : (c d : ℕ) → c ≡ digit_glyph false d → c ≢ 32
digit-no_space c d is space = omega (arith, is, space, glyph-plain d)

-- where nothing was found
pub unfound : {A P Q : Type 0} (r : Option A) → IfNone r P → (P → Q) → IfNone r Q
unfound None h k = k h
unfound (Some x) h k = tt

pub two-first : (r : List ℕ) → 2 ≤ length r → r ≡ get_or r 0 0 ∷ get_or r 1 0 ∷ take (length r - 2) (drop 2 r)
two-first [] h = absurd (omega arith)
two-first (x ∷ []) h = absurd (omega arith)
two-first (x ∷ y ∷ r) h =
    let all = take_all (length (x ∷ y ∷ r) - 2) r (omega arith) in ap (λ (z : List ℕ). x ∷ y ∷ z) (sym all)

pub grow : (text xs r out : List ℕ) (h l : ℕ) → text ≡ spelled xs ++ r → AreBytes xs → 2 ≤ length r → h < 16 → l < 16
    → get_or r 0 0 ≡ digit_glyph false h →
    get_or r 1 0 ≡ digit_glyph false l → out ≡ xs ++ (h * 16 + l) ∷ [] →
    (text ≡ spelled out ++ take (length r - 2) (drop 2 r)) × AreBytes out
grow text xs r out h l split all two hs ls high low is =
    let tail = take (length r - 2) (drop 2 r) in
    let cut : r ≡ digit_glyph false h ∷ digit_glyph false l ∷ tail =
    two-first r two ∙ ap (λ (y : ℕ). y ∷ get_or r 1 0 ∷ tail) high
    ∙ ap (λ (y : ℕ). digit_glyph false h ∷ y ∷ tail) low in
    rw is (
      split ∙ ap (λ (y : List ℕ). spelled xs ++ y) cut
          ∙ sym (append_assoc (spelled xs) (digit_glyph false h ∷ digit_glyph false l ∷ []) tail)
          ∙ ap (λ (y : List ℕ). y ++ tail) (sym (spelled-push xs h l hs ls)),
      All-push IsByte xs (h * 16 + l) all (omega arith),
    )
