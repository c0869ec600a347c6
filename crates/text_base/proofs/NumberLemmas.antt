-- Numbers.
use Rattle.std.proofs.Common.{◌≡◌, ◌≢◌, ℕ, ◌+◌, ◌*◌, ◌<◌, ◌≤◌, ◌^◌, ◌/◌, ◌%◌, ◌&&◌, zero, suc, List, [], ◌∷◌, ◌++◌, length, take, get_or, Bool, true, false, cond, nat_le, ◌-◌, drop, leb-true, le-leb, Option, Some, None, IfSome, IfNone, decimal, refl, sym, ap, ◌∙◌, arith}
use Rattle.std.proofs.Math.Nat.{pow-le-pow_left, pow-le-pow_right, pow-suc, mul-pos, mul-le-mul_right}
use Rattle.std.proofs.lemmas.List.{take_more}
use Rattle.std.proofs.lemmas.List.Elements.{All-get_or}
use Rattle.std.proofs.Math.ListN.{set}
use native.Mathlib.Numerals.{unary_clauses}
use Rattle.std.specs.Fmt.{digits, digit_glyph}
use Rattle.std.specs.Char.{digit_value}
use Rattle.std.specs.Str.{bytes_eq}
use Rattle.std.proofs.lemmas.Bool.Decides.{Decides-and}
use Rattle.std.proofs.lemmas.Slice.Eq.{bytes_eq-Decides}
use Rattle.text_base.specs.Numbers.{hex, two_digits, decimal_at, hex_at, byte_at}
use Rattle.std.specs.Str.Parse.{digits_value}
use Rattle.std.proofs.lemmas.Str.Parse.{digits_value-take-le}
use Rattle.std.proofs.lemmas.Int.Digits.{digits_value_more}
use Rattle.text_base.proofs.DigitLemmas.{IsDigit, AreDigits, digits-are, digits-one, digits-push, digits-first, digits-value, digits-some, digit_value-glyph, glyph-injective}

pub pow_64 : (base : ℕ) → 10 ≤ base → 2 ^ 64 ≤ base ^ 63
pow_64 base h = let more = pow-le-pow_left h 63 in omega arith

-- the first i bytes are the digits of n
pub record SoFar (base : ℕ) (text : List ℕ) (i n : ℕ) : Type 0 where
  pub small : n < 2 ^ 64
  pub start : i ≡ 0 → n ≡ 0
  pub some : 0 < i → 0 < n
  pub spells : 0 < i → take i text ≡ digits base false n

pub so_far-start : (base : ℕ) (text : List ℕ) → SoFar base text 0 0
so_far-start base text =
    record {
      small = omega arith;
      start = λ e. refl;
      some = λ h. absurd (omega arith);
      spells = λ h. absurd (omega arith);
    }

value-so_far : (base : ℕ) (text : List ℕ) (i n : ℕ) → 10 ≤ base → base ≤ 16 → SoFar base text i n
    → digits_value base (take i text) ≡ n
value-so_far base text zero n low high h = sym (h.start refl)
value-so_far base text (suc i) n low high h =
    ap (digits_value base) (h.spells (omega arith))
    ∙ digits-value base low high n (let wide = pow-le-pow_left low 64 in let small = h.small in omega arith)

pub so_far-more : (base : ℕ) (text : List ℕ) (i n d : ℕ) → 10 ≤ base → base ≤ 16 → i < length text
    → get_or text 0 0 ≢ 48 → d < base → n * base + d < 2 ^ 64 →
    get_or text i 0 ≡ digit_glyph false d → SoFar base text i n → SoFar base text (i + 1) (n * base + d)
so_far-more base [] i n d low high within first digit small is h = absurd (omega arith)
so_far-more base (c ∷ cs) zero n d low high within first digit small is h =
    let none : n ≡ 0 = h.start refl in
    let product = ap (λ (x : ℕ). x * base) none in
    let whole : n * base + d ≡ d = omega (arith, product) in
    record {
      small = small;
      start = λ e. absurd (omega arith);
      some = λ _. let some : 0 < d = by d is in omega arith;
      spells = λ _. ap (λ (x : ℕ). x ∷ []) is ∙ sym (digits-one base low high d digit)
          ∙ ap (digits base false) (sym whole);
    }
  where
    by : (d : ℕ) → c ≡ digit_glyph false d → 0 < d
    by zero e = absurd (first e)
    by (suc d) e = omega arith
so_far-more base text (suc i) n d low high within first digit small is h =
    let some : 0 < n = h.some (omega arith) in
    let wide = pow_64 base low in
    record {
      small = small;
      start = λ e. absurd (omega arith);
      some = λ _. (let more : 0 < n * base = mul-pos some (omega arith) in omega arith);
      spells = λ _. take_more text (suc i) 0 within ∙ ap (λ (x : ℕ). take (suc i) text ++ x ∷ []) is
          ∙ ap (λ (x : List ℕ). x ++ digit_glyph false d ∷ []) (h.spells (omega arith))
          ∙ sym (digits-push base low high n d digit some (let bound = h.small in omega arith));
    }

-- one more digit of a number that has capacity for it
pub front-room : (base i longest n d : ℕ) → 10 ≤ base → i < longest → base ^ longest ≤ 2 ^ 64 → n < base ^ i
    → d < base → (n * base + d < base ^ (i + 1)) × (n * base + d < 2 ^ 64)
front-room base i longest n d low within bound small digit =
    let product : (n + 1) * base ≤ base ^ i * base = mul-le-mul_right base (omega (arith, small)) in
    let power : base ^ (i + 1) ≡ base ^ i * base =
    ap (λ (k : ℕ). base ^ k) {x = i + 1} {y = suc i} (omega arith) ∙ pow-suc base i in
    let next : n * base + d < base ^ (i + 1) = omega (arith, product, power, digit) in
    let wide : base ^ (i + 1) ≤ base ^ longest = pow-le-pow_right (omega (arith, low)) (omega (arith, within)) in
    (next, omega (arith, next, wide, bound))

pub zero-front : (base : ℕ) (text : List ℕ) → 10 ≤ base → base ≤ 16 → 0 < length text → get_or text 0 0 ≡ 48
    → take 1 text ≡ digits base false 0
zero-front base [] low high some is = absurd (omega arith)
zero-front base (x ∷ text) low high some is = ap (λ (b : ℕ). b ∷ []) is ∙ sym (digits-one base low high 0 (omega arith))

pub no_byte : (base : ℕ) (text : List ℕ) (i n : ℕ) → 10 ≤ base → base ≤ 16 → i < length text
    → ((d : ℕ) → d < 16 → get_or text i 0 ≡ digit_glyph false d → ⊥) → text ≡ digits base false n → ⊥
no_byte base text i n low high within not e =
    let all : AreDigits base text = rw e (digits-are base low high n) in
    let h = All-get_or (IsDigit base) text i 0 within all in
    not h.0 (let less = h.1 in omega arith) h.2

pub no_digit : (base : ℕ) (text : List ℕ) (i n d : ℕ) → 10 ≤ base → base ≤ 16 → i < length text
    → get_or text i 0 ≡ digit_glyph false d → base ≤ d → text ≡ digits base false n → ⊥
no_digit base text i n d low high within is large e =
    let all : AreDigits base text = rw e (digits-are base low high n) in
    let h = All-get_or (IsDigit base) text i 0 within all in
    let same = glyph-injective d h.0 (sym is ∙ h.2) in
    omega (arith, same, h.1)

pub too_large : (base : ℕ) (text : List ℕ) (i n m d : ℕ) → 10 ≤ base → base ≤ 16 → m < 2 ^ 64 → i < length text
    → get_or text i 0 ≡ digit_glyph false d → d < base →
    2 ^ 64 ≤ n * base + d → SoFar base text i n → text ≡ digits base false m → ⊥
too_large base text i n m d low high bound within is digit large h e =
    let wide = pow-le-pow_left low 64 in
    let value : digits_value base text ≡ m = ap (digits_value base) e ∙ digits-value base low high m (omega arith) in
    let front = value-so_far base text i n low high h in
    let more = digits_value_more base text i within in
    let last : digit_value (get_or text i 0) ≡ d = ap digit_value is ∙ digit_value-glyph base low high d digit in
    let le = digits_value-take-le base text (i + 1) (omega arith) in
    let mine : digits_value base (take i text) * base ≡ n * base = ap (λ x. x * base) front in
    omega arith

pub no_text : (base n : ℕ) → 10 ≤ base → base ≤ 16 → n < 2 ^ 64 → [] ≡ digits base false n → ⊥
no_text base n low high small e =
    let some =
    digits-some base low high n (let wide = pow-le-pow_left low 64 in omega arith) in let none =
    ap length e in omega arith

pub no_zero-first : (base : ℕ) (text : List ℕ) (n : ℕ) → 10 ≤ base → base ≤ 16 → n < 2 ^ 64 → get_or text 0 0 ≡ 48
    → 2 ≤ length text → text ≡ digits base false n → ⊥
no_zero-first base text zero low high small first long e =
    let one = ap length (e ∙ digits-one base low high 0 (omega arith)) in omega arith
no_zero-first base text (suc n) low high small first long e =
    digits-first base low high (suc n) (omega arith) (let wide = pow-le-pow_left low 64 in omega arith)
    (sym (ap (λ (x : List ℕ). get_or x 0 0) e) ∙ first)

-- A text decodes to a number iff the number is spelled so.
module _ (spell : ℕ → List ℕ) (value : List ℕ → ℕ) (limit : ℕ) (reads : (n : ℕ) → n < limit → value (spell n) ≡ n) where
  abbrev pub number_at : ℕ → List ℕ → Option ℕ
  number_at most text = cond (nat_le (value text) most && bytes_eq text (spell (value text))) (Some (value text)) None

  number_at-spelled : (most n : ℕ) → most < limit → n ≤ most → number_at most (spell n) ≡ Some n
  number_at-spelled most n small fits =
      let v = reads n (omega arith) in
      rw (v, le-leb n most fits, (bytes_eq-Decides (spell n) (spell n)).1 refl) refl

  number_at-only : (most : ℕ) (text : List ℕ) (n : ℕ) → number_at most text ≡ Some n → (n ≤ most) × (text ≡ spell n)
  number_at-only most text n e = go (nat_le v most && bytes_eq text (spell v)) refl e
    where
      v : ℕ
      v = value text

      go : (b : Bool) → (nat_le v most && bytes_eq text (spell v)) ≡ b → cond b (Some v) None ≡ Some n → (n ≤ most)
          × (text ≡ spell n)
      go true is e =
          let h =
          (Decides-and _ _ (leb-true v most, le-leb v most) (bytes_eq-Decides text (spell v))).0 is in
          let same : v ≡ n = cc in (rw (← same) h.0, h.1 ∙ ap spell same)
      go false is e = cc

  number_at-answer : (most : ℕ) (text : List ℕ) (r : Option ℕ) → most < limit
      → IfSome r (λ n. (n ≤ most) × (text ≡ spell n)) →
      IfNone r ((n : ℕ) → n ≤ most → text ≡ spell n → ⊥) → r ≡ number_at most text
  number_at-answer most text (Some n) small found none = rw found.1 (sym (number_at-spelled most n small found.0))
  number_at-answer most text None small found none = go (nat_le v most && bytes_eq text (spell v)) refl
    where
      v : ℕ
      v = value text

      go : (b : Bool) → (nat_le v most && bytes_eq text (spell v)) ≡ b → None ≡ cond b (Some v) None
      go true e = let h = (Decides-and _ _ (leb-true v most, le-leb v most) (bytes_eq-Decides text (spell v))).0 e in
          absurd (none v h.0 h.1)
      go false e = refl

decimal-value : (n : ℕ) → n < 2 ^ 64 → digits_value 10 (decimal n) ≡ n
decimal-value n small = digits-value 10 (omega arith) (omega arith) n (omega arith)

hex-value : (n : ℕ) → n < 2 ^ 64 → digits_value 16 (hex n) ≡ n
hex-value n small = digits-value 16 (omega arith) (omega arith) n (omega arith)

pub decimal_at-answer : (most : ℕ) (text : List ℕ) (r : Option ℕ) → most < 2 ^ 64
    → IfSome r (λ n. (n ≤ most) × (text ≡ decimal n)) →
    IfNone r ((n : ℕ) → n ≤ most → text ≡ decimal n → ⊥) → r ≡ decimal_at most text
decimal_at-answer = number_at-answer decimal (digits_value 10) (2 ^ 64) decimal-value

pub hex_at-answer : (most : ℕ) (text : List ℕ) (r : Option ℕ) → most < 2 ^ 64
    → IfSome r (λ n. (n ≤ most) × (text ≡ hex n)) → IfNone r ((n : ℕ) → n ≤ most → text ≡ hex n → ⊥)
    → r ≡ hex_at most text
hex_at-answer = number_at-answer hex (digits_value 16) (2 ^ 64) hex-value

-- each number has one text, and each such text one number
pub decimal_at-spelled : (most n : ℕ) → most < 2 ^ 64 → n ≤ most → decimal_at most (decimal n) ≡ Some n
decimal_at-spelled = number_at-spelled decimal (digits_value 10) (2 ^ 64) decimal-value

pub hex_at-spelled : (most n : ℕ) → most < 2 ^ 64 → n ≤ most → hex_at most (hex n) ≡ Some n
hex_at-spelled = number_at-spelled hex (digits_value 16) (2 ^ 64) hex-value

pub decimal_at-only : (most : ℕ) (text : List ℕ) (n : ℕ) → decimal_at most text ≡ Some n → (n ≤ most)
    × (text ≡ decimal n)
decimal_at-only = number_at-only decimal (digits_value 10) (2 ^ 64) decimal-value

pub hex_at-only : (most : ℕ) (text : List ℕ) (n : ℕ) → hex_at most text ≡ Some n → (n ≤ most) × (text ≡ hex n)
hex_at-only = number_at-only hex (digits_value 16) (2 ^ 64) hex-value

pub decimal-injective : (m n : ℕ) → m < 2 ^ 64 → n < 2 ^ 64 → decimal m ≡ decimal n → m ≡ n
decimal-injective m n h k e = sym (decimal-value m h) ∙ ap (digits_value 10) e ∙ decimal-value n k

pub hex-injective : (m n : ℕ) → m < 2 ^ 64 → n < 2 ^ 64 → hex m ≡ hex n → m ≡ n
hex-injective m n h k e = sym (hex-value m h) ∙ ap (digits_value 16) e ∙ hex-value n k

-- what is written just before place i
pub drop-set-cons : (xs : List ℕ) (i v g : ℕ) → 0 < i → i ≤ length xs → v ≡ g
    → drop (i - 1) (set xs (i - 1) v) ≡ g ∷ drop i xs
drop-set-cons [] zero v g h k e = absurd (omega arith)
drop-set-cons [] (suc i) v g h k e = absurd (omega arith)
drop-set-cons (x ∷ xs) zero v g h k e = absurd (omega arith)
drop-set-cons (x ∷ xs) (suc zero) v g h k e = ap (λ (y : ℕ). y ∷ xs) e
drop-set-cons (x ∷ xs) (suc (suc i)) v g h k e =
    simp unary_clauses (simp unary_clauses at (drop-set-cons xs (suc i) v g (omega arith) (omega arith) e))

byte-value : (b : ℕ) → b < 256 → digits_value 16 (two_digits b) ≡ b
byte-value b h =
    let high = digit_value-glyph 16 (omega arith) (omega arith) (b / 16) (omega arith) in
    let low = digit_value-glyph 16 (omega arith) (omega arith) (b % 16) (omega arith) in
    omega (arith, high, low)

pub byte_at-spelled : (b : ℕ) → b < 256 → byte_at (two_digits b) ≡ Some b
byte_at-spelled b h = number_at-spelled two_digits (digits_value 16) 256 byte-value 255 b (omega arith) (omega arith)

pub byte_at-only : (text : List ℕ) (b : ℕ) → byte_at text ≡ Some b → (b < 256) × (text ≡ two_digits b)
byte_at-only text b e =
    let h =
    number_at-only two_digits (digits_value 16) 256 byte-value 255 text b e in let bound = h.0 in (omega arith, h.1)
