-- The digits of a number in some base.
use Rattle.std.proofs.Common.{◌⊎◌, inl, inr, ◌≡◌, ◌≢◌, ℕ, ◌+◌, ◌*◌, ◌-◌, ◌/◌, ◌%◌, ◌<◌, ◌≤◌, ◌^◌, zero, suc, Bool, true, false, cond, nat_eq, nat_lt, eq-eqb, ne_eqb, eqb-true, List, [], ◌∷◌, ◌++◌, length, get_or, refl, sym, ap, subst, ◌∙◌, arith}
use Rattle.std.proofs.Math.Nat.{pow-le-pow_left, div-lt_iff_lt-mul, pow-suc, pow-zero, mod-lt, div-eq_of_lt}
use Rattle.std.proofs.lemmas.Nat.{div-mul-add, div-add-mod'}
use Rattle.std.specs.List.{All}
use Rattle.std.proofs.lemmas.List.Elements.{All-nil, All-cons}
use Rattle.std.specs.Fmt.{digits, digits_onto, digit_glyph}
use Rattle.std.specs.Char.{digit_value}
use Rattle.std.specs.Str.Parse.{digits_value}
use Rattle.std.proofs.lemmas.Fmt.{digits_is_IsNumeral}
use Rattle.std.proofs.lemmas.Bool.Decides.{Decides-ltb}
use Rattle.std.proofs.lemmas.Bool.{ltb-false, eqb-false}

glyph_by : (d : ℕ) → ((d < 10) × (digit_glyph false d ≡ 48 + d)) ⊎ ((10 ≤ d) × (digit_glyph false d ≡ 87 + d))
glyph_by d = go (nat_lt d 10) refl
  where
    go : (b : Bool) → nat_lt d 10 ≡ b → ((d < 10) × (cond b (48 + d) (87 + d) ≡ 48 + d))
        ⊎ ((10 ≤ d) × (cond b (48 + d) (87 + d) ≡ 87 + d))
    go true e = inl ((Decides-ltb d 10).0 e, refl)
    go false e = inr (ltb-false d 10 e, refl)

pub glyph-injective : (c d : ℕ) → digit_glyph false c ≡ digit_glyph false d → c ≡ d
glyph-injective c d e = go (glyph_by c) (glyph_by d)
  where
    go : ((c < 10) × (digit_glyph false c ≡ 48 + c)) ⊎ ((10 ≤ c) × (digit_glyph false c ≡ 87 + c))
        → ((d < 10) × (digit_glyph false d ≡ 48 + d)) ⊎ ((10 ≤ d) × (digit_glyph false d ≡ 87 + d)) → c ≡ d
    go (inl x) (inl y) = omega (arith, x.1, y.1, e)
    go (inl x) (inr y) = absurd (omega (arith, x.0, x.1, y.0, y.1, e))
    go (inr x) (inl y) = absurd (omega (arith, x.0, x.1, y.0, y.1, e))
    go (inr x) (inr y) = omega (arith, x.1, y.1, e)

pub decimal-glyph : (d : ℕ) → d < 10 → digit_glyph false d ≡ 48 + d
decimal-glyph d h = go (glyph_by d)
  where
    go : ((d < 10) × (digit_glyph false d ≡ 48 + d)) ⊎ ((10 ≤ d) × (digit_glyph false d ≡ 87 + d))
        → digit_glyph false d ≡ 48 + d
    go (inl x) = x.1
    go (inr x) = absurd (omega (arith, x.0, h))

module _ (base : ℕ) where
  abbrev onto : ℕ → ℕ → List ℕ → List ℕ
  onto k n acc = digits_onto k base false n acc

  turn : (k n : ℕ) (acc : List ℕ) (t : Bool) → nat_eq (n / base) 0 ≡ t
      → onto (suc k) n acc ≡ cond t (digit_glyph false (n % base) ∷ acc)
      (onto k (n / base) (digit_glyph false (n % base) ∷ acc))
  turn k n acc t e =
      ap (λ (b : Bool). cond b (digit_glyph false (n % base) ∷ acc)
      (onto k (n / base) (digit_glyph false (n % base) ∷ acc))) e

  pub onto-last : (k n : ℕ) (acc : List ℕ) → 0 < k → n / base ≡ 0
      → digits_onto k base false n acc ≡ digit_glyph false (n % base) ∷ acc
  onto-last zero n acc h e = absurd (omega arith)
  onto-last (suc k) n acc h e = turn k n acc true (eq-eqb _ 0 e)

  pub onto-step : (k n : ℕ) (acc : List ℕ) → 0 < k → n / base ≢ 0
      → digits_onto k base false n acc ≡ digits_onto (k - 1) base false (n / base) (digit_glyph false (n % base) ∷ acc)
  onto-step zero n acc h e = absurd (omega arith)
  onto-step (suc k) n acc h e =
      turn k n acc false (ne_eqb _ 0 e)
      ∙ ap (λ (j : ℕ). onto j (n / base) (digit_glyph false (n % base) ∷ acc)) {x = k} {y = suc k - 1} (omega arith)

  pub onto-append : (k n : ℕ) (acc rest : List ℕ) → onto k n (acc ++ rest) ≡ onto k n acc ++ rest
  onto-append zero n acc rest = refl
  onto-append (suc k) n acc rest =
      go (nat_eq (n / base) 0) (onto-append k (n / base) (digit_glyph false (n % base) ∷ acc) rest)
    where
      g : ℕ
      g = digit_glyph false (n % base)

      go : (b : Bool) → onto k (n / base) (g ∷ acc ++ rest) ≡ onto k (n / base) (g ∷ acc) ++ rest →
          cond b (g ∷ acc ++ rest) (onto k (n / base) (g ∷ acc ++ rest))
          ≡ cond b (g ∷ acc) (onto k (n / base) (g ∷ acc)) ++ rest
      go true e = refl
      go false e = e

  either : (P : List ℕ → Type 0) (b : Bool) (x y : List ℕ) → P x → P y → P (cond b x y)
  either P true x y h k = h
  either P false x y h k = k

  abbrev pub IsDigit : ℕ → Type 0
  IsDigit c = (d : ℕ) × (d < base) × (c ≡ digit_glyph false d)

  abbrev pub AreDigits : List ℕ → Type 0
  AreDigits text = All IsDigit text

  module _ (low : 10 ≤ base) (high : base ≤ 16) where
    onto-digits : (k n : ℕ) (acc : List ℕ) → AreDigits acc → AreDigits (onto k n acc)
    onto-digits zero n acc h = h
    onto-digits (suc k) n acc h =
        let more : AreDigits (digit_glyph false (n % base) ∷ acc) = let last : IsDigit (digit_glyph false (n % base)) =
        (n % base, mod-lt n (omega arith), refl) in All-cons IsDigit (digit_glyph false (n % base)) acc last h in
        either AreDigits (nat_eq (n / base) 0) (digit_glyph false (n % base) ∷ acc)
        (onto k (n / base) (digit_glyph false (n % base) ∷ acc)) more
        (onto-digits k (n / base) (digit_glyph false (n % base) ∷ acc) more)

    pub digits-are : (n : ℕ) → AreDigits (digits base false n)
    unfolding digits
    digits-are n = onto-digits 64 n [] (All-nil IsDigit)

    less : (k n : ℕ) → n < base ^ suc k → n / base < base ^ k
    less k n h = (div-lt_iff_lt-mul (omega arith)).1 (omega (arith, pow-suc base k))

    -- one more digit of capacity changes nothing
    onto-room : (k n : ℕ) (acc : List ℕ) → 0 < k → n < base ^ k → onto k n acc ≡ onto (suc k) n acc
    onto-room zero n acc some h = absurd (omega arith)
    onto-room (suc zero) n acc some h = go (nat_eq (n / base) 0) refl
      where
        go : (t : Bool) → nat_eq (n / base) 0 ≡ t → onto 1 n acc ≡ onto 2 n acc
        go true e = turn 0 n acc true e ∙ sym (turn 1 n acc true e)
        go false e = absurd (let under = less 0 n h in eqb-false (n / base) 0 e (omega (arith, pow-zero base)))
    onto-room (suc (suc k)) n acc some h =
        go (nat_eq (n / base) 0) refl
        (onto-room (suc k) (n / base) (digit_glyph false (n % base) ∷ acc) (omega arith) (less (suc k) n h))
      where
        g : ℕ
        g = digit_glyph false (n % base)

        go : (t : Bool) → nat_eq (n / base) 0 ≡ t
            → onto (suc k) (n / base) (g ∷ acc) ≡ onto (suc (suc k)) (n / base) (g ∷ acc)
            → onto (suc (suc k)) n acc ≡ onto (suc (suc (suc k))) n acc
        go true e more = turn (suc k) n acc true e ∙ sym (turn (suc (suc k)) n acc true e)
        go false e more = turn (suc k) n acc false e ∙ more ∙ sym (turn (suc (suc k)) n acc false e)

    pub digits-one : (d : ℕ) → d < base → digits base false d ≡ digit_glyph false d ∷ []
    unfolding digits
    digits-one d h =
        let none : d / base ≡ 0 = div-eq_of_lt h in
        let whole = rw none at (div-add-mod' d base) in
        let same : d % base ≡ d = omega (arith, whole) in
        onto-last 64 d [] (omega arith) none ∙ ap (λ (x : ℕ). digit_glyph false x ∷ []) same

    pub digits-push : (n d : ℕ) → d < base → 0 < n → n < base ^ 63
        → digits base false (n * base + d) ≡ digits base false n ++ digit_glyph false d ∷ []
    unfolding digits
    digits-push n d h some fits =
        let m : ℕ = n * base + d in
        let front : m / base ≡ n = div-mul-add n base d h in
        let whole = rw front at (div-add-mod' m base) in
        let last : m % base ≡ d = omega (arith, whole) in
        onto-step 64 m [] (omega arith) (λ e. omega (arith, front, e, some))
        ∙ ap (λ (x : ℕ). onto 63 x (digit_glyph false (m % base) ∷ [])) front
        ∙ ap (λ (x : ℕ). onto 63 n (digit_glyph false x ∷ [])) last
        ∙ onto-append 63 n [] (digit_glyph false d ∷ [])
        ∙ ap (λ (x : List ℕ). x ++ digit_glyph false d ∷ []) (onto-room 63 n [] (omega arith) fits)

    pub no_zero : (d : ℕ) → 0 < d → digit_glyph false d ≢ 48
    no_zero d some e = let same = glyph-injective d 0 e in omega arith

    -- a number above 0 does not begin with a zero
    onto-first : (k n : ℕ) (acc : List ℕ) → 0 < n → n < base ^ k → get_or (onto k n acc) 0 0 ≢ 48
    onto-first zero n acc some h = absurd (omega (arith, pow-zero base))
    onto-first (suc k) n acc some h =
        go (nat_eq (n / base) 0) refl
        (λ more. onto-first k (n / base) (digit_glyph false (n % base) ∷ acc) more (less k n h))
      where
        g : ℕ
        g = digit_glyph false (n % base)

        go : (t : Bool) → nat_eq (n / base) 0 ≡ t → (0 < n / base → get_or (onto k (n / base) (g ∷ acc)) 0 0 ≢ 48)
            → get_or (onto (suc k) n acc) 0 0 ≢ 48
        go true e more =
            rw (turn k n acc true e)
            (no_zero (n % base) (let none = eqb-true (n / base) 0 e in let whole = rw none at (div-add-mod' n base) in
            omega (arith, whole)))
        go false e more = rw (turn k n acc false e) (more (let not_zero = eqb-false (n / base) 0 e in omega arith))

    pub digits-first : (n : ℕ) → 0 < n → n < base ^ 64 → get_or (digits base false n) 0 0 ≢ 48
    unfolding digits
    digits-first n some h = onto-first 64 n [] some h

    pub digits-value : (n : ℕ) → n < base ^ 64 → digits_value base (digits base false n) ≡ n
    digits-value n h = (digits_is_IsNumeral base false (omega arith) high n h).1

    pub digits-some : (n : ℕ) → n < base ^ 64 → 0 < length (digits base false n)
    digits-some n h = (digits_is_IsNumeral base false (omega arith) high n h).0.0

    pub digit_value-glyph : (d : ℕ) → d < base → digit_value (digit_glyph false d) ≡ d
    digit_value-glyph d h =
        let one =
        ap (digits_value base) (digits-one d h) in let value =
        digits-value d (let wide = pow-le-pow_left low 64 in omega arith) in omega (arith, one, value)

pub onto-all : (base n : ℕ) → digits_onto 64 base false n [] ≡ digits base false n
unfolding digits
onto-all base n = refl

pub decimal-less : (k n : ℕ) → 0 < k → n < 10 ^ k → n / 10 < 10 ^ (k - 1)
decimal-less zero n some h = absurd (omega arith)
decimal-less (suc k) n some h =
    let back : k ≡ suc k - 1 =
    omega arith in subst (λ (j : ℕ). n / 10 < 10 ^ j) back (less 10 (omega arith) (omega arith) k n h)

pub decimal-more : (k n : ℕ) → 10 ≤ n → n < 10 ^ k → 2 ≤ k
decimal-more zero n more h = absurd (omega (arith, pow-zero 10))
decimal-more (suc zero) n more h = absurd (omega arith)
decimal-more (suc (suc k)) n more h = omega arith

-- a digit is put before the digits so far, and more follow
pub decimal-step : (k n : ℕ) (acc : List ℕ) → 0 < k → 10 ≤ n
    → digits_onto k 10 false n acc ≡ digits_onto (k - 1) 10 false (n / 10) ((48 + n % 10) ∷ acc)
decimal-step k n acc some more =
    onto-step 10 k n acc some (λ e. omega (arith, e))
    ∙ ap (λ (g : ℕ). digits_onto (k - 1) 10 false (n / 10) (g ∷ acc)) (decimal-glyph (n % 10) (omega arith))

-- the last digit
pub decimal-last : (k n : ℕ) (acc : List ℕ) → 0 < k → n < 10 → digits_onto k 10 false n acc ≡ (48 + n) ∷ acc
decimal-last k n acc some bound =
    let same : n % 10 ≡ n = omega arith in
    onto-last 10 k n acc some (omega arith)
    ∙ ap (λ (g : ℕ). g ∷ acc) (decimal-glyph (n % 10) (omega arith) ∙ ap (λ (d : ℕ). 48 + d) same)

-- two digits at a time
pub decimal-less_two : (k n : ℕ) → 100 ≤ n → n < 10 ^ k → (3 ≤ k) × (n / 100 < 10 ^ (k - 2))
decimal-less_two k n more h =
    let two = decimal-more k n (omega (arith, more)) h in
    let less = decimal-less k n (omega (arith, two)) h in
    let three = decimal-more (k - 1) (n / 10) (omega (arith, more)) less in
    let least = decimal-less (k - 1) (n / 10) (omega (arith, three)) less in
    let hundredth : n / 10 / 10 ≡ n / 100 = omega arith in
    let fewer : k - 1 - 1 ≡ k - 2 = omega arith in (
      omega (arith, three),
      subst (λ (q : ℕ). q < 10 ^ (k - 2)) hundredth
          (subst (λ (j : ℕ). n / 10 / 10 < 10 ^ j) fewer least),
    )

pub decimal-step_two : (k n : ℕ) (acc : List ℕ) → 2 ≤ k → 100 ≤ n →
    digits_onto k 10 false n acc
    ≡ digits_onto (k - 2) 10 false (n / 100) ((48 + n % 100 / 10) ∷ (48 + n % 100 % 10) ∷ acc)
decimal-step_two k n acc some more =
    let tens : n / 10 % 10 ≡ n % 100 / 10 = omega arith in
    let ones : n % 10 ≡ n % 100 % 10 = omega arith in
    let hundredth : n / 10 / 10 ≡ n / 100 = omega arith in
    let fewer : k - 1 - 1 ≡ k - 2 = omega arith in
    decimal-step k n acc (omega (arith, some)) (omega (arith, more))
    ∙ decimal-step (k - 1) (n / 10) ((48 + n % 10) ∷ acc) (omega (arith, some)) (omega (arith, more))
    ∙ ap (λ (j : ℕ). digits_onto j 10 false (n / 10 / 10) ((48 + n / 10 % 10) ∷ (48 + n % 10) ∷ acc)) fewer
    ∙ ap (λ (q : ℕ). digits_onto (k - 2) 10 false q ((48 + n / 10 % 10) ∷ (48 + n % 10) ∷ acc)) hundredth
    ∙ ap (λ (t : ℕ). digits_onto (k - 2) 10 false (n / 100) ((48 + t) ∷ (48 + n % 10) ∷ acc)) tens
    ∙ ap (λ (o : ℕ). digits_onto (k - 2) 10 false (n / 100) ((48 + n % 100 / 10) ∷ (48 + o) ∷ acc)) ones

pub decimal-last_two : (k n : ℕ) (acc : List ℕ) → 2 ≤ k → 10 ≤ n → n < 100
    → digits_onto k 10 false n acc ≡ (48 + n / 10) ∷ (48 + n % 10) ∷ acc
decimal-last_two k n acc some more bound =
    decimal-step k n acc (omega (arith, some)) more
    ∙ decimal-last (k - 1) (n / 10) ((48 + n % 10) ∷ acc) (omega (arith, some)) (omega (arith, bound))

pub decimal-whole : (n : ℕ) (acc : List ℕ) → digits_onto 64 10 false n acc ≡ digits 10 false n ++ acc
unfolding digits
decimal-whole n acc = onto-append 10 64 n [] acc

pub hex-less : (i rest : ℕ) → 0 < i → rest < 16 ^ i → rest / 16 < 16 ^ (i - 1)
hex-less zero rest some h = absurd (omega arith)
hex-less (suc i) rest some h =
    let back : i ≡ suc i - 1 =
    omega arith in subst (λ (k : ℕ). rest / 16 < 16 ^ k) back (less 16 (omega arith) (omega arith) i rest h)
