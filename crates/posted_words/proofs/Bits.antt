-- How a raise and a sweep change the bits of the words.
use Rattle.std.proofs.Common.{◌≡◌, ℕ, ◌+◌, ◌<◌, ◌⊎◌, Bool, true, false, List, length, set, sym, ap, ◌∙◌, inl, inr, arith, get_or-set_same, get_or-set_other}
use Rattle.std.specs.Prelude.{◌==◌, ◌&&◌, bit_or, slice_index}
use mathlib.Core.Logic.{dite}
use native.Mathlib.Decide.{ℕ_discrete}
use mir.Syntax.{w64}
use Rattle.std.specs.Int.{bit_at}
use Rattle.std.proofs.lemmas.Bool.Decides.{nat_tests}
use Rattle.std.proofs.lemmas.Nat.Bits.{bit_at_set_same, bit_at_set_other, bit_at-lt, bit_at-zero}
use Rattle.posted_words.specs.declared.rule.Action.TheVariants.{Raise, Sweep}
use Rattle.posted_words.specs.Action.{is_fresh_at, takes_at, one_if}
use Rattle.posted_words.specs.inside.Posted.{mask_of}

-- a bit of a word is the raised one, or another
pub same_bit : (x w b k : ℕ) → ((x ≡ w) × (b ≡ k) × (((x == w) && (b == k)) ≡ true))
    ⊎ ((x ≡ w → b ≡ k → ⊥) × (((x == w) && (b == k)) ≡ false))
same_bit x w b k =
    dite (ℕ_discrete x w)
    (λ p. dite (ℕ_discrete b k) (λ q. inl (p, q, grind (arith, nat_tests)))
    (λ q. inr ((λ _ e. q e), grind (arith, nat_tests))))
    (λ p. inr ((λ e _. p e), grind (arith, nat_tests)))

-- the raised bit is set afterwards
pub raised_stands : (words : List ℕ) (w k x b n : ℕ) → w < length words → k < 64 → x ≡ w → b ≡ k
    → bit_at (slice_index (set words w (bit_or n (mask_of k))) x) b ≡ 1
raised_stands words w k x b n wide small p q =
    let words' : List ℕ = set words w (bit_or n (mask_of k)) in
    let here : slice_index words' x ≡ bit_or n (mask_of k) =
    ap (slice_index words') p ∙ get_or-set_same words w (bit_or n (mask_of k)) 0 wide in
    (λ i. bit_at (here i) (q i)) ∙ bit_at_set_same w64 n k small

-- a raise sets the bit if it was clear, and leaves every other
pub raised-bit : (words : List ℕ) (w k x b n : ℕ) → w < length words → n ≡ slice_index words w → k < 64
    → bit_at (slice_index (set words w (bit_or n (mask_of k))) x) b
    ≡ bit_at (slice_index words x) b + one_if (is_fresh_at x b (Raise w k (bit_at n k == 0)))
raised-bit words w k x b n wide is small =
    let words' : List ℕ = set words w (bit_or n (mask_of k)) in
    let f : Bool = bit_at n k == 0 in
    dite (ℕ_discrete x w)
    (λ p.
    let here : slice_index words' x ≡ bit_or n (mask_of k) =
    ap (slice_index words') p ∙ get_or-set_same words w (bit_or n (mask_of k)) 0 wide in
    let was : slice_index words x ≡ n = ap (slice_index words) p ∙ sym is in
    dite (ℕ_discrete b k)
    (λ q.
    let now : bit_at (slice_index words' x) b ≡ 1 = raised_stands words w k x b n wide small p q in
    let old : bit_at (slice_index words x) b ≡ bit_at n k = (λ i. bit_at (was i) (q i)) in
    let full = fills (bit_at n k) (bit_at-lt n k) x w b k p q in
    omega (arith, now, old, full))
    (λ q.
    let same : bit_at (slice_index words' x) b ≡ bit_at n b =
    ap (λ z. bit_at z b) here ∙ bit_at_set_other w64 n k small b q in
    let old : bit_at (slice_index words x) b ≡ bit_at n b = ap (λ z. bit_at z b) was in
    let none : one_if (is_fresh_at x b (Raise w k f)) ≡ 0 = grind (arith, nat_tests) in
    omega (arith, same, old, none)))
    (λ p.
    let same : bit_at (slice_index words' x) b ≡ bit_at (slice_index words x) b =
    ap (λ z. bit_at z b) (get_or-set_other words w x (bit_or n (mask_of k)) 0 p) in
    let none : one_if (is_fresh_at x b (Raise w k f)) ≡ 0 = grind (arith, nat_tests) in
    omega (arith, same, none))
  where
    fills : (t : ℕ) → t < 2 → (x w b k : ℕ) → x ≡ w → b ≡ k → 1 ≡ t + one_if (((x == w) && (b == k)) && (t == 0))
    fills t lt x w b k p q = grind (arith, nat_tests)

-- the mask of a bit determines the bit
pub mask_of-injective : (k j : ℕ) → k < 64 → j < 64 → mask_of k ≡ mask_of j → j ≡ k
mask_of-injective k j small little e =
    dite (ℕ_discrete j k)
    (λ p. p)
    (λ p.
    let one : bit_at (bit_or 0 (mask_of j)) j ≡ 1 = bit_at_set_same w64 0 j little in
    let other : bit_at (bit_or 0 (mask_of k)) j ≡ bit_at 0 j = bit_at_set_other w64 0 k small j p in
    let none = bit_at-zero j in
    let same : bit_at (bit_or 0 (mask_of k)) j ≡ bit_at (bit_or 0 (mask_of j)) j = ap (λ m. bit_at (bit_or 0 m) j) e in
    absurd (omega arith))

-- no bit of a word is set after a sweep of it
pub swept_is_clear : (words : List ℕ) (w x b : ℕ) → w < length words → x ≡ w
    → bit_at (slice_index (set words w 0) x) b ≡ 0
swept_is_clear words w x b wide p =
    ap (λ z. bit_at z b) (ap (slice_index (set words w 0)) p ∙ get_or-set_same words w 0 0 wide) ∙ bit_at-zero b

-- a sweep takes the bits that were set, and leaves every other word
pub swept-bit : (words : List ℕ) (w x b n : ℕ) → w < length words → n ≡ slice_index words w
    → bit_at (slice_index words x) b ≡ bit_at (slice_index (set words w 0) x) b + takes_at x b (Sweep w n)
swept-bit words w x b n wide is =
    dite (ℕ_discrete x w)
    (λ p.
    let gone : bit_at (slice_index (set words w 0) x) b ≡ 0 = swept_is_clear words w x b wide p in
    let old : bit_at (slice_index words x) b ≡ bit_at n b = ap (λ m. bit_at m b) (ap (slice_index words) p ∙ sym is) in
    let took : takes_at x b (Sweep w n) ≡ bit_at n b = grind (arith, nat_tests) in
    omega (arith, gone, took, old))
    (λ p.
    let same : bit_at (slice_index (set words w 0) x) b ≡ bit_at (slice_index words x) b =
    ap (λ z. bit_at z b) (get_or-set_other words w x 0 0 p) in
    let none : takes_at x b (Sweep w n) ≡ 0 = grind (arith, nat_tests) in
    omega (arith, same, none))
