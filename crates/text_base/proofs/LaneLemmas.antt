-- Digits as the lanes of a vector.
use Rattle.std.proofs.Common.{◌≡◌, ◌≢◌, ℕ, zero, suc, ◌+◌, ◌*◌, ◌-◌, ◌/◌, ◌%◌, ◌<◌, ◌≤◌, Bool, true, false, cond, eqb, eq-eqb, nat_lt, List, [], ◌∷◌, ◌++◌, ◌^◌, length, length-drop, append_assoc, get_or, take, drop, map, replicate, subst, Fits, w8, refl, sym, ap, ◌∙◌, arith}
use Rattle.std.specs.Fmt.{digits, digit_glyph}
use Rattle.std.specs.List.{range_with_len}
use Rattle.std.specs.Int.{from_be_bytes, w32}
use Rattle.text_base.proofs.NumberLemmas.{SoFar, so_far-start, so_far-more}
use Rattle.std.specs.Simd.Lanes.{zip2, sel_l, mask_l, top, pick_l, Each1}
use Rattle.std.proofs.lemmas.Simd.{zip2_splat, zip2_of_maps, splat_is_map, tops_compared, pick_l_whole}
use Rattle.std.proofs.lemmas.List.{take_all, take-append-drop, drop-drop, length-take, get_or-take}
use Rattle.std.proofs.lemmas.List.Elements.{All-nil, All-cons, All-append, All-get_or}
use Rattle.std.proofs.lemmas.Bool.Decides.{Decides-ltb}
use Rattle.text_base.specs.Numbers.{spelled, IsByte, AreBytes}
use Rattle.text_base.specs.inside.Lanes.{lane_value}
use Rattle.text_base.proofs.DigitLemmas.{decimal-glyph}

sel_maps : (m : ℕ → Bool) (f g : ℕ → ℕ) (vs : List ℕ)
    → sel_l (map m vs) (map f vs) (map g vs) ≡ map (λ v. cond (m v) (f v) (g v)) vs
sel_maps m f g [] = refl
sel_maps m f g (v ∷ vs) = ap (λ (rest : List ℕ). cond (m v) (f v) (g v) ∷ rest) (sel_maps m f g vs)

sel_of_maps : (m : ℕ → Bool) (f g : ℕ → ℕ) (vs : List ℕ) (ms : List Bool) (xs ys : List ℕ) → ms ≡ map m vs
    → xs ≡ map f vs → ys ≡ map g vs →
    sel_l ms xs ys ≡ map (λ v. cond (m v) (f v) (g v)) vs
sel_of_maps m f g vs ms xs ys p q r = (λ i. sel_l (p i) (q i) (r i)) ∙ sel_maps m f g vs

module _ (vs : List ℕ) (long : length vs ≡ 16) where
  -- the lanes less a constant
  abbrev minus : ℕ → List ℕ
  minus n = zip2 (λ (a b : ℕ). (a + (256 - b)) % 256) vs (replicate 16 n)

  -- whether the lanes are below a constant
  abbrev below : List ℕ → ℕ → List Bool
  below xs n = map (top 7) (zip2 (λ (a b : ℕ). cond (nat_lt a b) 255 0) xs (replicate 16 n))

  below-map : (f : ℕ → ℕ) (xs : List ℕ) (n : ℕ) → xs ≡ map f vs → below xs n ≡ map (λ v. nat_lt (f v) n) vs
  below-map f xs n is =
      tops_compared w8 nat_lt xs (replicate 16 n) ∙ zip2_of_maps nat_lt f (λ _. n) vs is (splat_is_map vs 16 n long)

  pub values-are :
      sel_l (below (minus 48) 10) (minus 48)
      (sel_l (below (minus 97) 6) (zip2 (λ (a b : ℕ). (a + b) % 256) (minus 97) (replicate 16 10))
      (replicate 16 255))
      ≡ map lane_value vs
  values-are =
      let digit = λ (c : ℕ). (c + 208) % 256 in
      let letter = λ (c : ℕ). (c + 159) % 256 in
      let digits : minus 48 ≡ map digit vs = zip2_splat (λ (a b : ℕ). (a + (256 - b)) % 256) vs 16 48 long in
      let letters : minus 97 ≡ map letter vs = zip2_splat (λ (a b : ℕ). (a + (256 - b)) % 256) vs 16 97 long in
      let tens = zip2_of_maps (λ (a b : ℕ). (a + b) % 256) letter (λ _. 10) vs letters (splat_is_map vs 16 10 long) in
      let others =
      sel_of_maps (λ c. nat_lt (letter c) 6) (λ c. (letter c + 10) % 256) (λ _. 255) vs _ _ _
      (below-map letter (minus 97) 6 letters) tens (splat_is_map vs 16 255 long) in
      sel_of_maps (λ c. nat_lt (digit c) 10) digit
      (λ c. cond (nat_lt (letter c) 6) ((letter c + 10) % 256) 255) vs _ _ _
      (below-map digit (minus 48) 10 digits) digits others

letter-glyph : (d : ℕ) → 10 ≤ d → digit_glyph false d ≡ 87 + d
letter-glyph d h = go (nat_lt d 10) refl
  where
    go : (b : Bool) → nat_lt d 10 ≡ b → cond b (48 + d) (87 + d) ≡ 87 + d
    go true e = absurd (let low = (Decides-ltb d 10).0 e in omega (arith, low, h))
    go false e = refl

abbrev digit : ℕ → ℕ
digit c = (c + 208) % 256

abbrev letter : ℕ → ℕ
letter c = (c + 159) % 256

-- a lane that is not 255 holds the value of a digit
pub lane-digit : (c : ℕ) → c < 256 → lane_value c ≢ 255 → (lane_value c < 16) × (c ≡ digit_glyph false (lane_value c))
lane-digit c small some = go (nat_lt (digit c) 10) refl (nat_lt (letter c) 6) refl some
  where
    go : (a : Bool) → nat_lt (digit c) 10 ≡ a → (b : Bool) → nat_lt (letter c) 6 ≡ b
        → cond a (digit c) (cond b ((letter c + 10) % 256) 255) ≢ 255 →
        (cond a (digit c) (cond b ((letter c + 10) % 256) 255) < 16)
        × (c ≡ digit_glyph false (cond a (digit c) (cond b ((letter c + 10) % 256) 255)))
    go true e b f not =
        let low = (Decides-ltb (digit c) 10).0 e in
        (omega (arith, low), omega (arith, small, low, decimal-glyph (digit c) low))
    go false e true f not =
        let low = (Decides-ltb (letter c) 6).0 f in
        let high : 10 ≤ (letter c + 10) % 256 = omega (arith, low) in
        (omega (arith, low), omega (arith, small, low, letter-glyph ((letter c + 10) % 256) high))
    go false e false f not = absurd (not refl)

-- each two lanes as one byte
abbrev pub pairs : List ℕ → List ℕ
pairs [] = []
pairs (high ∷ []) = []
pairs (high ∷ low ∷ vs) = ((high * 16 % 256 + low) % 256) ∷ pairs vs

-- no lane is 255
abbrev pub none_is_other : List ℕ → ℕ
none_is_other vs = mask_l (map (λ x. eqb x 255) vs)

clear : (v : ℕ) (vs : List ℕ) → none_is_other (v ∷ vs) ≡ 0 → (v ≢ 255) × (none_is_other vs ≡ 0)
clear v vs e = go (eqb v 255) refl e
  where
    go : (b : Bool) → eqb v 255 ≡ b → cond b 1 0 + 2 * none_is_other vs ≡ 0 → (v ≢ 255) × (none_is_other vs ≡ 0)
    go true is e = absurd (omega arith)
    go false is e = ((λ same. let yes = eq-eqb v 255 same in cc), omega arith)

-- the bytes that the digits of a text spell
pub spelled-pairs : (k : ℕ) (cs : List ℕ) → length cs ≡ k + k → Each1 IsByte cs
    → none_is_other (map lane_value cs) ≡ 0 →
    (cs ≡ spelled (pairs (map lane_value cs))) × (length (pairs (map lane_value cs)) ≡ k)
    × AreBytes (pairs (map lane_value cs))
spelled-pairs k [] long fit e = (refl, omega arith, All-nil IsByte)
spelled-pairs k (c ∷ []) long fit e = absurd (omega arith)
spelled-pairs zero (c ∷ d ∷ cs) long fit e = absurd (omega arith)
spelled-pairs (suc k) (c ∷ d ∷ cs) long fit e =
    let first = clear (lane_value c) (lane_value d ∷ map lane_value cs) e in
    let second = clear (lane_value d) (map lane_value cs) first.1 in
    let high = lane-digit c fit.0 first.0 in
    let low = lane-digit d fit.1.0 second.0 in
    let rest = spelled-pairs k cs (omega arith) fit.1.1 second.1 in
    let b : ℕ = (lane_value c * 16 % 256 + lane_value d) % 256 in
    let upper : b / 16 ≡ lane_value c = omega (arith, high.0, low.0) in
    let lower : b % 16 ≡ lane_value d = omega (arith, high.0, low.0) in (
      ap (λ (x : ℕ). x ∷ d ∷ cs) (high.1 ∙ ap (digit_glyph false) (sym upper))
          ∙ ap (λ (x : ℕ). digit_glyph false (b / 16) ∷ x ∷ cs) (low.1 ∙ ap (digit_glyph false) (sym lower))
          ∙ ap (λ (x : List ℕ). digit_glyph false (b / 16) ∷ digit_glyph false (b % 16) ∷ x) rest.0,
      omega (arith, rest.1),
      All-cons IsByte b (pairs (map lane_value cs)) (omega arith) rest.2,
    )

pub spelled-append : (xs ys : List ℕ) → spelled (xs ++ ys) ≡ spelled xs ++ spelled ys
spelled-append [] ys = refl
spelled-append (x ∷ xs) ys =
    ap (λ (rest : List ℕ). digit_glyph false (x / 16) ∷ digit_glyph false (x % 16) ∷ rest) (spelled-append xs ys)

-- eight bytes more were decoded
pub grow-eight : (text xs r bytes out : List ℕ) → text ≡ spelled xs ++ r → AreBytes xs → take 16 r ≡ spelled bytes
    → AreBytes bytes → out ≡ xs ++ bytes →
    (text ≡ spelled out ++ take (length r - 16) (drop 16 r)) × AreBytes out
grow-eight text xs r bytes out split all begins more is =
    let tail : take (length r - 16) (drop 16 r) ≡ drop 16 r =
    take_all (length r - 16) (drop 16 r) (omega (arith, length-drop 16 r)) in
    let cut : r ≡ spelled bytes ++ take (length r - 16) (drop 16 r) =
    sym (take-append-drop 16 r) ∙ ap (λ (x : List ℕ). x ++ drop 16 r) begins
    ∙ ap (λ (x : List ℕ). spelled bytes ++ x) (sym tail) in
    rw is (
      split ∙ ap (λ (x : List ℕ). spelled xs ++ x) cut
          ∙ sym (append_assoc (spelled xs) (spelled bytes) (take (length r - 16) (drop 16 r)))
          ∙ ap (λ (x : List ℕ). x ++ take (length r - 16) (drop 16 r)) (sym (spelled-append xs bytes)),
      All-append IsByte xs bytes all more,
    )

-- eight bytes before those that were spelled
pub eight-more : (bytes : List ℕ) (left : ℕ) → 8 ≤ left → left ≤ length bytes →
    spelled (take 8 (take (length bytes - (left - 8)) (drop (left - 8) bytes))) ++ spelled (drop left bytes)
    ≡ spelled (drop (left - 8) bytes)
eight-more bytes left eight within =
    let front : List ℕ = drop (left - 8) bytes in
    let whole : take (length bytes - (left - 8)) front ≡ front =
    take_all (length bytes - (left - 8)) front (omega (arith, length-drop (left - 8) bytes)) in
    let place : left - 8 + 8 ≡ left = omega (arith, eight) in
    let rest : drop left bytes ≡ drop 8 front =
    ap (λ (n : ℕ). drop n bytes) (sym place) ∙ sym (drop-drop 8 (left - 8) bytes) in
    (λ i. spelled (take 8 (whole i)) ++ spelled (rest i)) ∙ sym (spelled-append (take 8 front) (drop 8 front))
    ∙ ap spelled (take-append-drop 8 front)

-- the upper and the lower half of each byte
abbrev pub halves : List ℕ → List ℕ
halves [] = []
halves (b ∷ bytes) = (b / 16) ∷ (b * 16 % 256 / 16) ∷ halves bytes

abbrev upper : ℕ → ℕ
upper b = b / 16

abbrev lower : ℕ → ℕ
lower b = b * 16 % 256 / 16

abbrev glyph : ℕ → ℕ
glyph v = cond (nat_lt v 10) ((v + 48) % 256) ((v + 87) % 256)

abbrev places : List ℕ
places = 0 ∷ 8 ∷ 1 ∷ 9 ∷ 2 ∷ 10 ∷ 3 ∷ 11 ∷ 4 ∷ 12 ∷ 5 ∷ 13 ∷ 6 ∷ 14 ∷ 7 ∷ 15 ∷ []

interleaved : (bytes : List ℕ) → length bytes ≡ 8 → pick_l 0 (map upper bytes ++ map lower bytes) places ≡ halves bytes
interleaved bytes long =
    subst (λ (v : List ℕ). pick_l 0 (map upper v ++ map lower v) places ≡ halves v) (pick_l_whole 0 bytes 8 long) refl

glyph-is : (v : ℕ) → v < 16 → glyph v ≡ digit_glyph false v
glyph-is v small = go (nat_lt v 10) refl
  where
    go : (b : Bool) → nat_lt v 10 ≡ b → cond b ((v + 48) % 256) ((v + 87) % 256) ≡ cond b (48 + v) (87 + v)
    go true e = omega arith
    go false e = omega arith

glyphs-are : (bytes : List ℕ) → Each1 (Fits w8) bytes → map glyph (halves bytes) ≡ spelled bytes
glyphs-are [] fit = refl
glyphs-are (b ∷ bytes) fit =
    let small : b < 256 = fit.0.fits in
    let same : lower b ≡ b % 16 = omega (arith, small) in
    ap (λ (g : ℕ). g ∷ glyph (lower b) ∷ map glyph (halves bytes)) (glyph-is (b / 16) (omega (arith, small)))
    ∙ ap (λ (g : ℕ). digit_glyph false (b / 16) ∷ g ∷ map glyph (halves bytes))
    (ap glyph same ∙ glyph-is (b % 16) (omega arith))
    ∙ ap (λ (rest : List ℕ). digit_glyph false (b / 16) ∷ digit_glyph false (b % 16) ∷ rest) (glyphs-are bytes fit.1)

module _ (bytes : List ℕ) (long : length bytes ≡ 8) where
  abbrev shifted : List ℕ
  shifted = zip2 (λ (a b : ℕ). a / 2 ^ b) (zip2 (λ (a b : ℕ). a * 2 ^ b % 256) bytes (replicate 8 4)) (replicate 8 4)

  abbrev values : List ℕ
  values = pick_l 0 (zip2 (λ (a b : ℕ). a / 2 ^ b) bytes (replicate 8 4) ++ shifted) places

  are-halves : values ≡ halves bytes
  are-halves =
      let high = zip2_splat (λ (a b : ℕ). a / 2 ^ b) bytes 8 4 long in
      let up = zip2_splat (λ (a b : ℕ). a * 2 ^ b % 256) bytes 8 4 long in
      let low = zip2_of_maps (λ (a b : ℕ). a / 2 ^ b) (λ (a : ℕ). a * 16 % 256) (λ _. 4) bytes up
      (splat_is_map bytes 8 4 long) in
      (λ i. pick_l 0 (high i ++ low i) places) ∙ interleaved bytes long

  -- the glyphs of the halves of eight bytes spell them
  pub pairs-are : Each1 (Fits w8) bytes →
      sel_l (map (top 7) (zip2 (λ (a b : ℕ). cond (nat_lt a b) 255 0) values (replicate 16 10)))
      (zip2 (λ (a b : ℕ). (a + b) % 256) values (replicate 16 48))
      (zip2 (λ (a b : ℕ). (a + b) % 256) values (replicate 16 87))
      ≡ spelled bytes
  pairs-are fit =
      let test = tops_compared w8 nat_lt values (replicate 16 10) ∙ zip2_splat nat_lt values 16 10 refl in
      sel_of_maps (λ v. nat_lt v 10) (λ v. (v + 48) % 256) (λ v. (v + 87) % 256) values _ _ _ test
      (zip2_splat (λ (a b : ℕ). (a + b) % 256) values 16 48 refl)
      (zip2_splat (λ (a b : ℕ). (a + b) % 256) values 16 87 refl)
      ∙ ap (map glyph) are-halves ∙ glyphs-are bytes fit

-- zeros before bytes are bytes
pub padded-bytes : (n : ℕ) (cs : List ℕ) → Each1 IsByte cs → Each1 IsByte (replicate n 48 ++ cs)
padded-bytes zero cs h = h
padded-bytes (suc n) cs h = (omega arith, padded-bytes n cs h)

-- two digits more of a number, which are those of a byte
byte-more : (text : List ℕ) (i n b : ℕ) → i + 2 ≤ length text → get_or text 0 0 ≢ 48 → b < 256 → n < 2 ^ 32
    → get_or text i 0 ≡ digit_glyph false (b / 16) →
    get_or text (i + 1) 0 ≡ digit_glyph false (b % 16) → SoFar 16 text i n → SoFar 16 text (i + 2) (n * 256 + b)
byte-more text i n b within first small bound high low h =
    let one = so_far-more 16 text i n (b / 16) (omega arith) (omega arith) (omega arith) first (omega arith)
    (omega arith) high h in
    let two = so_far-more 16 text (i + 1) (n * 16 + b / 16) (b % 16) (omega arith) (omega arith) (omega arith) first
    (omega arith) (omega arith) low one in
    let place : i + 1 + 1 ≡ i + 2 = omega arith in
    let value : (n * 16 + b / 16) * 16 + b % 16 ≡ n * 256 + b = omega arith in
    subst (λ (m : ℕ). SoFar 16 text (i + 2) m) value
    (subst (λ (j : ℕ). SoFar 16 text j ((n * 16 + b / 16) * 16 + b % 16)) place two)

-- the number that eight digits denote
pub eight-number : (text bytes : List ℕ) (n : ℕ) → 8 ≤ length text → get_or text 0 0 ≢ 48
    → replicate 8 48 ++ pick_l 0 (take 8 text) (range_with_len 0 8) ≡ spelled bytes →
    length bytes ≡ 8 → AreBytes bytes
    → n ≡ from_be_bytes w32 (get_or bytes 4 0 ∷ get_or bytes 5 0 ∷ get_or bytes 6 0 ∷ get_or bytes 7 0 ∷ [])
    → take 8 text ≡ digits 16 false n
eight-number text bytes n fits first padded long all is =
    subst (λ (m : ℕ). take 8 text ≡ digits 16 false m) value (four.spells (omega arith))
  where
    small : (k : ℕ) → k < 8 → get_or bytes k 0 < 256
    small k less = All-get_or IsByte bytes k 0 (omega (arith, long)) all

    shown : take 8 text ≡ spelled (get_or bytes 4 0 ∷ get_or bytes 5 0 ∷ get_or bytes 6 0 ∷ get_or bytes 7 0 ∷ [])
    shown = sym (pick_l_whole 0 (take 8 text) 8 (omega (arith, fits, length-take 8 text)))
        ∙ ap (drop 8) (padded ∙ ap spelled (sym (pick_l_whole 0 bytes 8 long)))

    at : (i : ℕ) → i < 8 → get_or text i 0
        ≡ get_or (spelled (get_or bytes 4 0 ∷ get_or bytes 5 0 ∷ get_or bytes 6 0 ∷ get_or bytes 7 0 ∷ [])) i 0
    at i less = sym (get_or-take 8 text i 0 less) ∙ ap (λ (x : List ℕ). get_or x i 0) shown

    one : SoFar 16 text 2 (0 * 256 + get_or bytes 4 0)
    one = byte-more text 0 0 (get_or bytes 4 0) (omega (arith, fits)) first (small 4 (omega arith)) (omega arith)
        (at 0 (omega arith)) (at 1 (omega arith)) (so_far-start 16 text)

    two : SoFar 16 text 4 ((0 * 256 + get_or bytes 4 0) * 256 + get_or bytes 5 0)
    two = byte-more text 2 _ (get_or bytes 5 0) (omega (arith, fits)) first (small 5 (omega arith))
        (let s = small 4 (omega arith) in omega arith) (at 2 (omega arith)) (at 3 (omega arith)) one

    three : SoFar 16 text 6 (((0 * 256 + get_or bytes 4 0) * 256 + get_or bytes 5 0) * 256 + get_or bytes 6 0)
    three = byte-more text 4 _ (get_or bytes 6 0) (omega (arith, fits)) first (small 6 (omega arith))
        (let s = small 4 (omega arith) in let t = small 5 (omega arith) in omega arith)
        (at 4 (omega arith)) (at 5 (omega arith)) two

    four : SoFar 16 text 8
        ((((0 * 256 + get_or bytes 4 0) * 256 + get_or bytes 5 0) * 256 + get_or bytes 6 0) * 256 + get_or bytes 7 0)
    four = byte-more text 6 _ (get_or bytes 7 0) (omega (arith, fits)) first (small 7 (omega arith))
        (let s = small 4 (omega arith) in let t = small 5 (omega arith) in let u = small 6 (omega arith) in
        omega arith) (at 6 (omega arith)) (at 7 (omega arith)) three

    value : (((0 * 256 + get_or bytes 4 0) * 256 + get_or bytes 5 0) * 256 + get_or bytes 6 0) * 256 + get_or bytes 7
        0 ≡ n
    value = omega (arith, is)
