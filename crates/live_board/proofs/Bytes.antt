-- A word depends on its eight bytes, and a bit of a word is a bit of a byte.
use Rattle.std.proofs.Common.{◌≡◌, ◌≢◌, ◌⊎◌, inl, inr, ℕ, zero, suc, ◌+◌, ◌-◌, ◌*◌, ◌/◌, ◌^◌, ◌<◌, ◌≤◌, List, ◌++◌, take, drop, length, get_or, refl, sym, ap, ◌∙◌, arith}
use Rattle.std.specs.Prelude.{bit_or}
use Rattle.std.specs.Int.{bit_at, from_le_bytes, to_le_bytes, w64}
use Rattle.std.specs.Int.Bits.{or_add_and}
use Rattle.std.proofs.lemmas.List.{get_or-take, get_or-drop, get_or-set_same, get_or-set_other}
use Rattle.std.proofs.lemmas.Nat.Bits.{and_pow, bit_at_cat_low, bit_at_cat_high}
use Rattle.std.proofs.Math.Nat.{mul_left_comm}
use Rattle.std.proofs.lemmas.Nat.{pow-add, from_le_bytes-to_le_bytes_8}
use Rattle.std.proofs.lemmas.List.{append_assoc, length-take-le}
use Rattle.std.proofs.Math.Seq.{take-append_seam, drop-append_seam}
use Rattle.gpa_space.specs.Page.{overwritten, with_slot, with_bit}
use Rattle.synic_board.proofs.keeping.Slots.{overwritten-other}
use Rattle.synic_board.proofs.keeping.Left.{slot-other}
use Rattle.std.proofs.lemmas.Bool.{cases_lt}
use Rattle.live_board.specs.Words.{word_at}

-- eight bytes as a word
abbrev pub joined : (ℕ → ℕ) → ℕ
joined f = f 0 + 256 * (f 1 + 256 * (f 2 + 256 * (f 3 + 256 * (f 4 + 256 * (f 5 + 256 * (f 6 + 256 * f 7))))))

byte_at : (page : List ℕ) (at i : ℕ) → i < 8 → get_or (take 8 (drop at page)) i 0 ≡ get_or page (at + i) 0
byte_at page at i low = get_or-take 8 (drop at page) i 0 low ∙ get_or-drop at page i 0

pub word-bytes : (page : List ℕ) (at : ℕ) → word_at page at ≡ joined (λ i. get_or page (at + i) 0)
word-bytes page at =
    let b = λ (i : ℕ) (h : i < 8). byte_at page at i h in
    rw (
      b 0 (omega arith),
      b 1 (omega arith),
      b 2 (omega arith),
      b 3 (omega arith),
      b 4 (omega arith),
      b 5 (omega arith),
      b 6 (omega arith),
      b 7 (omega arith),
    ) (omega arith)

-- pages with the same eight bytes have the same word
pub same-word : (page other : List ℕ) (at : ℕ) → ((i : ℕ) → i < 8 → get_or page (at + i) 0 ≡ get_or other (at + i) 0)
    → word_at page at ≡ word_at other at
same-word page other at same =
    let b = λ (i : ℕ) (h : i < 8). same i h in
    word-bytes page at
    ∙ rw (
      b 0 (omega arith),
      b 1 (omega arith),
      b 2 (omega arith),
      b 3 (omega arith),
      b 4 (omega arith),
      b 5 (omega arith),
      b 6 (omega arith),
      b 7 (omega arith),
    ) refl
    ∙ sym (word-bytes other at)

-- an or with one bit
pub or-one : (n k : ℕ) → bit_or n (2 ^ k) + bit_at n k * 2 ^ k ≡ n + 2 ^ k
or-one n k = omega (arith, or_add_and n (2 ^ k), and_pow n k)

-- the bits of a number whose lowest byte is b
low-bit : (a b i : ℕ) → i < 8 → bit_at (b + 256 * a) i ≡ bit_at b i
low-bit a b i h = let e : b + 256 * a ≡ a * 2 ^ 8 + b = omega arith in ap (λ n. bit_at n i) e ∙ bit_at_cat_low a 8 b i h

high-bit : (a b i : ℕ) → b < 256 → bit_at (b + 256 * a) (8 + i) ≡ bit_at a i
high-bit a b i h =
    let e : b + 256 * a ≡ a * 2 ^ 8 + b = omega arith in
    let k : 8 + i - 8 ≡ i = omega arith in
    ap (λ n. bit_at n (8 + i)) e ∙ bit_at_cat_high a 8 b (8 + i) h (omega arith) ∙ ap (bit_at a) k

-- n + 1 bytes as a number
tail : ℕ → (ℕ → ℕ) → ℕ
tail zero f = f 0
tail (suc n) f = f 0 + 256 * tail n (λ i. f (suc i))

tail-is : (f : ℕ → ℕ) → tail 7 f ≡ joined f
unfolding tail
tail-is f = refl

tail-bit : (n j m : ℕ) (f : ℕ → ℕ) → ((i : ℕ) → i ≤ n → f i < 256) → j ≤ n → m < 8
    → bit_at (tail n f) (8 * j + m) ≡ bit_at (f j) m
unfolding tail
tail-bit zero zero m f bytes low under = let e : 8 * 0 + m ≡ m = omega arith in ap (bit_at (f 0)) e
tail-bit zero (suc j) m f bytes low under = absurd (omega (arith, low))
tail-bit (suc n) zero m f bytes low under =
    let e : 8 * 0 + m ≡ m = omega arith in
    ap (bit_at (f 0 + 256 * tail n (λ i. f (suc i)))) e ∙ low-bit (tail n (λ i. f (suc i))) (f 0) m under
tail-bit (suc n) (suc j) m f bytes low under =
    let e : 8 * suc j + m ≡ 8 + (8 * j + m) = omega arith in
    ap (bit_at (f 0 + 256 * tail n (λ i. f (suc i)))) e
    ∙ high-bit (tail n (λ i. f (suc i))) (f 0) (8 * j + m) (bytes 0 (omega arith))
    ∙ tail-bit n j m (λ i. f (suc i)) (λ i h. bytes (suc i) (omega arith)) (omega arith) under

tail-same : (n : ℕ) (f g : ℕ → ℕ) → ((i : ℕ) → i ≤ n → g i ≡ f i) → tail n g ≡ tail n f
unfolding tail
tail-same zero f g same = same 0 (omega arith)
tail-same (suc n) f g same =
    let first =
    same 0 (omega arith) in let rest =
    tail-same n (λ i. f (suc i)) (λ i. g (suc i)) (λ i h. same (suc i) (omega arith)) in omega (arith, first, rest)

-- one bit of byte j is set
tail-set : (n j m : ℕ) (f g : ℕ → ℕ) → j ≤ n → ((i : ℕ) → i ≤ n → i ≢ j → g i ≡ f i) → g j ≡ bit_or (f j) (2 ^ m)
    → tail n g + bit_at (f j) m * 2 ^ (8 * j + m) ≡ tail n f + 2 ^ (8 * j + m)
unfolding tail
tail-set zero zero m f g low same is =
    let e : 8 * 0 + m ≡ m = omega arith in rw e (let one = or-one (f 0) m in omega (arith, one, is))
tail-set zero (suc j) m f g low same is = absurd (omega (arith, low))
tail-set (suc n) zero m f g low same is =
    let e : 8 * 0 + m ≡ m = omega arith in
    let rest = tail-same n (λ i. f (suc i)) (λ i. g (suc i))
    (λ i h. same (suc i) (omega arith) (λ z. omega (arith, z))) in
    rw e (let one = or-one (f 0) m in omega (arith, one, is, rest))
tail-set (suc n) (suc j) m f g low same is =
    let p : 2 ^ (8 * suc j + m) ≡ 256 * 2 ^ (8 * j + m) =
    ap (λ k. 2 ^ k) (let e : 8 * suc j + m ≡ 8 + (8 * j + m) = omega arith in e) ∙ pow-add 2 8 (8 * j + m) in
    let first = same 0 (omega arith) (λ z. omega (arith, z)) in
    let rest = tail-set n j m (λ i. f (suc i)) (λ i. g (suc i)) (omega arith)
    (λ i h ne. same (suc i) (omega arith) (λ z. ne (omega (arith, z)))) is in
    let scaled : bit_at (f (suc j)) m * (256 * 2 ^ (8 * j + m)) ≡ 256 * (bit_at (f (suc j)) m * 2 ^ (8 * j + m)) =
    mul_left_comm (bit_at (f (suc j)) m) 256 (2 ^ (8 * j + m)) in
    rw p (omega (arith, first, rest, scaled))

-- so one bit of the word is set
pub joined-set : (j m : ℕ) (f g : ℕ → ℕ) → j < 8 → m < 8 → ((i : ℕ) → i < 8 → f i < 256)
    → ((i : ℕ) → i < 8 → i ≢ j → g i ≡ f i) → g j ≡ bit_or (f j) (2 ^ m)
    → joined g ≡ bit_or (joined f) (2 ^ (8 * j + m))
joined-set j m f g low under bytes same is =
    let k : ℕ = 8 * j + m in
    let bit = sym (ap (λ n. bit_at n k) (tail-is f))
    ∙ tail-bit 7 j m f (λ i h. bytes i (omega arith)) (omega arith) under in
    let change = tail-set 7 j m f g (omega arith) (λ i h. same i (omega arith)) is in
    let one = or-one (joined f) k in
    let worth = ap (λ b. b * 2 ^ k) bit in
    omega (arith, change, one, worth, tail-is f, tail-is g)

-- a bit of a byte of a page is a bit of the word that has the byte
pub bit-here : (page : List ℕ) (w j m : ℕ) → j < 8 → m < 8 → 8 * w + 8 ≤ length page
    → ((i : ℕ) → i < 8 → get_or page (8 * w + i) 0 < 256)
    → word_at (with_bit page (8 * w + j) m) (8 * w) ≡ bit_or (word_at page (8 * w)) (2 ^ (8 * j + m))
bit-here page w j m low under fits bytes =
    let byte : ℕ = bit_or (get_or page (8 * w + j) 0) (2 ^ m) in
    word-bytes (with_bit page (8 * w + j) m) (8 * w)
    ∙ joined-set j m (λ i. get_or page (8 * w + i) 0)
    (λ i. get_or (with_bit page (8 * w + j) m) (8 * w + i) 0) low under bytes
    (λ i h ne. get_or-set_other page (8 * w + j) (8 * w + i) byte 0 (λ e. ne (omega (arith, e))))
    (get_or-set_same page (8 * w + j) byte 0 (omega arith))
    ∙ ap (λ n. bit_or n (2 ^ (8 * j + m))) (sym (word-bytes page (8 * w)))

-- and no bit of another word
pub bit-elsewhere : (page : List ℕ) (at m x : ℕ) → at / 8 ≢ x
    → word_at (with_bit page at m) (8 * x) ≡ word_at page (8 * x)
bit-elsewhere page at m x ne =
    same-word (with_bit page at m) page (8 * x)
    (λ i h. get_or-set_other page at (8 * x + i) (bit_or (get_or page at 0) (2 ^ m)) 0 (λ e. ne (omega (arith, e))))

-- a word that is overwritten, and the other words
pub word-written : (page : List ℕ) (w value : ℕ) → 8 * w + 8 ≤ length page → value < 2 ^ 64
    → word_at (overwritten page (8 * w) (to_le_bytes w64 value)) (8 * w) ≡ value
word-written page w value fits small =
    let bytes : List ℕ = to_le_bytes w64 value in
    let rest : List ℕ = drop (8 * w + 8) page in
    let whole = ap (drop (8 * w)) (append_assoc (take (8 * w) page) bytes rest) in
    let seam = rw (length-take-le (8 * w) page (omega arith)) at
    (drop-append_seam (take (8 * w) page) (bytes ++ rest)) in
    ap (from_le_bytes w64) (ap (take 8) (whole ∙ seam) ∙ take-append_seam bytes rest)
    ∙ from_le_bytes-to_le_bytes_8 value small

pub word-elsewhere : (page bytes : List ℕ) (w x : ℕ) → length bytes ≡ 8 → 8 * w + 8 ≤ length page → x ≢ w
    → word_at (overwritten page (8 * w) bytes) (8 * x) ≡ word_at page (8 * x)
word-elsewhere page bytes w x size fits ne =
    same-word (overwritten page (8 * w) bytes) page (8 * x)
    (λ i h. overwritten-other page bytes (8 * w) (8 * x + i) (omega (arith, size)) (side i h (cases_lt x w)))
  where
    side : (i : ℕ) → i < 8 → (x < w) ⊎ (w ≤ x) → (8 * x + i < 8 * w) ⊎ (8 * w + length bytes ≤ 8 * x + i)
    side i h (inl less) = inl (omega (arith, h))
    side i h (inr le) = inr (let more : w < x = omega (arith, ne) in omega (arith, size, more))

-- the words of another slot
pub slot-elsewhere : (page bytes : List ℕ) (j i w : ℕ) → length page ≡ 4096 → length bytes ≡ 256 → j < 16 → i < 16
    → i ≢ j → w < 32 → word_at (with_slot page j bytes) (8 * (32 * i + w)) ≡ word_at page (8 * (32 * i + w))
slot-elsewhere page bytes j i w long size inside under ne low =
    same-word (with_slot page j bytes) page (8 * (32 * i + w))
    (λ b h. (let e : 8 * (32 * i + w) + b ≡ 256 * i + (8 * w + b) = omega arith in
    ap (λ n. get_or (with_slot page j bytes) n 0) e
    ∙ slot-other page bytes j i (8 * w + b) long size inside under ne (omega arith)
    ∙ ap (λ n. get_or page n 0) (sym e)))

-- a bit of a word is one of a byte of the page
pub bit-of : (page : List ℕ) (w j m : ℕ) → j < 8 → m < 8 → ((i : ℕ) → i < 8 → get_or page (8 * w + i) 0 < 256)
    → bit_at (word_at page (8 * w)) (8 * j + m) ≡ bit_at (get_or page (8 * w + j) 0) m
bit-of page w j m low under bytes =
    let f = λ (i : ℕ). get_or page (8 * w + i) 0 in
    ap (λ n. bit_at n (8 * j + m)) (word-bytes page (8 * w) ∙ sym (tail-is f))
    ∙ tail-bit 7 j m f (λ i h. bytes i (omega arith)) (omega arith) under
