-- What a source has read and taken so far.
use Rattle.std.proofs.Common.{◌≡◌, ◌≢◌, ℕ, ◌+◌, ◌-◌, ◌<◌, ◌≤◌, min, zero, suc, List, [], ◌∷◌, ◌++◌, length, length-append, take, drop, get_or, slice_range, Option, refl, sym, ap, ◌∙◌, arith, append_assoc}
use Rattle.std.proofs.Math.Seq.{split_at, take-append-add}
use Rattle.std.proofs.lemmas.Slice.{take-put_mid}
use Rattle.std.proofs.lemmas.List.Edits.{take-paste, length-paste}
use Rattle.std.specs.List.{copy_within}
use borrow.Rule.Slice.PartMut.{put_mid}
use Rattle.std.proofs.lemmas.List.{take_all, length-take, take-append-drop, take-take, drop-take, drop-drop, drop-append-le, length-drop, length-take-le}
use Rattle.std.specs.Io.KnownBytes.{Consumes}
use Rattle.text_base.specs.Buffered.{Buffered}
use Rattle.text_base.specs.Outputs.{Written, HasSame}
use Rattle.text_base.specs.Lines.{IsOneLine}
use Rattle.text_base.specs.Streams.{Grows}

-- more bytes were read, and appended to the buffered ones
pub record SearchedSoFar (r0 r : Option (List ℕ)) (output0 output : Written) (old now : Buffered) : Type 0 where
  pub came : List ℕ
  pub reads : Consumes r0 r came
  pub same : HasSame output0 output
  pub grows : Grows old now came

pub one-append : (xs ys : List ℕ) → IsOneLine xs → IsOneLine ys → IsOneLine (xs ++ ys)
one-append [] ys h k = k
one-append (x ∷ xs) ys h k = (h.0, one-append xs ys h.1 k)

pub one-take : (xs : List ℕ) (k : ℕ) → IsOneLine xs → IsOneLine (take k xs)
one-take xs zero h = tt
one-take [] (suc k) h = tt
one-take (x ∷ xs) (suc k) h = (h.0, one-take xs k h.1)

pub one-get : (xs : List ℕ) (k : ℕ) → IsOneLine xs → k < length xs → get_or xs k 0 ≢ 10
one-get [] k h within e = absurd (omega arith)
one-get (x ∷ xs) zero h within e = h.0 e
one-get (x ∷ xs) (suc k) h within e = one-get xs k h.1 (omega arith) e

pub one-search : (xs : List ℕ) (k : ℕ) → ((j : ℕ) → j < k → j < length xs → get_or xs j 0 ≢ 10) → IsOneLine (take k xs)
one-search xs zero h = tt
one-search [] (suc k) h = tt
one-search (x ∷ xs) (suc k) h =
    (h 0 (omega arith) (omega arith), one-search xs k (λ j less within. h (suc j) (omega arith) (omega arith)))

-- cut at a place of the front
pub cut_at : (u v : List ℕ) (k : ℕ) → k < length u → u ++ v ≡ take k u ++ get_or u k 0 ∷ drop (k + 1) (u ++ v)
cut_at u v k within =
    let next : suc k ≡ k + 1 = omega arith in
    let tail : drop (suc k) u ++ v ≡ drop (k + 1) (u ++ v) =
    ap (λ (n : ℕ). drop n u ++ v) next ∙ sym (drop-append-le (k + 1) u v (omega arith)) in
    ap (λ (x : List ℕ). x ++ v) (split_at u k 0 within) ∙ append_assoc (take k u) (get_or u k 0 ∷ drop (suc k) u) v
    ∙ ap (λ (x : List ℕ). take k u ++ get_or u k 0 ∷ x) tail

-- what is left after the first bytes
pub range-left : (bytes : List ℕ) (at j end : ℕ) → at + j ≤ end
    → drop j (slice_range bytes at end) ≡ slice_range bytes (at + j) end
range-left bytes at j end fits =
    let long : end - at ≡ j + (end - (at + j)) = omega arith in
    ap (λ (n : ℕ). drop j (take n (drop at bytes))) long ∙ drop-take j (end - (at + j)) (drop at bytes)
    ∙ ap (take (end - (at + j))) (drop-drop j at bytes)

pub take_short : (n : ℕ) (xs : List ℕ) → length (take n xs) ≤ n
take_short zero xs = omega arith
take_short (suc n) [] = omega arith
take_short (suc n) (x ∷ xs) = let h = take_short n xs in omega arith

-- the buffered bytes, cut at an index that is near enough
pub piece-cut : (bytes : List ℕ) (at end n k : ℕ) → at ≤ end → k < length (take n (slice_range bytes at end)) →
    slice_range bytes at end
    ≡ take k (take n (slice_range bytes at end))
    ++ get_or (take n (slice_range bytes at end)) k 0 ∷ slice_range bytes (at + (k + 1)) end
piece-cut bytes at end n k fits within =
    let w = slice_range bytes at end in
    let all = take-append-drop n w in
    let room : k + 1 ≤ length w = omega (arith, within, ap length all, length-append (take n w) (drop n w)) in
    let bound : length w ≤ end - at = take_short (end - at) (drop at bytes) in
    sym all ∙ cut_at (take n w) (drop n w) k within
    ∙ ap (λ (x : List ℕ). take k (take n w) ++ get_or (take n w) k 0 ∷ x)
    (ap (drop (k + 1)) all ∙ range-left bytes at (k + 1) end (omega (arith, room, bound, fits)))

-- the first of the buffered bytes
pub range-front : (bytes : List ℕ) (at end n k : ℕ) → k ≤ n → k ≤ end - at
    → slice_range bytes at (at + k) ≡ take k (take n (slice_range bytes at end))
range-front bytes at end n k near within =
    let one : at + k - at ≡ k = omega arith in
    ap (λ (m : ℕ). take m (drop at bytes)) one ∙ sym (take-take k (end - at) (drop at bytes) within)
    ∙ sym (take-take k n (slice_range bytes at end) near)

-- the buffered bytes were moved to the front, and new ones were written after them
pub refill-bytes : (bytes buf : List ℕ) (at end room n : ℕ) → at ≤ end → end ≤ length bytes
    → end + room ≤ at + length bytes → length buf ≡ room → n ≤ room →
    take (length (slice_range bytes at end) + n)
    (put_mid (end - at) (end - at + room - (end - at)) (copy_within bytes at end 0) buf)
    ≡ slice_range bytes at end ++ take n buf
refill-bytes bytes buf at end room n range within fits long bound =
    let held = end - at in
    let moved = copy_within bytes at end 0 in
    let front = slice_range bytes at end in
    let behind : length (drop at bytes) ≡ length bytes - at = length-drop at bytes in
    let same : length moved ≡ length bytes = length-paste bytes 0 (drop at bytes) held (omega arith) (omega arith) in
    let first : take held moved ≡ front =
    ap (λ (k : ℕ). take k moved) {x = held} {y = 0 + held} (omega arith)
    ∙ take-paste bytes 0 (drop at bytes) held (omega arith) (omega arith) in
    let many : length front ≡ held = length-take-le held (drop at bytes) (omega arith) in
    let all = put_mid held (held + room - held) moved buf in
    let whole : take (held + length buf) all ≡ front ++ buf =
    take-put_mid held (held + room - held) moved buf (held + length buf) refl (omega arith)
    ∙ ap (λ (x : List ℕ). x ++ buf) first in
    sym (take-take (length front + n) (held + length buf) all (omega arith)) ∙ ap (take (length front + n)) whole
    ∙ take-append-add front buf n

-- The near part of the buffered bytes has a line feed, or is all of them, or has 641 bytes.
module _ (bytes : List ℕ) (at end near : ℕ) (range : at ≤ end)
    (is : near ≡ min (length (slice_range bytes at end)) 641) where
  pub near-line : (k : ℕ) → k < length (take near (slice_range bytes at end))
      → IsOneLine (take k (take near (slice_range bytes at end)))
      → get_or (take near (slice_range bytes at end)) k 0 ≡ 10 →
      (slice_range bytes at end ≡ slice_range bytes at (at + k) ++ 10 ∷ slice_range bytes (at + (k + 1)) end)
      × IsOneLine (slice_range bytes at (at + k))
      × (length (slice_range bytes at (at + k)) ≤ 640)
  near-line k within one feed =
      let bound = take_short near (slice_range bytes at end) in
      let room : k ≤ near = omega arith in
      let all = length-take near (slice_range bytes at end) in
      let fits : k ≤ end - at = omega (arith, take_short (end - at) (drop at bytes)) in
      let front = range-front bytes at end near k room fits in
      let cut = piece-cut bytes at end near k range within in
      rw front (
        cut
            ∙ ap (λ (b : ℕ). take k (take near (slice_range bytes at end))
            ++ b ∷ slice_range bytes (at + (k + 1)) end) feed,
        one,
        omega (arith, take_short k (take near (slice_range bytes at end))),
      )

  pub near-all : IsOneLine (take near (slice_range bytes at end))
      → length (take near (slice_range bytes at end)) ≤ 640 →
      IsOneLine (slice_range bytes at end) × (length (slice_range bytes at end) ≤ 640)
  near-all one short =
      let all = length-take near (slice_range bytes at end) in
      let bound : length (slice_range bytes at end) ≤ 640 = omega arith in
      (rw (take_all near (slice_range bytes at end) (omega arith)) at one, bound)

  pub near-long : IsOneLine (take near (slice_range bytes at end))
      → 640 < length (take near (slice_range bytes at end)) →
      IsOneLine (take 641 (slice_range bytes at end)) × (641 ≤ length (slice_range bytes at end))
  near-long one long =
      let all = length-take near (slice_range bytes at end) in
      let many : near ≡ 641 = omega arith in
      (rw many at one, omega arith)
