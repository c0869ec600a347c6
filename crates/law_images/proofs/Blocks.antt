-- Blocks of a page of which one is overwritten.
use Rattle.std.proofs.Common.{◌≡◌, ◌≢◌, ◌⊎◌, inl, inr, ℕ, ◌+◌, ◌*◌, ◌<◌, ◌≤◌, List, ◌++◌, length, get_or, take, drop, replicate, sym, ap, ◌∙◌, arith, length-append, length-take, length-drop}
use Rattle.std.proofs.lemmas.Bool.{cases_lt}
use Rattle.std.proofs.lemmas.List.{ext_get_or, get_or_append_left, get_or-append-add, get_or-take, get_or-drop, get_or-replicate, length-replicate}
use Rattle.std.proofs.lemmas.Slice.{between_is}
use Rattle.gpa_space.specs.Page.{zero_page, overwritten}
use Rattle.synic_board.proofs.keeping.Slots.{overwritten-other}
use Rattle.synic_board.proofs.keeping.Stores.{length-overwritten}
use Rattle.law_images.proofs.Printed.{block_of}

pub length-block : (page : List ℕ) (c : ℕ) → length page ≡ 4096 → c < 16 → length (block_of page c) ≡ 256
length-block page c l h =
    ap length (between_is page (256 * c) (256 * c + 256))
    ∙ omega (arith, length-drop (256 * c) (take (256 * c + 256) page), length-take (256 * c + 256) page)

pub byte-at : (page : List ℕ) (c i d : ℕ) → i < 256
    → get_or (drop (256 * c) (take (256 * c + 256) page)) i d ≡ get_or page (256 * c + i) d
byte-at page c i d h =
    get_or-drop (256 * c) (take (256 * c + 256) page) i d
    ∙ get_or-take (256 * c + 256) page (256 * c + i) d (omega arith)

byte-in : (page : List ℕ) (c i : ℕ) → i < 256 → get_or (block_of page c) i 0 ≡ get_or page (256 * c + i) 0
byte-in page c i h =
    ap (λ (xs : List ℕ). get_or xs i 0) (between_is page (256 * c) (256 * c + 256))
    ∙ byte-at page c i 0 h

same-block : (xs ys : List ℕ) → length xs ≡ 256 → length ys ≡ 256
    → ((i : ℕ) → i < 256 → get_or xs i 0 ≡ get_or ys i 0) → xs ≡ ys
same-block xs ys l k h = ext_get_or 0 xs ys (l ∙ sym k) (λ i below. h i (omega arith))

pub zero-block : (c : ℕ) → c < 16 → block_of zero_page c ≡ replicate 256 0
zero-block c h =
    same-block (block_of zero_page c) (replicate 256 0) (length-block zero_page c (length-replicate {A = ℕ} 4096 0) h)
    (length-replicate {A = ℕ} 256 0)
    (λ i below. byte-in zero_page c i below ∙ get_or-replicate 4096 (256 * c + i) 0 0 (omega arith)
    ∙ sym (get_or-replicate 256 i 0 0 below))

-- the block at c gets other bytes
pub block-here : (page bytes : List ℕ) (at c : ℕ) → length page ≡ 4096 → length bytes ≡ 256 → c < 16 → at ≡ 256 * c
    → block_of (overwritten page at bytes) c ≡ bytes
block-here page bytes at c l k h is =
    same-block (block_of (overwritten page at bytes) c) bytes
    (length-block (overwritten page at bytes) c (length-overwritten page bytes at l (omega arith)) h) k
    (λ i below. byte-in (overwritten page at bytes) c i below ∙ byte i below)
  where
    front : length (take at page) ≡ at
    front = omega (arith, length-take at page)

    byte : (i : ℕ) → i < 256 → get_or (overwritten page at bytes) (256 * c + i) 0 ≡ get_or bytes i 0
    byte i below =
        let at_byte : 256 * c + i ≡ length (take at page) + i = omega (arith, front) in
        let within : length (take at page) + i < length (take at page ++ bytes) =
        omega (arith, length-append (take at page) bytes) in
        ap (λ (j : ℕ). get_or (overwritten page at bytes) j 0) at_byte
        ∙ get_or_append_left (take at page ++ bytes) (drop (at + length bytes) page) 0
        (length (take at page) + i) within
        ∙ get_or-append-add (take at page) bytes i 0

pub block-other : (page bytes : List ℕ) (at c j : ℕ) → length page ≡ 4096 → length bytes ≡ 256 → c < 16 → at ≡ 256 * c
    → j < 16 → j ≢ c →
    block_of (overwritten page at bytes) j ≡ block_of page j
block-other page bytes at c j l k h is inside other =
    same-block (block_of (overwritten page at bytes) j) (block_of page j)
    (length-block (overwritten page at bytes) j (length-overwritten page bytes at l (omega arith)) inside)
    (length-block page j l inside)
    (λ i below. byte-in (overwritten page at bytes) j i below
    ∙ overwritten-other page bytes at (256 * j + i) (omega arith) (side i below) ∙ sym (byte-in page j i below))
  where
    side : (i : ℕ) → i < 256 → (256 * j + i < at) ⊎ (at + length bytes ≤ 256 * j + i)
    side i below = by (cases_lt j c)
      where
        by : (j < c) ⊎ (c ≤ j) → (256 * j + i < at) ⊎ (at + length bytes ≤ 256 * j + i)
        by (inl low) = inl (omega arith)
        by (inr high) = inr (omega arith)
