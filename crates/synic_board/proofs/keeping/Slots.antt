-- Own pages whose slots are written.
use Rattle.std.proofs.Common.{◌≡◌, ◌≢◌, ◌⊎◌, inl, inr, ℕ, ◌+◌, ◌-◌, ◌*◌, ◌^◌, ◌<◌, ◌≤◌, get_or, ap, ◌∙◌, List, ◌++◌, length, take, drop, refl, sym, arith, length-append, length-take, length-drop}
use Rattle.std.specs.Prelude.{slice_index_or, bit_or}
use Rattle.std.proofs.lemmas.List.{get_or-set_other, get_or_append_left, get_or-append_right, get_or-take, get_or-drop}
use Rattle.board_terms.specs.Sources.{source_number}
use Rattle.message_queues.specs.Image.{slot_type}
use Rattle.gpa_space.specs.Page.{overwritten, with_slot, with_bit, pending_place}

pub length-with_slot : (page bytes : List ℕ) (i : ℕ) → length page ≡ 4096 → length bytes ≡ 256 → i < 16
    → length (with_slot page i bytes) ≡ 4096
length-with_slot page bytes i l size below =
    omega (
      arith,
      length-append (take (256 * i) page ++ bytes) (drop (256 * i + 256) page),
      length-append (take (256 * i) page) bytes,
      length-take (256 * i) page,
      length-drop (256 * i + 256) page,
    )

-- a bit of another byte
pub slot_type-bit : (page : List ℕ) (at bit i : ℕ) → (at ≢ 256 * i + 0) × (at ≢ 256 * i + 1) × (at ≢ 256 * i + 2)
    × (at ≢ 256 * i + 3) → slot_type (with_bit page at bit) i ≡ slot_type page i
slot_type-bit page at bit i apart =
    let v : ℕ = bit_or (slice_index_or page at 0) (2 ^ bit) in
    let byte = λ (k : ℕ) (h : at ≢ 256 * i + k). get_or-set_other page at (256 * i + k) v 0 (λ e. h (sym e)) in
    rw (byte 0 apart.0, byte 1 apart.1, byte 2 apart.2, byte 3 apart.3) refl

pub slot_type-pending : (page : List ℕ) (j i : ℕ) → slot_type (with_bit page (pending_place j) 0) i ≡ slot_type page i
slot_type-pending page j i =
    slot_type-bit page (256 * j + 5) 0 i
    ((λ e. omega (arith, e)), (λ e. omega (arith, e)), (λ e. omega (arith, e)), (λ e. omega (arith, e)))

-- sources have disjoint slots
pub other_place : (p i q j : ℕ) → i < 16 → j < 16 → (p ≡ q → i ≢ j) → source_number p i ≢ source_number q j
other_place p i q j below under apart e = let same : p ≡ q = omega (arith, e) in apart same (omega (arith, e, same))

-- bytes of a page that are not written stay
pub overwritten-other : (page bytes : List ℕ) (at k : ℕ) → at + length bytes ≤ length page → (k < at)
    ⊎ (at + length bytes ≤ k) → get_or (overwritten page at bytes) k 0 ≡ get_or page k 0
overwritten-other page bytes at k fits (inl below) =
    let front : k < length (take at page) = omega (arith, length-take at page) in
    let whole : k < length (take at page ++ bytes) = omega (arith, length-append (take at page) bytes) in
    get_or_append_left (take at page ++ bytes) (drop (at + length bytes) page) 0 k whole
    ∙ get_or_append_left (take at page) bytes 0 k front ∙ get_or-take at page k 0 below
overwritten-other page bytes at k fits (inr above) =
    let n : length (take at page ++ bytes) ≡ at + length bytes =
    omega (arith, length-append (take at page) bytes, length-take at page) in
    let e : at + length bytes + (k - (at + length bytes)) ≡ k = omega arith in
    get_or-append_right (take at page ++ bytes) (drop (at + length bytes) page) (at + length bytes) k 0 n above
    ∙ get_or-drop (at + length bytes) page (k - (at + length bytes)) 0 ∙ ap (λ j. get_or page j 0) e
