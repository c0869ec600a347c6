-- An image is written into a slot of a page: its type is in the slot, and the other slots stay.
use Rattle.std.proofs.Common.{◌≡◌, ◌≢◌, ◌⊎◌, inl, inr, ℕ, ◌+◌, ◌-◌, ◌*◌, ◌/◌, ◌%◌, ◌^◌, ◌<◌, ◌≤◌, Bool, List, ◌++◌, length, take, drop, get_or, refl, ap, ◌∙◌, arith, length-append, length-take}
use Rattle.std.specs.Prelude.{replicate}
use Rattle.std.proofs.lemmas.Bool.{cases_lt}
use Rattle.std.proofs.lemmas.List.{get_or_append_left, get_or-append_right, get_or-take, get_or-drop, length-replicate}
use Rattle.board_terms.specs.declared.messages.Message.{Message}
use Rattle.board_terms.specs.declared.messages.Message.TheVariants.{FromPort, FromTimer}
use Rattle.message_queues.specs.Image.{header, image, type_of, FitsSlot, slot_type}

pub length-image : (m : Message) (pending : Bool) (moment : ℕ) → FitsSlot m → length (image m pending moment) ≡ 256
unfolding image
length-image (FromPort ticket port kind payload) pending moment fits =
    omega (
      arith,
      fits,
      length-append (header kind (length payload.items) pending port ++ payload.items)
          (replicate (240 - length payload.items) 0),
      length-append (header kind (length payload.items) pending port) payload.items,
      length-replicate {A = ℕ} (240 - length payload.items) 0,
    )
length-image (FromTimer ticket timer expiration) pending moment fits = refl

-- the bytes of a page, one slot of which holds others
abbrev pub written : List ℕ → ℕ → List ℕ → List ℕ
written page s bytes = take (256 * s) page ++ bytes ++ drop (256 * s + 256) page

pub inside : (page bytes : List ℕ) (s k : ℕ) → 256 * s + 256 ≤ length page → k < length bytes
    → get_or (written page s bytes) (256 * s + k) 0 ≡ get_or bytes k 0
inside page bytes s k fits below =
    let front : length (take (256 * s) page) ≡ 256 * s = omega (arith, length-take (256 * s) page) in
    let whole : 256 * s + k < length (take (256 * s) page ++ bytes) =
    omega (arith, front, length-append (take (256 * s) page) bytes) in
    let e : 256 * s + k - 256 * s ≡ k = omega arith in
    get_or_append_left (take (256 * s) page ++ bytes) (drop (256 * s + 256) page) 0 (256 * s + k) whole
    ∙ get_or-append_right (take (256 * s) page) bytes (256 * s) (256 * s + k) 0 front (omega arith)
    ∙ ap (λ j. get_or bytes j 0) e

pub outside : (page bytes : List ℕ) (s k : ℕ) → 256 * s + 256 ≤ length page → length bytes ≡ 256 → (k < 256 * s)
    ⊎ (256 * s + 256 ≤ k) → get_or (written page s bytes) k 0 ≡ get_or page k 0
outside page bytes s k fits l (inl below) =
    let front : k < length (take (256 * s) page) = omega (arith, length-take (256 * s) page) in
    let whole : k < length (take (256 * s) page ++ bytes) = omega (arith, length-append (take (256 * s) page) bytes) in
    get_or_append_left (take (256 * s) page ++ bytes) (drop (256 * s + 256) page) 0 k whole
    ∙ get_or_append_left (take (256 * s) page) bytes 0 k front ∙ get_or-take (256 * s) page k 0 below
outside page bytes s k fits l (inr above) =
    let n : length (take (256 * s) page ++ bytes) ≡ 256 * s + 256 =
    omega (arith, length-append (take (256 * s) page) bytes, length-take (256 * s) page) in
    let e : 256 * s + 256 + (k - (256 * s + 256)) ≡ k = omega arith in
    get_or-append_right (take (256 * s) page ++ bytes) (drop (256 * s + 256) page) (256 * s + 256) k 0 n above
    ∙ get_or-drop (256 * s + 256) page (k - (256 * s + 256)) 0 ∙ ap (λ j. get_or page j 0) e

-- four bytes are a number
four-bytes-of : (n : ℕ) → n < 2 ^ 32
    → n % 256 + 0x100 * (n / 256 % 256) + 0x10000 * (n / 256 / 256 % 256) + 0x1000000 * (n / 256 / 256 / 256 % 256) ≡ n
four-bytes-of n below = omega arith

type-byte : (m : Message) (pending : Bool) (moment : ℕ) → (get_or (image m pending moment) 0 0 ≡ type_of m % 256)
    × (get_or (image m pending moment) 1 0 ≡ type_of m / 256 % 256)
    × (get_or (image m pending moment) 2 0 ≡ type_of m / 256 / 256 % 256)
    × (get_or (image m pending moment) 3 0 ≡ type_of m / 256 / 256 / 256 % 256)
unfolding image
type-byte (FromPort ticket port kind payload) pending moment = (refl, refl, refl, refl)
type-byte (FromTimer ticket timer expiration) pending moment = (refl, refl, refl, refl)

-- the slot has the type of its message
pub slot_type-written : (page : List ℕ) (s : ℕ) (m : Message) (pending : Bool) (moment : ℕ) → length page ≡ 4096
    → s < 16 → FitsSlot m → type_of m < 2 ^ 32 →
    slot_type (take (256 * s) page ++ image m pending moment ++ drop (256 * s + 256) page) s ≡ type_of m
slot_type-written page s m pending moment l below fits small =
    let size = length-image m pending moment fits in
    let bytes = type-byte m pending moment in
    let at = λ (k : ℕ) (h : k < 256). inside page (image m pending moment) s k (omega arith) (omega (arith, size, h)) in
    rw (
      at 0 (omega arith) ∙ bytes.0,
      at 1 (omega arith) ∙ bytes.1,
      at 2 (omega arith) ∙ bytes.2,
      at 3 (omega arith) ∙ bytes.3,
    ) (four-bytes-of (type_of m) small)

-- the types of the other slots stay
pub slot_type-other : (page bytes : List ℕ) (s other : ℕ) → length page ≡ 4096 → length bytes ≡ 256 → s < 16
    → other < 16 → other ≢ s →
    slot_type (take (256 * s) page ++ bytes ++ drop (256 * s + 256) page) other ≡ slot_type page other
slot_type-other page bytes s other l size below inside' ne =
    let at = λ (k : ℕ) (h : k < 256). outside page bytes s (256 * other + k) (omega arith) size
    (apart k h (cases_lt other s)) in
    rw (at 0 (omega arith), at 1 (omega arith), at 2 (omega arith), at 3 (omega arith)) refl
  where
    apart : (k : ℕ) → k < 256 → (other < s) ⊎ (s ≤ other) → (256 * other + k < 256 * s)
        ⊎ (256 * s + 256 ≤ 256 * other + k)
    apart k h (inl less) = inl (omega arith)
    apart k h (inr le) = inr (let more : s < other = omega (arith, ne) in omega arith)
