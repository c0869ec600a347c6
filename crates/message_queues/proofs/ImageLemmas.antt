-- The bytes of a message.
use Rattle.std.proofs.Common.{◌≡◌, ℕ, zero, suc, ◌+◌, ◌-◌, ◌*◌, ◌/◌, ◌%◌, ◌^◌, ◌<◌, ◌≤◌, List, [], ◌∷◌, ◌++◌, length, take, drop, replicate, refl, sym, ap, ◌∙◌, arith}
use Rattle.std.specs.Int.{w32, w64, to_le_bytes, byte_at, bytes_low_first}
use Rattle.std.proofs.Math.Nat.{div-div-eq-div-mul, pow-suc, div-one}
use Rattle.std.proofs.lemmas.List.{append_assoc, take_at, drop_at, drop-replicate}
use Rattle.message_queues.specs.Image.{little_endian}

byte-of : (i n : ℕ) → byte_at i n ≡ n / 256 ^ i % 256
byte-of zero n = ap (λ (x : ℕ). x % 256) (sym (div-one n))
byte-of (suc i) n = refl

next-byte : (i n : ℕ) → n / 256 ^ suc i ≡ n / 256 ^ i / 256
next-byte i n = ap (λ (x : ℕ). n / x) (pow-suc 256 i) ∙ sym (div-div-eq-div-mul n (256 ^ i) 256)

low-bytes : (k i n : ℕ) → bytes_low_first i k n ≡ little_endian k (n / 256 ^ i)
low-bytes zero i n = refl
low-bytes (suc k) i n = rw (byte-of i n, low-bytes k (suc i) n, next-byte i n) refl

pub four-bytes : (n : ℕ) → to_le_bytes w32 n ≡ little_endian 4 n
four-bytes n = low-bytes 4 0 n ∙ ap (little_endian 4) (div-one n)

pub eight-bytes : (n : ℕ) → to_le_bytes w64 n ≡ little_endian 8 n
eight-bytes n = low-bytes 8 0 n ∙ ap (little_endian 8) (div-one n)

-- the first word of a header: a type of four bytes, a size and flags of one each, and zeros
pub first-word : (kind size flags : ℕ) → kind < 4294967296 → size < 256 → flags < 256
    → little_endian 8 (kind + 4294967296 * size + 1099511627776 * flags)
    ≡ little_endian 4 kind ++ (size ∷ flags ∷ 0 ∷ 0 ∷ [])
first-word kind size flags a b c =
    let word = kind + 4294967296 * size + 1099511627776 * flags in
    let over_1 : word / 256 ≡ kind / 256 + 16777216 * size + 4294967296 * flags = omega arith in
    let over_2 : word / 256 / 256 ≡ kind / 256 / 256 + 65536 * size + 16777216 * flags = omega arith in
    let over_3 : word / 256 / 256 / 256 ≡ kind / 256 / 256 / 256 + 256 * size + 65536 * flags = omega arith in
    let over_4 : word / 256 / 256 / 256 / 256 ≡ size + 256 * flags = omega arith in
    let over_5 : word / 256 / 256 / 256 / 256 / 256 ≡ flags = omega arith in
    let over_6 : word / 256 / 256 / 256 / 256 / 256 / 256 ≡ 0 = omega arith in
    let byte_0 : word % 256 ≡ kind % 256 = omega arith in
    let byte_1 : word / 256 % 256 ≡ kind / 256 % 256 = omega (arith, over_1) in
    let byte_2 : word / 256 / 256 % 256 ≡ kind / 256 / 256 % 256 = omega (arith, over_2) in
    let byte_3 : word / 256 / 256 / 256 % 256 ≡ kind / 256 / 256 / 256 % 256 = omega (arith, over_3) in
    let byte_4 : word / 256 / 256 / 256 / 256 % 256 ≡ size = omega (arith, over_4) in
    let byte_5 : word / 256 / 256 / 256 / 256 / 256 % 256 ≡ flags = omega (arith, over_5) in
    let byte_6 : word / 256 / 256 / 256 / 256 / 256 / 256 % 256 ≡ 0 = omega (arith, over_6) in
    let byte_7 : word / 256 / 256 / 256 / 256 / 256 / 256 / 256 % 256 ≡ 0 = omega (arith, over_6) in
    λ i. byte_0 i ∷ byte_1 i ∷ byte_2 i ∷ byte_3 i ∷ byte_4 i ∷ byte_5 i ∷ byte_6 i ∷ byte_7 i ∷ []

-- a header and a payload, written over zeros
pub assembled-is : (h p zeros : List ℕ) → zeros ≡ replicate 240 0 → length h ≡ 16 → length p ≤ 240 →
    take 16 (h ++ zeros) ++ (p ++ drop (16 + length p - 16) (drop 16 (h ++ zeros)))
    ≡ h ++ p ++ replicate (240 - length p) 0
assembled-is h p zeros z a b =
    let n : 16 + length p - 16 ≡ length p = omega arith in
    rw (take_at h zeros 16 a, drop_at h zeros 16 a, n, z, drop-replicate {X = ℕ} (length p) 240 0)
    (sym (append_assoc h p (replicate (240 - length p) 0)))
