-- A page of 4096 bytes, sixteen message slots of 256 bytes, or sixteen sets of 2048 event flags
-- (TLFS, "SIMP Register" and "SIEFP Register").
use Rattle.std.specs.Prelude.{ℕ, Bool, ◌+◌, ◌-◌, ◌*◌, ◌/◌, ◌^◌, ◌==◌, List, ◌++◌, length, take, drop, replicate, slice_index_or, slice_set, bit_or}
use Rattle.std.specs.Int.{bit_at}

abbrev pub zero_page : List ℕ
zero_page = replicate 4096 0

-- the bytes from an offset on are replaced
abbrev pub overwritten : List ℕ → ℕ → List ℕ → List ℕ
overwritten page at bytes = take at page ++ bytes ++ drop (at + length bytes) page

-- the offset of the slot or the flags of a source
abbrev pub slot_place : ℕ → ℕ
slot_place s = 256 * s

-- the slot of a source is replaced
abbrev pub with_slot : List ℕ → ℕ → List ℕ → List ℕ
with_slot page s slot = take (slot_place s) page ++ slot ++ drop (slot_place s + 256) page

-- the 256 bytes of a message: a header of 16, a payload, and zeros
abbrev pub message_bytes : List ℕ → List ℕ → List ℕ
message_bytes header payload = header ++ payload ++ replicate (240 - length payload) 0

-- a bit of a byte
abbrev pub is_set : List ℕ → ℕ → ℕ → Bool
is_set page at bit = bit_at (slice_index_or page at 0) bit == 1

abbrev pub with_bit : List ℕ → ℕ → ℕ → List ℕ
with_bit page at bit = slice_set page at (bit_or (slice_index_or page at 0) (2 ^ bit))

-- the pending bit of a slot: bit 0 of its byte 5, the message flags
abbrev pub pending_place : ℕ → ℕ
pending_place s = slot_place s + 5

-- the byte and the bit of a flag of a source
abbrev pub flag_place : ℕ → ℕ → ℕ
flag_place s flag = slot_place s + flag / 8
