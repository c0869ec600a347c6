-- The 256 bytes of a message in its slot (TLFS, "SynIC Message"; the order of bytes 4 to 7 is a choice of this
-- profile).
use Rattle.std.specs.Prelude.{ℕ, zero, suc, ◌+◌, ◌-◌, ◌*◌, ◌/◌, ◌%◌, ◌≤◌, Bool, List, [], ◌∷◌, ◌++◌, length, replicate, slice_index_or, if◌then◌else◌}
use Rattle.board_terms.specs.declared.messages.Message.{Message}
use Rattle.board_terms.specs.declared.messages.Message.TheVariants.{FromPort, FromTimer}

-- n in that many bytes, little-endian
abbrev pub little_endian : ℕ → ℕ → List ℕ
little_endian zero n = []
little_endian (suc k) n = n % 256 ∷ little_endian k (n / 256)

-- the message flags: bit 0 is MessagePending
abbrev pub flags_of : Bool → ℕ
flags_of pending = if pending then 1 else 0

-- bytes 0 to 15: the type, the length of the payload, the flags, two zeros, and the port
abbrev pub header : ℕ → ℕ → Bool → ℕ → List ℕ
header kind size pending port = little_endian 4 kind ++ (size ∷ flags_of pending ∷ 0 ∷ 0 ∷ []) ++ little_endian 8 port

-- the type of a timer's message
abbrev pub timer_kind : ℕ
timer_kind = 0x80000010

-- the payload of a timer's message: the index, four zeros, the expiration time and the delivery time
abbrev pub timer_payload : ℕ → ℕ → ℕ → List ℕ
timer_payload index expiration delivery =
    little_endian 4 index ++ little_endian 4 0 ++ little_endian 8 expiration ++ little_endian 8 delivery

-- the image of a message that is placed at a given time
unfoldable pub image : Message → Bool → ℕ → List ℕ
image (FromPort ticket port kind payload) pending moment =
    header kind (length payload.items) pending port ++ payload.items ++ replicate (240 - length payload.items) 0
image (FromTimer ticket timer expiration) pending moment =
    header timer_kind 24 pending 0 ++ timer_payload timer.1 expiration moment ++ replicate 216 0

-- the type of a message
abbrev pub type_of : Message → ℕ
type_of (FromPort ticket port kind payload) = kind
type_of (FromTimer ticket timer expiration) = timer_kind

-- its payload fits into a slot, as the type of a payload ensures
abbrev pub FitsSlot : Message → Type 0
FitsSlot (FromPort ticket port kind payload) = length payload.items ≤ 240
FitsSlot (FromTimer ticket timer expiration) = Unit {0}

-- the type of the message in a slot: its first four bytes. The slot is empty iff it is 0
abbrev pub slot_type : List ℕ → ℕ → ℕ
slot_type page s =
    let byte = λ (k : ℕ). slice_index_or page (256 * s + k) 0 in
    byte 0 + 0x100 * byte 1 + 0x10000 * byte 2 + 0x1000000 * byte 3
