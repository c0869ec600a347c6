-- Parsing a line, field by field.
use Rattle.std.specs.Prelude.{◌≡◌, ℕ, ◌-◌, ◌^◌, List, [], ◌∷◌, length, if◌then◌else◌, nat_le, Option, None, Some, codes}
use Rattle.std.specs.Option.{option_map, option_and_then}
use Rattle.std.specs.Str.{bytes_eq}
use Rattle.text_base.specs.Numbers.{decimal_at, hex_at, byte_at}
use Rattle.text_base.specs.Fields.{fields_of}
use Rattle.arrayvec.specs.ArrayVec.{ArrayVec}
use Rattle.synic_board.specs.declared.event.Event.{Event}
use Rattle.synic_board.specs.declared.event.Event.TheVariants.{OpenPort, ClosePort, Write, Read, Post, Signal, Assert, Absorb, Store, Load, Tick, Take, Suspend, Resume, Reset, Send}
use Rattle.board_terms.specs.declared.messages.PortShape.TheVariants.{Messages, Flags}
use Rattle.text_lines.specs.Items.{Item, Opening, Performs, Summary}

-- the fields that are not yet parsed
abbrev pub Fields : Type 0
Fields = List (List ℕ)

-- the first field, decoded by a function, and the fields after it
abbrev pub first_read : {B : Type 0} → (List ℕ → Option B) → Fields → Option (B × Fields)
first_read read [] = None
first_read {B} read (field ∷ fields) = option_map (λ (b : B). (b, fields)) (read field)

-- the first field, and then what is parsed after it
abbrev pub take_then : {A B : Type 0} → (List ℕ → Option B) → (B → Fields → Option A) → Fields → Option A
take_then {A} {B} read next fields = option_and_then (λ (p : B × Fields). next p.0 p.1) (first_read read fields)

-- the bytes that a text of two digits each denotes
abbrev pub spelled_at : List ℕ → Option (List ℕ)
spelled_at [] = Some []
spelled_at (high ∷ []) = None
spelled_at (high ∷ low ∷ text) =
    option_and_then (λ (b : ℕ). option_map (λ (bytes : List ℕ). b ∷ bytes) (spelled_at text))
    (byte_at (high ∷ low ∷ []))

-- at least one byte, and at most that many
abbrev pub some_bytes : ℕ → List ℕ → Option (List ℕ)
some_bytes most [] = None
some_bytes most (b ∷ bytes) = if nat_le (length (b ∷ bytes)) most then Some (b ∷ bytes) else None

-- bytes, or `-` for none
abbrev pub bytes_at : ℕ → List ℕ → Option (List ℕ)
bytes_at most text = if bytes_eq text (codes "-") then Some [] else option_and_then (some_bytes most) (spelled_at text)

-- a call took the first field with this value, or the field does not decode
abbrev pub TakesNumber : (List ℕ → Option ℕ) → Option ℕ → Fields → Fields → Type 0
TakesNumber read None old new = first_read read old ≡ None
TakesNumber read (Some n) old new = first_read read old ≡ Some (n, new)

-- the same for bytes
abbrev pub TakesBytes : ℕ → Option (ArrayVec ℕ) → Fields → Fields → Type 0
TakesBytes most None old new = first_read (bytes_at most) old ≡ None
TakesBytes most (Some bytes) old new = first_read (bytes_at most) old ≡ Some (bytes.items, new)

-- a number of pages, or the word of a sparse board
abbrev pub pages_at : List ℕ → Option (Option ℕ)
pages_at text =
    if bytes_eq text (codes "sparse") then Some None else option_map (λ (pages : ℕ). Some pages) (decimal_at 255 text)

-- no field is left
abbrev pub none_left : {A : Type 0} → A → Fields → Option A
none_left a [] = Some a
none_left a (field ∷ fields) = None

-- The numbers of the formats.
abbrev pub u8_at : List ℕ → Option ℕ
u8_at = decimal_at 255

abbrev pub u16_at : List ℕ → Option ℕ
u16_at = decimal_at 65535

abbrev pub u64_at : List ℕ → Option ℕ
u64_at = decimal_at (2 ^ 64 - 1)

abbrev pub hex_u32_at : List ℕ → Option ℕ
hex_u32_at = hex_at (2 ^ 32 - 1)

abbrev pub hex_u64_at : List ℕ → Option ℕ
hex_u64_at = hex_at (2 ^ 64 - 1)

abbrev pub from_16 : ℕ → Option ℕ
from_16 n = if nat_le 16 n then Some n else None

abbrev pub vector_at : List ℕ → Option ℕ
vector_at text = option_and_then from_16 (byte_at text)

-- The fields after the first word.
abbrev pub parse_messages : ℕ → Fields → Option Event
parse_messages port =
    take_then u8_at (λ vp. take_then u8_at
    (λ sint. take_then u8_at (λ buffers. none_left (OpenPort port vp sint (Messages buffers)))))

abbrev pub parse_flags : ℕ → Fields → Option Event
parse_flags port =
    take_then u8_at (λ vp. take_then u8_at
    (λ sint. take_then u16_at
    (λ base. take_then u16_at (λ count. none_left (OpenPort port vp sint (Flags base count))))))

abbrev pub parse_shape : ℕ → Fields → Option Event
parse_shape port [] = None
parse_shape port (word ∷ fields) =
    if bytes_eq word (codes "message") then parse_messages port fields
    else if bytes_eq word (codes "event") then parse_flags port fields
    else None

abbrev pub parse_open : Fields → Option Event
parse_open = take_then u8_at parse_shape

abbrev pub parse_close : Fields → Option Event
parse_close = take_then u8_at (λ port. none_left (ClosePort port))

abbrev pub parse_post : Fields → Option Event
parse_post =
    take_then u8_at (λ port.
    take_then hex_u32_at (λ kind.
    take_then (bytes_at 240) (λ payload. none_left (Post port kind (record { items = payload })))))

abbrev pub parse_signal : Fields → Option Event
parse_signal = take_then u8_at (λ port. take_then u16_at (λ flag. none_left (Signal port flag)))

abbrev pub parse_store : Fields → Option Event
parse_store =
    take_then hex_u64_at (λ address.
    take_then (bytes_at 8) (λ bytes. none_left (Store address (record { items = bytes }))))

abbrev pub parse_load : Fields → Option Event
parse_load = take_then hex_u64_at (λ address. take_then u8_at (λ count. none_left (Load address count)))

abbrev pub parse_tick : Fields → Option Event
parse_tick = take_then u64_at (λ moment. none_left (Tick moment))

abbrev pub parse_write : Fields → Option Event
parse_write =
    take_then u8_at (λ vp. take_then hex_u32_at
    (λ register. take_then hex_u64_at (λ value. none_left (Write vp register value))))

abbrev pub parse_read : Fields → Option Event
parse_read = take_then u8_at (λ vp. take_then hex_u32_at (λ register. none_left (Read vp register)))

abbrev pub parse_assert : Fields → Option Event
parse_assert = take_then u8_at (λ vp. take_then vector_at (λ vector. none_left (Assert vp vector)))

abbrev pub parse_absorb : Fields → Option Event
parse_absorb =
    take_then u8_at (λ vp. take_then u8_at (λ part. take_then hex_u64_at (λ bits. none_left (Absorb vp part bits))))

-- a processor and no further field
abbrev pub parse_processor : Fields → Option ℕ
parse_processor = take_then u8_at none_left

abbrev pub parse_take : Fields → Option Event
parse_take fields = option_map Take (parse_processor fields)

abbrev pub parse_suspend : Fields → Option Event
parse_suspend fields = option_map Suspend (parse_processor fields)

abbrev pub parse_resume : Fields → Option Event
parse_resume fields = option_map Resume (parse_processor fields)

abbrev pub parse_reset : Fields → Option Event
parse_reset fields = option_map Reset (parse_processor fields)

abbrev pub parse_send : Fields → Option Event
parse_send = take_then vector_at (λ vector. take_then hex_u64_at (λ mask. none_left (Send vector mask)))

-- the processors, the pages and the first ticket of a board line
abbrev pub parse_opening : Fields → Option (ℕ × Option ℕ × ℕ)
parse_opening =
    take_then u8_at (λ processors.
    take_then pages_at (λ pages. take_then u64_at (λ ticket. none_left (processors, pages, ticket))))

-- the event that the fields denote
abbrev pub parse_event : Fields → Option Event
parse_event [] = None
parse_event (word ∷ fields) =
    if bytes_eq word (codes "write") then parse_write fields
    else if bytes_eq word (codes "store") then parse_store fields
    else if bytes_eq word (codes "take") then parse_take fields
    else if bytes_eq word (codes "assert") then parse_assert fields
    else if bytes_eq word (codes "tick") then parse_tick fields
    else if bytes_eq word (codes "signal") then parse_signal fields
    else if bytes_eq word (codes "post") then parse_post fields
    else if bytes_eq word (codes "load") then parse_load fields
    else if bytes_eq word (codes "read") then parse_read fields
    else if bytes_eq word (codes "open") then parse_open fields
    else if bytes_eq word (codes "close") then parse_close fields
    else if bytes_eq word (codes "absorb") then parse_absorb fields
    else if bytes_eq word (codes "suspend") then parse_suspend fields
    else if bytes_eq word (codes "resume") then parse_resume fields
    else if bytes_eq word (codes "reset") then parse_reset fields
    else if bytes_eq word (codes "send") then parse_send fields
    else None

-- the item that the fields of a board line denote
abbrev pub opening_item : Fields → Option Item
opening_item fields = option_map (λ (p : ℕ × Option ℕ × ℕ). Opening p.0 p.1 p.2) (parse_opening fields)

-- the item that the fields denote
abbrev pub parse_item : Fields → Option Item
parse_item [] = None
parse_item (word ∷ fields) =
    if bytes_eq word (codes "board") then opening_item fields
    else if bytes_eq word (codes "summary") then none_left Summary fields
    else option_map Performs (parse_event (word ∷ fields))

unfoldable pub item_at : List ℕ → Option Item
item_at line = parse_item (fields_of line)
