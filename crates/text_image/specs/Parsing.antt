-- Parsing a line of an image, field by field.
use Rattle.std.specs.Prelude.{ℕ, ◌+◌, ◌*◌, ◌^◌, ◌==◌, Bool, true, false, List, [], ◌∷◌, length, take, drop, if◌then◌else◌, Option, None, Some, codes}
use Rattle.std.specs.Option.{option_map, option_and_then}
use Rattle.std.specs.Str.{bytes_eq}
use Rattle.text_base.specs.Numbers.{decimal_at, hex_at}
use Rattle.text_base.specs.Fields.{fields_of}
use Rattle.board_terms.specs.Quantities.{Processor, TimerId, Ticket}
use Rattle.board_terms.specs.declared.messages.Message.{Message}
use Rattle.board_terms.specs.declared.messages.Message.TheVariants.{FromPort, FromTimer}
use Rattle.board_terms.specs.declared.pages.Kind.{Kind}
use Rattle.board_terms.specs.declared.pages.Kind.TheVariants as kinds
use Rattle.lapic_core.specs.Vectors.{Vectors}
use Rattle.lapic_core.specs.Words.{from_words}
use Rattle.synic_board.specs.declared.event.Event.{Event}
use Rattle.synic_board.specs.declared.event.Event.TheVariants.{OpenPort}
use Rattle.text_lines.specs.Reading.{Fields, take_then, none_left, spelled_at, bytes_at, u8_at, u64_at, hex_u32_at, hex_u64_at, parse_open}
use Rattle.text_image.specs.declared.piece.Piece.{Piece}
use Rattle.text_image.specs.declared.piece.Piece.TheVariants as pieces

abbrev pub parse_moment : Fields → Option Piece
parse_moment = take_then u64_at (λ moment. none_left (pieces.Moment moment))

-- A local APIC: a set of vectors has four words.
abbrev pub hex_u8_at : List ℕ → Option ℕ
hex_u8_at = hex_at 255

abbrev pub status_at : List ℕ → Option Bool
status_at word =
    if bytes_eq word (codes "suspended") then Some true
    else if bytes_eq word (codes "running") then Some false
    else None

abbrev pub with_vectors : List ℕ → Fields → Option (Vectors × Fields)
with_vectors words fields = option_map (λ (vectors : Vectors). (vectors, fields)) (from_words words)

abbrev pub read_vectors : Fields → Option (Vectors × Fields)
read_vectors =
    take_then hex_u64_at (λ a.
    take_then hex_u64_at (λ b.
    take_then hex_u64_at (λ c. take_then hex_u64_at (λ d. with_vectors (a ∷ b ∷ c ∷ d ∷ [])))))

-- what is parsed first, and then what is parsed from the fields after it
abbrev pub read_then : {A B : Type 0} → (Fields → Option (B × Fields)) → (B → Fields → Option A) → Fields → Option A
read_then {A} {B} read next fields = option_and_then (λ (p : B × Fields). next p.0 p.1) (read fields)

abbrev pub parse_lapic : Fields → Option Piece
parse_lapic =
    take_then u8_at (λ vp. read_then read_vectors
    (λ requested. read_then read_vectors
    (λ in_service. take_then hex_u8_at (λ task_priority. take_then status_at (λ suspended.
    none_left (pieces.Lapic vp
    (record {
      requested = requested;
      in_service = in_service;
      task_priority = task_priority;
      suspended = suspended;
    })))))))

-- A register, by its name.
abbrev pub source_at : List ℕ → Option ℕ
source_at name = if bytes_eq (take 4 name) (codes "sint") then decimal_at 15 (drop 4 name) else None

abbrev pub parse_control : Processor → Fields → Option Piece
parse_control vp = take_then hex_u64_at (λ value. none_left (pieces.Control vp value))

abbrev pub parse_overlay : Processor → Kind → Fields → Option Piece
parse_overlay vp kind = take_then hex_u64_at (λ value. none_left (pieces.Overlay vp kind value))

abbrev pub parse_source : Processor → Fields → Option Piece
parse_source vp = take_then source_at (λ sint. take_then hex_u64_at (λ value. none_left (pieces.Source vp sint value)))

abbrev pub parse_named : Processor → Fields → Option Piece
parse_named vp [] = None
parse_named vp (name ∷ fields) =
    if bytes_eq name (codes "scontrol") then parse_control vp fields
    else if bytes_eq name (codes "siefp") then parse_overlay vp kinds.Sief fields
    else if bytes_eq name (codes "simp") then parse_overlay vp kinds.Sim fields
    else parse_source vp (name ∷ fields)

abbrev pub parse_register : Fields → Option Piece
parse_register = take_then u8_at parse_named

-- The bytes of a page.
abbrev pub offset_at : List ℕ → Option ℕ
offset_at = hex_at 4095

abbrev pub kind_at : List ℕ → Option Kind
kind_at word =
    if bytes_eq word (codes "sim") then Some kinds.Sim
    else if bytes_eq word (codes "sief") then Some kinds.Sief
    else None

abbrev pub whole_block : List ℕ → Option (List ℕ)
whole_block bytes = if length bytes == 256 then Some bytes else None

abbrev pub block_at : List ℕ → Option (List ℕ)
block_at text = option_and_then whole_block (spelled_at text)

abbrev pub parse_guest : Fields → Option Piece
parse_guest =
    take_then u8_at (λ page.
    take_then offset_at (λ at.
    take_then block_at (λ bytes. none_left (pieces.Guest page at (record { items = bytes })))))

abbrev pub parse_own : Fields → Option Piece
parse_own = take_then u8_at
    (λ vp. take_then kind_at
    (λ kind. take_then offset_at
    (λ at. take_then block_at (λ bytes. none_left (pieces.Own vp kind at (record { items = bytes }))))))

-- An open port, as the event that opens it.
abbrev pub port_piece : Event → Option Piece
port_piece (OpenPort port vp sint shape) = Some (pieces.Port port vp sint shape)
port_piece _ = None

abbrev pub parse_port : Fields → Option Piece
parse_port fields = option_and_then port_piece (parse_open fields)

-- A timer.
abbrev pub parse_deadline : Fields → Option (Option ℕ)
parse_deadline = take_then hex_u64_at (λ high. take_then hex_u64_at (λ low. none_left (Some (high * 2 ^ 64 + low))))

abbrev pub parse_due : Fields → Option (Option ℕ)
parse_due [] = None
parse_due (word ∷ fields) =
    if bytes_eq word (codes "stopped") then none_left None fields
    else if bytes_eq word (codes "due") then parse_deadline fields
    else None

abbrev pub parse_timer : Fields → Option Piece
parse_timer =
    take_then u8_at (λ vp. take_then u8_at
    (λ index. take_then hex_u64_at (λ config. take_then hex_u64_at (λ count fields.
    option_map (pieces.Timer vp index config count) (parse_due fields)))))

-- A queued message.
abbrev pub parse_posted : Ticket → Fields → Option Message
parse_posted ticket =
    take_then u8_at (λ port.
    take_then hex_u32_at (λ kind.
    take_then (bytes_at 240) (λ payload. none_left (FromPort ticket port kind (record { items = payload })))))

abbrev pub read_timer : Fields → Option (TimerId × Fields)
read_timer = take_then (decimal_at 63) (λ vp. take_then (decimal_at 3) (λ index fields. Some ((vp, index), fields)))

abbrev pub parse_expired : Ticket → Fields → Option Message
parse_expired ticket =
    read_then read_timer (λ timer. take_then u64_at (λ expiration. none_left (FromTimer ticket timer expiration)))

abbrev pub parse_origin : Ticket → Fields → Option Message
parse_origin ticket [] = None
parse_origin ticket (word ∷ fields) =
    if bytes_eq word (codes "port") then parse_posted ticket fields
    else if bytes_eq word (codes "timer") then parse_expired ticket fields
    else None

abbrev pub parse_message : Fields → Option Piece
parse_message =
    take_then u8_at (λ vp. take_then u8_at
    (λ sint. take_then u64_at (λ ticket fields. option_map (pieces.Queued vp sint) (parse_origin ticket fields))))

abbrev pub parse_slot : Fields → Option Piece
parse_slot =
    take_then u8_at (λ vp. take_then u8_at
    (λ sint. take_then u64_at (λ ticket. none_left (pieces.Slot vp sint ticket))))

abbrev pub parse_end : Fields → Option Piece
parse_end = none_left pieces.End

-- the piece that the fields denote
abbrev pub parse_piece : Fields → Option Piece
parse_piece [] = None
parse_piece (word ∷ fields) =
    if bytes_eq word (codes "moment") then parse_moment fields
    else if bytes_eq word (codes "lapic") then parse_lapic fields
    else if bytes_eq word (codes "register") then parse_register fields
    else if bytes_eq word (codes "page") then parse_guest fields
    else if bytes_eq word (codes "own") then parse_own fields
    else if bytes_eq word (codes "open") then parse_port fields
    else if bytes_eq word (codes "timer") then parse_timer fields
    else if bytes_eq word (codes "message") then parse_message fields
    else if bytes_eq word (codes "slot") then parse_slot fields
    else if bytes_eq word (codes "end") then parse_end fields
    else None

unfoldable pub piece_at : List ℕ → Option Piece
piece_at line = parse_piece (fields_of line)
