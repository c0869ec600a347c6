-- The fields of a piece in range are parsed as that piece.
use Rattle.std.proofs.Common.{◌≡◌, ℕ, ◌+◌, ◌*◌, ◌/◌, ◌%◌, ◌<◌, ◌^◌, Bool, true, false, [], ◌∷◌, ◌++◌, Option, Some, None, refl, ap, ◌∙◌, arith, decimal}
use Rattle.std.specs.Prelude.{IfSome}
use Rattle.std.specs.Option.{option_map, option_and_then}
use Rattle.text_base.specs.Numbers.{hex, spelled, decimal_at}
use Rattle.text_base.proofs.NumberLemmas.{decimal_at-spelled, hex_at-spelled}
use Rattle.board_terms.specs.Messages.{ticket_of}
use Rattle.board_terms.specs.Ranges.{HasMessageRanges}
use Rattle.board_terms.specs.declared.messages.Message.{Message}
use Rattle.board_terms.specs.declared.messages.Message.TheVariants.{FromPort, FromTimer}
use Rattle.board_terms.specs.declared.messages.PortShape.TheVariants.{Messages, Flags}
use Rattle.board_terms.specs.declared.pages.Kind.{Kind}
use Rattle.board_terms.specs.declared.pages.Kind.TheVariants as kinds
use Rattle.lapic_core.specs.Vectors.{Vectors, word_of}
use Rattle.lapic_core.specs.Apic.{Apic}
use Rattle.lapic_core.specs.Ranges.{AreVectors, IsApic}
use Rattle.lapic_core.proofs.Bits.{bits_where-lt}
use Rattle.lapic_core.proofs.FromWords.{from-words_of}
use Rattle.synic_board.specs.declared.event.Event.TheVariants.{OpenPort}
use Rattle.text_lines.specs.Events.{bytes_text}
use Rattle.text_lines.specs.Reading.{Fields, u8_at, u64_at, hex_u32_at, hex_u64_at, bytes_at}
use Rattle.text_lines.proofs.ByteFields.{bytes_at-spelled}
use Rattle.text_lines.proofs.ReadLemmas.{then-read, u8-spelled, u64-spelled, hex_u32-spelled, hex_u64-spelled, says-event}
use Rattle.text_image.specs.Image.{words, status_word, source_name, kind_word, due_fields, origin_fields}
use Rattle.text_image.specs.declared.piece.Piece.{Piece}
use Rattle.text_image.specs.declared.piece.Piece.TheVariants as pieces
use Rattle.text_image.specs.Pieces.{overlay_name, piece_fields, IsPiece}
use Rattle.text_image.specs.Parsing.{read_then, read_vectors, hex_u8_at, status_at, source_at, offset_at, kind_at, block_at, port_piece, read_timer, parse_named, parse_due, parse_origin, parse_piece}
use Rattle.text_image.proofs.BlockLemmas.{block-spelled}

then-parsed : {A B : Type 0} (read : Fields → Option (B × Fields)) (next : B → Fields → Option A) (fields : Fields)
    (b : B) (rest : Fields) → read fields ≡ Some (b, rest) →
    read_then read next fields ≡ next b rest
then-parsed {A} {B} read next fields b rest e = ap (option_and_then (λ (p : B × Fields). next p.0 p.1)) e

-- A local APIC.
word-fits : (vectors : Vectors) (k : ℕ) → word_of vectors k < 2 ^ 64
word-fits vectors k = bits_where-lt _ 64

word-spelled : (vectors : Vectors) (k : ℕ) → hex_u64_at (hex (word_of vectors k)) ≡ Some (word_of vectors k)
word-spelled vectors k = hex_u64-spelled (word_of vectors k) (word-fits vectors k)

vectors-spelled : (vectors : Vectors) (rest : Fields) → AreVectors vectors
    → read_vectors (words vectors ++ rest) ≡ Some (vectors, rest)
vectors-spelled vectors rest h =
    then-read hex_u64_at _ (hex (word_of vectors 0)) (word_of vectors 0) _ (word-spelled vectors 0)
    ∙ then-read hex_u64_at _ (hex (word_of vectors 1)) (word_of vectors 1) _ (word-spelled vectors 1)
    ∙ then-read hex_u64_at _ (hex (word_of vectors 2)) (word_of vectors 2) _ (word-spelled vectors 2)
    ∙ then-read hex_u64_at _ (hex (word_of vectors 3)) (word_of vectors 3) _ (word-spelled vectors 3)
    ∙ ap (option_map (λ (v : Vectors). (v, rest))) (from-words_of vectors h)

status-spelled : (suspended : Bool) → status_at (status_word suspended) ≡ Some suspended
status-spelled true = refl
status-spelled false = refl

lapic-spelled : (vp : ℕ) (a : Apic) → vp < 256 → IsApic a
    → parse_piece (piece_fields (pieces.Lapic vp a)) ≡ Some (pieces.Lapic vp a)
lapic-spelled vp a in_range h =
    let tail : Fields = hex a.task_priority ∷ status_word a.suspended ∷ [] in
    then-read u8_at _ (decimal vp) vp _ (u8-spelled vp in_range)
    ∙ then-parsed read_vectors _ (words a.requested ++ (words a.in_service ++ tail)) a.requested
    (words a.in_service ++ tail) (vectors-spelled a.requested (words a.in_service ++ tail) h.0)
    ∙ then-parsed read_vectors _ (words a.in_service ++ tail) a.in_service tail (vectors-spelled a.in_service tail h.1)
    ∙ then-read hex_u8_at _ (hex a.task_priority) a.task_priority _
    (hex_at-spelled 255 a.task_priority (omega arith) (omega (arith, h.2)))
    ∙ then-read status_at _ (status_word a.suspended) a.suspended [] (status-spelled a.suspended)

-- A register.
source-spelled : (sint : ℕ) → sint < 16 → source_at (source_name sint) ≡ Some sint
source-spelled sint h = decimal_at-spelled 15 sint (omega arith) (omega arith)

overlay-spelled : (vp : ℕ) (kind : Kind) (value : ℕ) → value < 2 ^ 64
    → parse_named vp (overlay_name kind ∷ hex value ∷ []) ≡ Some (pieces.Overlay vp kind value)
overlay-spelled vp kinds.Sim value h = then-read hex_u64_at _ (hex value) value [] (hex_u64-spelled value h)
overlay-spelled vp kinds.Sief value h = then-read hex_u64_at _ (hex value) value [] (hex_u64-spelled value h)

-- The bytes of a page.
offset-spelled : (n : ℕ) → n < 4096 → offset_at (hex n) ≡ Some n
offset-spelled n h = hex_at-spelled 4095 n (omega arith) (omega arith)

kind-spelled : (kind : Kind) → kind_at (kind_word kind) ≡ Some kind
kind-spelled kinds.Sim = refl
kind-spelled kinds.Sief = refl

-- A timer.
due-spelled : (due : Option ℕ) → IfSome due (λ d. d < 2 ^ 128) → parse_due (due_fields due) ≡ Some due
due-spelled None h = refl
due-spelled (Some d) h =
    let high = hex_u64-spelled (d / 2 ^ 64) (omega (arith, h)) in
    let low = hex_u64-spelled (d % 2 ^ 64) (omega arith) in
    let whole : d / 2 ^ 64 * 2 ^ 64 + d % 2 ^ 64 ≡ d = omega arith in
    then-read hex_u64_at _ (hex (d / 2 ^ 64)) (d / 2 ^ 64) _ high
    ∙ then-read hex_u64_at _ (hex (d % 2 ^ 64)) (d % 2 ^ 64) [] low ∙ ap (λ (x : ℕ). Some (Some x)) whole

-- A message.
timer-spelled : (timer : ℕ × ℕ) (rest : Fields) → timer.0 < 64 → timer.1 < 4
    → read_timer (decimal timer.0 ∷ decimal timer.1 ∷ rest) ≡ Some (timer, rest)
timer-spelled timer rest vp index =
    then-read (decimal_at 63) _ (decimal timer.0) timer.0 _ (decimal_at-spelled 63 timer.0 (omega arith) (omega arith))
    ∙ then-read (decimal_at 3) _ (decimal timer.1) timer.1 rest
    (decimal_at-spelled 3 timer.1 (omega arith) (omega arith))

origin-spelled : (message : Message) → HasMessageRanges message
    → parse_origin (ticket_of message) (origin_fields message) ≡ Some message
origin-spelled (FromPort ticket port kind payload) h =
    then-read u8_at _ (decimal port) port _ (u8-spelled port h.1)
    ∙ then-read hex_u32_at _ (hex kind) kind _ (hex_u32-spelled kind h.2)
    ∙ then-read (bytes_at 240) _ (bytes_text payload.items) payload.items []
    (bytes_at-spelled 240 payload.items (h.3, h.4))
origin-spelled (FromTimer ticket timer expiration) h =
    then-parsed read_timer _ (decimal timer.0 ∷ decimal timer.1 ∷ decimal expiration ∷ []) timer
    (decimal expiration ∷ []) (timer-spelled timer (decimal expiration ∷ []) h.1 h.2)
    ∙ then-read u64_at _ (decimal expiration) expiration [] (u64-spelled expiration h.3)

ticket-fits : (message : Message) → HasMessageRanges message → ticket_of message < 2 ^ 64
ticket-fits (FromPort ticket port kind payload) h = h.0
ticket-fits (FromTimer ticket timer expiration) h = h.0

pub says-piece : (piece : Piece) → IsPiece piece → parse_piece (piece_fields piece) ≡ Some piece
says-piece (pieces.Moment moment) h = then-read u64_at _ (decimal moment) moment [] (u64-spelled moment h)
says-piece (pieces.Lapic vp lapic) h = lapic-spelled vp lapic h.0 h.1
says-piece (pieces.Control vp value) h =
    then-read u8_at parse_named (decimal vp) vp _ (u8-spelled vp h.0)
    ∙ then-read hex_u64_at _ (hex value) value [] (hex_u64-spelled value h.1)
says-piece (pieces.Overlay vp kind value) h =
    then-read u8_at parse_named (decimal vp) vp _ (u8-spelled vp h.0) ∙ overlay-spelled vp kind value h.1
says-piece (pieces.Source vp sint value) h = then-read u8_at parse_named (decimal vp) vp _ (u8-spelled vp h.0)
    ∙ then-read source_at _ (source_name sint) sint _ (source-spelled sint h.1)
    ∙ then-read hex_u64_at _ (hex value) value [] (hex_u64-spelled value h.2)
says-piece (pieces.Guest page at bytes) h =
    then-read u8_at _ (decimal page) page _ (u8-spelled page h.0)
    ∙ then-read offset_at _ (hex at) at _ (offset-spelled at h.1.0)
    ∙ then-read block_at _ (spelled bytes.items) bytes.items [] (block-spelled bytes.items h.1.1 h.1.2)
says-piece (pieces.Own vp kind at bytes) h =
    then-read u8_at _ (decimal vp) vp _ (u8-spelled vp h.0)
    ∙ then-read kind_at _ (kind_word kind) kind _ (kind-spelled kind)
    ∙ then-read offset_at _ (hex at) at _ (offset-spelled at h.1.0)
    ∙ then-read block_at _ (spelled bytes.items) bytes.items [] (block-spelled bytes.items h.1.1 h.1.2)
says-piece (pieces.Port port vp sint (Messages buffers)) h =
    ap (option_and_then port_piece) (says-event (OpenPort port vp sint (Messages buffers)) h)
says-piece (pieces.Port port vp sint (Flags base count)) h =
    ap (option_and_then port_piece) (says-event (OpenPort port vp sint (Flags base count)) h)
says-piece (pieces.Timer vp index config count due) h =
    then-read u8_at _ (decimal vp) vp _ (u8-spelled vp h.0)
    ∙ then-read u8_at _ (decimal index) index _ (u8-spelled index h.1)
    ∙ then-read hex_u64_at _ (hex config) config _ (hex_u64-spelled config h.2)
    ∙ then-read hex_u64_at _ (hex count) count _ (hex_u64-spelled count h.3)
    ∙ ap (option_map (pieces.Timer vp index config count)) (due-spelled due h.4)
says-piece (pieces.Queued vp sint message) h =
    then-read u8_at _ (decimal vp) vp _ (u8-spelled vp h.0)
    ∙ then-read u8_at _ (decimal sint) sint _ (u8-spelled sint h.1)
    ∙ then-read u64_at _ (decimal (ticket_of message)) (ticket_of message) _
    (u64-spelled (ticket_of message) (ticket-fits message h.2))
    ∙ ap (option_map (pieces.Queued vp sint)) (origin-spelled message h.2)
says-piece (pieces.Slot vp sint ticket) h =
    then-read u8_at _ (decimal vp) vp _ (u8-spelled vp h.0)
    ∙ then-read u8_at _ (decimal sint) sint _ (u8-spelled sint h.1)
    ∙ then-read u64_at _ (decimal ticket) ticket [] (u64-spelled ticket h.2)
says-piece pieces.End h = refl
