-- What the lines of an image denote: a line denotes a piece iff its fields, separated by single spaces, are the
-- piece's, as an image has them.
use Rattle.std.specs.Prelude.{◌≡◌, ℕ, ◌<◌, ◌^◌, List, length, IfSome, codes}
use Rattle.text_base.specs.Numbers.{AreBytes}
use Rattle.text_base.specs.Fields.{fields_of}
use Rattle.board_terms.specs.Ranges.{HasMessageRanges}
use Rattle.board_terms.specs.declared.pages.Kind.{Kind}
use Rattle.board_terms.specs.declared.pages.Kind.TheVariants as kinds
use Rattle.lapic_core.specs.Ranges.{IsApic}
use Rattle.synic_board.specs.declared.event.Event.TheVariants.{OpenPort}
use Rattle.text_lines.specs.Events.{event_fields, IsShape}
use Rattle.text_image.specs.declared.pages.PageName.TheVariants as names
use Rattle.text_image.specs.declared.piece.Piece.{Piece}
use Rattle.text_image.specs.declared.piece.Piece.TheVariants as pieces
use Rattle.text_image.specs.Image.{moment_fields, lapic_line, register_fields, source_name, block_fields, timer_fields, message_fields, slot_fields, end_fields}

abbrev pub overlay_name : Kind → List ℕ
overlay_name kinds.Sim = codes "simp"
overlay_name kinds.Sief = codes "siefp"

abbrev pub piece_fields : Piece → List (List ℕ)
piece_fields (pieces.Moment moment) = moment_fields moment
piece_fields (pieces.Lapic vp lapic) = lapic_line vp lapic
piece_fields (pieces.Control vp value) = register_fields vp (codes "scontrol") value
piece_fields (pieces.Overlay vp kind value) = register_fields vp (overlay_name kind) value
piece_fields (pieces.Source vp sint value) = register_fields vp (source_name sint) value
piece_fields (pieces.Guest page at bytes) = block_fields (names.Guest page) at bytes.items
piece_fields (pieces.Own vp kind at bytes) = block_fields (names.Own vp kind) at bytes.items
piece_fields (pieces.Port port vp sint shape) = event_fields (OpenPort port vp sint shape)
piece_fields (pieces.Timer vp index config count due) = timer_fields (vp, index) config count due
piece_fields (pieces.Queued vp sint message) = message_fields vp sint message
piece_fields (pieces.Slot vp sint ticket) = slot_fields vp sint ticket
piece_fields pieces.End = end_fields

abbrev pub IsPageBlock : ℕ → List ℕ → Type 0
IsPageBlock at bytes = (at < 4096) × AreBytes bytes × (length bytes ≡ 256)

-- the ranges of a piece's fields
abbrev pub IsPiece : Piece → Type 0
IsPiece (pieces.Moment moment) = moment < 2 ^ 64
IsPiece (pieces.Lapic vp lapic) = (vp < 256) × IsApic lapic
IsPiece (pieces.Control vp value) = (vp < 256) × (value < 2 ^ 64)
IsPiece (pieces.Overlay vp kind value) = (vp < 256) × (value < 2 ^ 64)
IsPiece (pieces.Source vp sint value) = (vp < 256) × (sint < 16) × (value < 2 ^ 64)
IsPiece (pieces.Guest page at bytes) = (page < 256) × IsPageBlock at bytes.items
IsPiece (pieces.Own vp kind at bytes) = (vp < 256) × IsPageBlock at bytes.items
IsPiece (pieces.Port port vp sint shape) = (port < 256) × (vp < 256) × (sint < 256) × IsShape shape
IsPiece (pieces.Timer vp index config count due) =
    (vp < 256) × (index < 256) × (config < 2 ^ 64) × (count < 2 ^ 64) × IfSome due (λ d. d < 2 ^ 128)
IsPiece (pieces.Queued vp sint message) = (vp < 256) × (sint < 256) × HasMessageRanges message
IsPiece (pieces.Slot vp sint ticket) = (vp < 256) × (sint < 256) × (ticket < 2 ^ 64)
IsPiece pieces.End = Unit {0}

pub record DenotesPiece (line : List ℕ) (piece : Piece) : Type 0 where
  pub fields : fields_of line ≡ piece_fields piece
  pub fits : IsPiece piece
