-- Parsing a line gives the piece that the line denotes, and only then.
use Rattle.std.proofs.Common.{◌≡◌, ◌↔◌, ℕ, ◌/◌, ◌%◌, ◌^◌, List, [], ◌∷◌, ◌++◌, Some, None, refl, sym, ap, ◌∙◌, Bool, true, false, codes, decimal}
use Rattle.std.proofs.lemmas.List.Splits.{join_with_byte-slice_split}
use Rattle.text_base.specs.Fields.{fields_of, spaced}
use Rattle.text_base.proofs.PlainWords.{IsPlain, plain_by, digits-plain, spelled-plain, fields-words}
use Rattle.board_terms.specs.declared.messages.Message.{Message}
use Rattle.board_terms.specs.declared.messages.Message.TheVariants.{FromPort, FromTimer}
use Rattle.board_terms.specs.declared.messages.PortShape.TheVariants.{Messages, Flags}
use Rattle.board_terms.specs.declared.pages.Kind.{Kind}
use Rattle.board_terms.specs.declared.pages.Kind.TheVariants as kinds
use Rattle.lapic_core.specs.Vectors.{word_of}
use Rattle.text_lines.proofs.WrittenLemmas.{bytes-plain}
use Rattle.text_image.specs.Image.{status_word, source_name, kind_word}
use Rattle.text_image.specs.declared.piece.Piece.{Piece}
use Rattle.text_image.specs.declared.piece.Piece.TheVariants as pieces
use Rattle.text_image.specs.Pieces.{overlay_name, piece_fields, IsPiece, DenotesPiece}
use Rattle.text_image.specs.Parsing.{piece_at, parse_piece}
use Rattle.text_image.proofs.ParsedLemmas.{piece-says}
use Rattle.text_image.proofs.SpelledLemmas.{says-piece}

pub reading-means : (line : List ℕ) (piece : Piece) → (piece_at line ≡ Some piece) ↔ DenotesPiece line piece
unfolding piece_at
reading-means line piece = (
  λ e. let h = piece-says (fields_of line) piece e in record { fields = h.same; fits = h.fits },
  λ h. ap parse_piece h.fields ∙ says-piece piece h.fits,
)

pub means-one_piece : (line : List ℕ) (a b : Piece) → DenotesPiece line a → DenotesPiece line b → a ≡ b
means-one_piece line a b h k = let is = (reading-means line a).1 h in let is' = (reading-means line b).1 k in cc

pub means-one_line : (a b : List ℕ) (piece : Piece) → DenotesPiece a piece → DenotesPiece b piece → a ≡ b
means-one_line a b piece h k =
    sym (join_with_byte-slice_split 32 a) ∙ ap spaced (h.fields ∙ sym k.fields) ∙ join_with_byte-slice_split 32 b

-- The words of a piece have no spaces.
status-plain : (suspended : Bool) → IsPlain (status_word suspended)
status-plain true = plain_by (codes "suspended") refl
status-plain false = plain_by (codes "running") refl

overlay-plain : (kind : Kind) → IsPlain (overlay_name kind)
overlay-plain kinds.Sim = plain_by (codes "simp") refl
overlay-plain kinds.Sief = plain_by (codes "siefp") refl

kind-plain : (kind : Kind) → IsPlain (kind_word kind)
kind-plain kinds.Sim = plain_by (codes "sim") refl
kind-plain kinds.Sief = plain_by (codes "sief") refl

append-plain : (a b : List ℕ) → IsPlain a → IsPlain b → IsPlain (a ++ b)
append-plain [] b h k = k
append-plain (x ∷ a) b h k = (h.0, append-plain a b h.1 k)

source-plain : (sint : ℕ) → IsPlain (source_name sint)
source-plain sint = append-plain (codes "sint") (decimal sint) (plain_by (codes "sint") refl) (digits-plain 10 sint)

-- A line that was written from the fields of a piece is parsed as these fields.
abbrev IsRead : Piece → Type 0
IsRead piece = fields_of (spaced (piece_fields piece)) ≡ piece_fields piece

message-read : (vp sint : ℕ) (message : Message) → IsRead (pieces.Queued vp sint message)
message-read vp sint (FromPort ticket port kind payload) = fields-words _ _ (
  plain_by (codes "message") refl,
  (
    digits-plain 10 vp,
    (
      digits-plain 10 sint,
      (
        digits-plain 10 ticket,
        (
          plain_by (codes "port") refl,
          (digits-plain 10 port, (digits-plain 16 kind, (bytes-plain payload.items, tt))),
        ),
      ),
    ),
  ),
)
message-read vp sint (FromTimer ticket timer expiration) = fields-words _ _ (
  plain_by (codes "message") refl,
  (
    digits-plain 10 vp,
    (
      digits-plain 10 sint,
      (
        digits-plain 10 ticket,
        (
          plain_by (codes "timer") refl,
          (digits-plain 10 timer.0, (digits-plain 10 timer.1, (digits-plain 10 expiration, tt))),
        ),
      ),
    ),
  ),
)

piece-read : (piece : Piece) → IsRead piece
piece-read (pieces.Moment moment) = fields-words _ _ (plain_by (codes "moment") refl, (digits-plain 10 moment, tt))
piece-read (pieces.Lapic vp a) = fields-words _ _ (
  plain_by (codes "lapic") refl,
  (
    digits-plain 10 vp,
    (
      digits-plain 16 (word_of a.requested 0),
      (
        digits-plain 16 (word_of a.requested 1),
        (
          digits-plain 16 (word_of a.requested 2),
          (
            digits-plain 16 (word_of a.requested 3),
            (
              digits-plain 16 (word_of a.in_service 0),
              (
                digits-plain 16 (word_of a.in_service 1),
                (
                  digits-plain 16 (word_of a.in_service 2),
                  (
                    digits-plain 16 (word_of a.in_service 3),
                    (digits-plain 16 a.task_priority, (status-plain a.suspended, tt)),
                  ),
                ),
              ),
            ),
          ),
        ),
      ),
    ),
  ),
)
piece-read (pieces.Control vp value) =
    fields-words _ _ (
      plain_by (codes "register") refl,
      (digits-plain 10 vp, (plain_by (codes "scontrol") refl, (digits-plain 16 value, tt))),
    )
piece-read (pieces.Overlay vp kind value) =
    fields-words _ _ (
      plain_by (codes "register") refl,
      (digits-plain 10 vp, (overlay-plain kind, (digits-plain 16 value, tt))),
    )
piece-read (pieces.Source vp sint value) =
    fields-words _ _ (
      plain_by (codes "register") refl,
      (digits-plain 10 vp, (source-plain sint, (digits-plain 16 value, tt))),
    )
piece-read (pieces.Guest page at bytes) =
    fields-words _ _ (
      plain_by (codes "page") refl,
      (digits-plain 10 page, (digits-plain 16 at, (spelled-plain bytes.items, tt))),
    )
piece-read (pieces.Own vp kind at bytes) =
    fields-words _ _ (
      plain_by (codes "own") refl,
      (digits-plain 10 vp, (kind-plain kind, (digits-plain 16 at, (spelled-plain bytes.items, tt)))),
    )
piece-read (pieces.Port port vp sint (Messages buffers)) = fields-words _ _ (
  plain_by (codes "open") refl,
  (
    digits-plain 10 port,
    (
      plain_by (codes "message") refl,
      (digits-plain 10 vp, (digits-plain 10 sint, (digits-plain 10 buffers, tt))),
    ),
  ),
)
piece-read (pieces.Port port vp sint (Flags base count)) = fields-words _ _ (
  plain_by (codes "open") refl,
  (
    digits-plain 10 port,
    (
      plain_by (codes "event") refl,
      (digits-plain 10 vp, (digits-plain 10 sint, (digits-plain 10 base, (digits-plain 10 count, tt)))),
    ),
  ),
)
piece-read (pieces.Timer vp index config count None) = fields-words _ _ (
  plain_by (codes "timer") refl,
  (
    digits-plain 10 vp,
    (
      digits-plain 10 index,
      (digits-plain 16 config, (digits-plain 16 count, (plain_by (codes "stopped") refl, tt))),
    ),
  ),
)
piece-read (pieces.Timer vp index config count (Some due)) = fields-words _ _ (
  plain_by (codes "timer") refl,
  (
    digits-plain 10 vp,
    (
      digits-plain 10 index,
      (
        digits-plain 16 config,
        (
          digits-plain 16 count,
          (
            plain_by (codes "due") refl,
            (digits-plain 16 (due / 2 ^ 64), (digits-plain 16 (due % 2 ^ 64), tt)),
          ),
        ),
      ),
    ),
  ),
)
piece-read (pieces.Queued vp sint message) = message-read vp sint message
piece-read (pieces.Slot vp sint ticket) =
    fields-words _ _ (
      plain_by (codes "slot") refl,
      (digits-plain 10 vp, (digits-plain 10 sint, (digits-plain 10 ticket, tt))),
    )
piece-read pieces.End = refl

pub piece-means : (piece : Piece) → IsPiece piece → DenotesPiece (spaced (piece_fields piece)) piece
piece-means piece h = record { fields = piece-read piece; fits = h }
