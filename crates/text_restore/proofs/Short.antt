-- The line of each piece in range is one line of at most 640 bytes.
use Rattle.std.proofs.Common.{ℕ, ◌/◌, ◌%◌, ◌<◌, ◌≤◌, ◌^◌, Bool, true, false, List, [], ◌∷◌, ◌++◌, length, length-append, Some, None, refl, arith, codes, decimal}
use Rattle.std.proofs.lemmas.Fmt.{length-decimal-le}
use Rattle.text_base.proofs.PlainWords.{IsPlain, plain_by, digits-plain, digits-short, spelled-plain, spelled-length, IsWritten, written}
use Rattle.board_terms.specs.declared.messages.Message.{Message}
use Rattle.board_terms.specs.declared.messages.Message.TheVariants.{FromPort, FromTimer}
use Rattle.board_terms.specs.declared.messages.PortShape.TheVariants.{Messages, Flags}
use Rattle.board_terms.specs.declared.pages.Kind.{Kind}
use Rattle.board_terms.specs.declared.pages.Kind.TheVariants as kinds
use Rattle.lapic_core.specs.Vectors.{word_of}
use Rattle.synic_board.specs.declared.event.Event.TheVariants.{OpenPort}
use Rattle.text_lines.proofs.WrittenLemmas.{bytes-plain, bytes-short, event-plain}
use Rattle.text_image.specs.Image.{status_word, source_name, kind_word}
use Rattle.text_image.specs.declared.piece.Piece.{Piece}
use Rattle.text_image.specs.declared.piece.Piece.TheVariants as pieces
use Rattle.text_image.specs.Pieces.{overlay_name, piece_fields, IsPiece}

byte-short : (n : ℕ) → n < 256 → length (decimal n) ≤ 3
byte-short n small = length-decimal-le 3 n (omega arith) (omega arith) (omega arith)

-- a word of an image
record IsWord (text : List ℕ) : Type 0 where
  plain : IsPlain text
  short : length text ≤ 9

status-word : (suspended : Bool) → IsWord (status_word suspended)
status-word true = record { plain = plain_by (codes "suspended") refl; short = omega arith }
status-word false = record { plain = plain_by (codes "running") refl; short = omega arith }

overlay-word : (kind : Kind) → IsWord (overlay_name kind)
overlay-word kinds.Sim = record { plain = plain_by (codes "simp") refl; short = omega arith }
overlay-word kinds.Sief = record { plain = plain_by (codes "siefp") refl; short = omega arith }

kind-named : (kind : Kind) → IsWord (kind_word kind)
kind-named kinds.Sim = record { plain = plain_by (codes "sim") refl; short = omega arith }
kind-named kinds.Sief = record { plain = plain_by (codes "sief") refl; short = omega arith }

append-plain : (a b : List ℕ) → IsPlain a → IsPlain b → IsPlain (a ++ b)
append-plain [] b h k = k
append-plain (x ∷ a) b h k = (h.0, append-plain a b h.1 k)

source-plain : (i : ℕ) → IsPlain (source_name i)
source-plain i = append-plain (codes "sint") (decimal i) (plain_by (codes "sint") refl) (digits-plain 10 i)

source-short : (i : ℕ) → length (source_name i) ≤ 68
source-short i = omega (arith, length-append (codes "sint") (decimal i), digits-short 10 i)

queued-written : (p i : ℕ) (m : Message) → IsPiece (pieces.Queued p i m)
    → IsWritten (piece_fields (pieces.Queued p i m))
queued-written p i (FromPort ticket port kind payload) h = written _ _ (
  plain_by (codes "message") refl,
  (
    digits-plain 10 p,
    (
      digits-plain 10 i,
      (
        digits-plain 10 ticket,
        (plain_by (codes "port") refl, (digits-plain 10 port, (digits-plain 16 kind, (bytes-plain payload.items, tt)))),
      ),
    ),
  ),
)
    (omega (
      arith,
      byte-short p h.0,
      byte-short i h.1,
      byte-short port h.2.1,
      digits-short 10 ticket,
      digits-short 16 kind,
      bytes-short payload.items,
      h.2.4,
    ))
queued-written p i (FromTimer ticket timer expiration) h = written _ _ (
  plain_by (codes "message") refl,
  (
    digits-plain 10 p,
    (
      digits-plain 10 i,
      (
        digits-plain 10 ticket,
        (
          plain_by (codes "timer") refl,
          (digits-plain 10 timer.0, (digits-plain 10 timer.1, (digits-plain 10 expiration, tt))),
        ),
      ),
    ),
  ),
)
    (omega (
      arith,
      byte-short p h.0,
      byte-short i h.1,
      digits-short 10 ticket,
      digits-short 10 timer.0,
      digits-short 10 timer.1,
      digits-short 10 expiration,
    ))

pub piece-written : (x : Piece) → IsPiece x → IsWritten (piece_fields x)
piece-written (pieces.Moment t) h =
    written _ _ (plain_by (codes "moment") refl, (digits-plain 10 t, tt)) (omega (arith, digits-short 10 t))
piece-written (pieces.Lapic p a) h =
    let requested = word_of a.requested in
    let in_service = word_of a.in_service in
    written _ _ (
      plain_by (codes "lapic") refl,
      (
        digits-plain 10 p,
        (
          digits-plain 16 (requested 0),
          (
            digits-plain 16 (requested 1),
            (
              digits-plain 16 (requested 2),
              (
                digits-plain 16 (requested 3),
                (
                  digits-plain 16 (in_service 0),
                  (
                    digits-plain 16 (in_service 1),
                    (
                      digits-plain 16 (in_service 2),
                      (
                        digits-plain 16 (in_service 3),
                        (digits-plain 16 a.task_priority, ((status-word a.suspended).plain, tt)),
                      ),
                    ),
                  ),
                ),
              ),
            ),
          ),
        ),
      ),
    )
    (omega (
      arith,
      byte-short p h.0,
      digits-short 16 (word_of a.requested 0),
      digits-short 16 (word_of a.requested 1),
      digits-short 16 (word_of a.requested 2),
      digits-short 16 (word_of a.requested 3),
      digits-short 16 (word_of a.in_service 0),
      digits-short 16 (word_of a.in_service 1),
      digits-short 16 (word_of a.in_service 2),
      digits-short 16 (word_of a.in_service 3),
      digits-short 16 a.task_priority,
      (status-word a.suspended).short,
    ))
piece-written (pieces.Control p value) h =
    written _ _ (
      plain_by (codes "register") refl,
      (digits-plain 10 p, (plain_by (codes "scontrol") refl, (digits-plain 16 value, tt))),
    )
    (omega (arith, digits-short 10 p, digits-short 16 value))
piece-written (pieces.Overlay p kind value) h =
    written _ _ (
      plain_by (codes "register") refl,
      (digits-plain 10 p, ((overlay-word kind).plain, (digits-plain 16 value, tt))),
    )
    (omega (arith, digits-short 10 p, (overlay-word kind).short, digits-short 16 value))
piece-written (pieces.Source p i value) h =
    written _ _ (plain_by (codes "register") refl, (digits-plain 10 p, (source-plain i, (digits-plain 16 value, tt))))
    (omega (arith, digits-short 10 p, source-short i, digits-short 16 value))
piece-written (pieces.Guest k at bytes) h =
    written _ _ (
      plain_by (codes "page") refl,
      (digits-plain 10 k, (digits-plain 16 at, (spelled-plain bytes.items, tt))),
    )
    (omega (arith, byte-short k h.0, digits-short 16 at, spelled-length bytes.items, h.1.2))
piece-written (pieces.Own p kind at bytes) h =
    written _ _ (
      plain_by (codes "own") refl,
      (digits-plain 10 p, ((kind-named kind).plain, (digits-plain 16 at, (spelled-plain bytes.items, tt)))),
    )
    (omega (arith, byte-short p h.0, (kind-named kind).short, digits-short 16 at, spelled-length bytes.items, h.1.2))
piece-written (pieces.Port k p i (Messages buffers)) h =
    let e = event-plain (OpenPort k p i (Messages buffers)) h in written _ _ e.plain (omega (arith, e.bound))
piece-written (pieces.Port k p i (Flags base count)) h =
    let e = event-plain (OpenPort k p i (Flags base count)) h in written _ _ e.plain (omega (arith, e.bound))
piece-written (pieces.Timer p i config count None) h =
    written _ _ (
      plain_by (codes "timer") refl,
      (
        digits-plain 10 p,
        (
          digits-plain 10 i,
          (digits-plain 16 config, (digits-plain 16 count, (plain_by (codes "stopped") refl, tt))),
        ),
      ),
    )
    (omega (arith, digits-short 10 p, digits-short 10 i, digits-short 16 config, digits-short 16 count))
piece-written (pieces.Timer p i config count (Some due)) h =
    written _ _ (
      plain_by (codes "timer") refl,
      (
        digits-plain 10 p,
        (
          digits-plain 10 i,
          (
            digits-plain 16 config,
            (
              digits-plain 16 count,
              (plain_by (codes "due") refl, (digits-plain 16 (due / 2 ^ 64), (digits-plain 16 (due % 2 ^ 64), tt))),
            ),
          ),
        ),
      ),
    )
    (omega (
      arith,
      digits-short 10 p,
      digits-short 10 i,
      digits-short 16 config,
      digits-short 16 count,
      digits-short 16 (due / 2 ^ 64),
      digits-short 16 (due % 2 ^ 64),
    ))
piece-written (pieces.Queued p i m) h = queued-written p i m h
piece-written (pieces.Slot p i ticket) h =
    written _ _ (plain_by (codes "slot") refl, (digits-plain 10 p, (digits-plain 10 i, (digits-plain 10 ticket, tt))))
    (omega (arith, digits-short 10 p, digits-short 10 i, digits-short 10 ticket))
piece-written pieces.End h = written _ _ (plain_by (codes "end") refl, tt) (omega arith)
