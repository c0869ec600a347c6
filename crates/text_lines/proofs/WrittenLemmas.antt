-- Items as they are printed.
use Rattle.std.proofs.Common.{◌≡◌, ℕ, ◌+◌, ◌*◌, ◌<◌, ◌≤◌, List, [], ◌∷◌, length, Option, None, Some, refl, arith, codes}
use Rattle.text_base.specs.Fields.{spaced}
use Rattle.text_base.proofs.PlainWords.{IsPlain, ArePlain, total, plain_by, digits-plain, digits-short, two_digits-plain, spelled-plain, spelled-length, IsWritten, written}
use Rattle.board_terms.specs.declared.messages.PortShape.TheVariants.{Messages, Flags}
use Rattle.synic_board.specs.declared.event.Event.{Event}
use Rattle.synic_board.specs.declared.event.Event.TheVariants.{OpenPort, ClosePort, Write, Read, Post, Signal, Assert, Absorb, Store, Load, Tick, Take, Suspend, Resume, Reset, Send}
use Rattle.text_lines.specs.Events.{event_fields, bytes_text, IsEvent}
use Rattle.text_lines.specs.Items.{Item, Opening, Performs, Summary, pages_field, item_fields, IsItem, Denotes}
use Rattle.text_lines.specs.Reading.{item_at}
use Rattle.text_lines.proofs.ReadLemmas.{reading-means}

pub bytes-plain : (bytes : List ℕ) → IsPlain (bytes_text bytes)
bytes-plain [] = plain_by (codes "-") refl
bytes-plain (b ∷ bytes) = spelled-plain (b ∷ bytes)

pub bytes-short : (bytes : List ℕ) → length (bytes_text bytes) ≤ 2 * length bytes + 1
bytes-short [] = omega arith
bytes-short (b ∷ bytes) = omega (arith, spelled-length (b ∷ bytes))

-- some fields of a line, with capacity for one more
pub record FewPlain (fields : List (List ℕ)) : Type 0 where
  pub plain : ArePlain fields
  pub some : 0 < total fields
  pub bound : total fields ≤ 630

bound-plain : (f : List ℕ) (fields : List (List ℕ)) → ArePlain (f ∷ fields) → total (f ∷ fields) ≤ 630
    → FewPlain (f ∷ fields)
bound-plain f fields plain bound = record { plain = plain; some = omega arith; bound = bound }

pub event-plain : (event : Event) → IsEvent event → FewPlain (event_fields event)
event-plain (OpenPort port vp sint (Messages buffers)) h = bound-plain _ _ (
  plain_by (codes "open") refl,
  (
    digits-plain 10 port,
    (
      plain_by (codes "message") refl,
      (digits-plain 10 vp, (digits-plain 10 sint, (digits-plain 10 buffers, tt))),
    ),
  ),
)
    (omega (arith, digits-short 10 port, digits-short 10 vp, digits-short 10 sint, digits-short 10 buffers))
event-plain (OpenPort port vp sint (Flags base count)) h = bound-plain _ _ (
  plain_by (codes "open") refl,
  (
    digits-plain 10 port,
    (
      plain_by (codes "event") refl,
      (digits-plain 10 vp, (digits-plain 10 sint, (digits-plain 10 base, (digits-plain 10 count, tt)))),
    ),
  ),
)
    (omega (
      arith,
      digits-short 10 port,
      digits-short 10 vp,
      digits-short 10 sint,
      digits-short 10 base,
      digits-short 10 count,
    ))
event-plain (ClosePort port) h =
    bound-plain _ _ (plain_by (codes "close") refl, (digits-plain 10 port, tt)) (omega (arith, digits-short 10 port))
event-plain (Write vp register value) h =
    bound-plain _ _ (
      plain_by (codes "write") refl,
      (digits-plain 10 vp, (digits-plain 16 register, (digits-plain 16 value, tt))),
    )
    (omega (arith, digits-short 10 vp, digits-short 16 register, digits-short 16 value))
event-plain (Read vp register) h =
    bound-plain _ _ (plain_by (codes "read") refl, (digits-plain 10 vp, (digits-plain 16 register, tt)))
    (omega (arith, digits-short 10 vp, digits-short 16 register))
event-plain (Post port kind payload) h =
    bound-plain _ _ (
      plain_by (codes "post") refl,
      (digits-plain 10 port, (digits-plain 16 kind, (bytes-plain payload.items, tt))),
    )
    (omega (arith, digits-short 10 port, digits-short 16 kind, bytes-short payload.items, h.2.1))
event-plain (Signal port flag) h =
    bound-plain _ _ (plain_by (codes "signal") refl, (digits-plain 10 port, (digits-plain 10 flag, tt)))
    (omega (arith, digits-short 10 port, digits-short 10 flag))
event-plain (Assert vp vector) h =
    bound-plain _ _ (plain_by (codes "assert") refl, (digits-plain 10 vp, (two_digits-plain vector, tt)))
    (omega (arith, digits-short 10 vp))
event-plain (Absorb vp part bits) h =
    bound-plain _ _ (
      plain_by (codes "absorb") refl,
      (digits-plain 10 vp, (digits-plain 10 part, (digits-plain 16 bits, tt))),
    )
    (omega (arith, digits-short 10 vp, digits-short 10 part, digits-short 16 bits))
event-plain (Store address bytes) h =
    bound-plain _ _ (plain_by (codes "store") refl, (digits-plain 16 address, (bytes-plain bytes.items, tt)))
    (omega (arith, digits-short 16 address, bytes-short bytes.items, h.1.1))
event-plain (Load address count) h =
    bound-plain _ _ (plain_by (codes "load") refl, (digits-plain 16 address, (digits-plain 10 count, tt)))
    (omega (arith, digits-short 16 address, digits-short 10 count))
event-plain (Tick moment) h =
    bound-plain _ _ (plain_by (codes "tick") refl, (digits-plain 10 moment, tt)) (omega (arith, digits-short 10 moment))
event-plain (Take vp) h =
    bound-plain _ _ (plain_by (codes "take") refl, (digits-plain 10 vp, tt)) (omega (arith, digits-short 10 vp))
event-plain (Suspend vp) h =
    bound-plain _ _ (plain_by (codes "suspend") refl, (digits-plain 10 vp, tt)) (omega (arith, digits-short 10 vp))
event-plain (Resume vp) h =
    bound-plain _ _ (plain_by (codes "resume") refl, (digits-plain 10 vp, tt)) (omega (arith, digits-short 10 vp))
event-plain (Reset vp) h =
    bound-plain _ _ (plain_by (codes "reset") refl, (digits-plain 10 vp, tt)) (omega (arith, digits-short 10 vp))
event-plain (Send vector mask) h =
    bound-plain _ _ (plain_by (codes "send") refl, (two_digits-plain vector, (digits-plain 16 mask, tt)))
    (omega (arith, digits-short 16 mask))

plain-written : (fields : List (List ℕ)) → FewPlain fields → IsWritten fields
plain-written [] h = absurd (omega (arith, h.some))
plain-written (f ∷ fields) h = written f fields h.plain (omega (arith, h.bound))

pages-plain : (g : Option ℕ) → IsPlain (pages_field g)
pages-plain None = plain_by (codes "sparse") refl
pages-plain (Some n) = digits-plain 10 n

pub board-written : (p : ℕ) (g : Option ℕ) (f : ℕ) → IsWritten (item_fields (Opening p g f))
board-written p None f =
    written _ _ (plain_by (codes "board") refl, (digits-plain 10 p, (pages-plain None, (digits-plain 10 f, tt))))
    (omega (arith, digits-short 10 p, digits-short 10 f))
board-written p (Some g) f =
    written _ _ (plain_by (codes "board") refl, (digits-plain 10 p, (pages-plain (Some g), (digits-plain 10 f, tt))))
    (omega (arith, digits-short 10 p, digits-short 10 g, digits-short 10 f))

item-written : (item : Item) → IsItem item → IsWritten (item_fields item)
item-written (Opening p g f) h = board-written p g f
item-written (Performs event) h = plain-written (event_fields event) (event-plain event h)
item-written Summary h = written _ _ (plain_by (codes "summary") refl, tt) (omega arith)

pub item-means : (item : Item) → IsItem item → Denotes (spaced (item_fields item)) item
item-means item h = record { fields = (item-written item h).read; fits = h }

pub event-read : (event : Event) → IsEvent event → item_at (spaced (event_fields event)) ≡ Some (Performs event)
event-read event h = (reading-means (spaced (event_fields event)) (Performs event)).1 (item-means (Performs event) h)
