-- The fields from which a piece is parsed are those of the piece.
use Rattle.std.proofs.Common.{◌≡◌, ℕ, ◌+◌, ◌*◌, ◌/◌, ◌%◌, ◌<◌, ◌^◌, Bool, true, false, List, [], ◌∷◌, ◌++◌, Option, Some, None, refl, sym, ap, ◌∙◌, arith, decimal, codes, take, drop}
use Rattle.std.specs.Prelude.{IfSome}
use Rattle.std.specs.Option.{option_and_then}
use Rattle.std.specs.Str.{bytes_eq}
use Rattle.std.proofs.lemmas.Slice.Eq.{bytes_eq-Decides}
use Rattle.std.proofs.lemmas.List.{take-append-drop}
use Rattle.text_base.specs.Numbers.{hex, decimal_at}
use Rattle.text_base.proofs.NumberLemmas.{decimal_at-only, hex_at-only}
use Rattle.board_terms.specs.Messages.{ticket_of}
use Rattle.board_terms.specs.Ranges.{HasMessageRanges}
use Rattle.board_terms.specs.declared.messages.Message.{Message}
use Rattle.board_terms.specs.declared.messages.Message.TheVariants.{FromPort, FromTimer}
use Rattle.board_terms.specs.declared.pages.Kind.{Kind}
use Rattle.board_terms.specs.declared.pages.Kind.TheVariants as kinds
use Rattle.lapic_core.specs.Vectors.{Vectors}
use Rattle.lapic_core.specs.Ranges.{AreVectors}
use Rattle.lapic_core.specs.Words.{from_words}
use Rattle.lapic_core.proofs.FromWords.{from_words-only}
use Rattle.synic_board.specs.declared.event.Event.{Event}
use Rattle.synic_board.specs.declared.event.Event.TheVariants.{OpenPort}
use Rattle.text_lines.specs.Reading.{Fields, u8_at, u64_at, hex_u32_at, hex_u64_at, bytes_at, parse_open}
use Rattle.text_lines.proofs.ByteFields.{bytes_at-only}
use Rattle.text_lines.proofs.ReadLemmas.{then-some, ended-some, yes, mapped, worded, u8-only, u64-only, hex_u32-only, hex_u64-only, event-says}
use Rattle.text_image.specs.Image.{words, status_word, source_name, kind_word, due_fields, origin_fields}
use Rattle.text_image.specs.declared.piece.Piece.{Piece}
use Rattle.text_image.specs.declared.piece.Piece.TheVariants as pieces
use Rattle.text_image.specs.Pieces.{overlay_name, piece_fields, IsPiece}
use Rattle.text_image.specs.Parsing.{read_then, hex_u8_at, status_at, read_vectors, source_at, offset_at, kind_at, block_at, port_piece, read_timer, parse_moment, parse_lapic, parse_control, parse_overlay, parse_source, parse_named, parse_register, parse_guest, parse_own, parse_port, parse_deadline, parse_due, parse_timer, parse_posted, parse_expired, parse_origin, parse_message, parse_slot, parse_end, parse_piece}
use Rattle.text_image.proofs.BlockLemmas.{block-only}

pub record Says (fields : Fields) (piece : Piece) : Type 0 where
  pub same : fields ≡ piece_fields piece
  pub fits : IsPiece piece

-- What is parsed first determines the fields before the rest.
read-some : {A B : Type 0} (read : Fields → Option (B × Fields)) (next : B → Fields → Option A) (fields : Fields)
    (a : A) (P : Type 0) →
    ((b : B) (rest : Fields) → read fields ≡ Some (b, rest) → next b rest ≡ Some a → P)
    → read_then read next fields ≡ Some a → P
read-some {A} {B} read next fields a P k e = go (read fields) refl e
  where
    go : (r : Option (B × Fields)) → read fields ≡ r → option_and_then (λ (p : B × Fields). next p.0 p.1) r ≡ Some a → P
    go None is e = cc
    go (Some p) is e = k p.0 p.1 is e

is-word : (text key : List ℕ) → bytes_eq text key ≡ true → text ≡ key
is-word text key is = (bytes_eq-Decides text key).0 is

hex_u8-only : (text : List ℕ) (n : ℕ) → hex_u8_at text ≡ Some n → (n < 256) × (text ≡ hex n)
hex_u8-only text n e = let h = hex_at-only 255 text n e in let bound = h.0 in (omega arith, h.1)

moment-says : (fs : Fields) (piece : Piece) → parse_moment fs ≡ Some piece → Says (codes "moment" ∷ fs) piece
moment-says fs piece =
    then-some u64_at _ fs piece (Says (codes "moment" ∷ fs) piece) (λ a moment more at read.
    ended-some (pieces.Moment moment) more piece (Says (codes "moment" ∷ fs) piece) (λ none is.
    let h = u64-only a moment read in
    rw (at, none, h.1, ← is) (record { same = refl; fits = h.0 })))

-- A local APIC.
status-only : (text : List ℕ) (suspended : Bool) → status_at text ≡ Some suspended → text ≡ status_word suspended
status-only text suspended =
    yes (bytes_eq text (codes "suspended")) (Some true) _ suspended (text ≡ status_word suspended)
    (λ is e. let same : true ≡ suspended = cc in rw (← same) (is-word text (codes "suspended") is))
    (yes (bytes_eq text (codes "running")) (Some false) None suspended (text ≡ status_word suspended)
    (λ is e. let same : false ≡ suspended = cc in rw (← same) (is-word text (codes "running") is)) (λ e. cc))

record HaveVectors (fields : Fields) (vectors : Vectors) (rest : Fields) : Type 0 where
  same : fields ≡ words vectors ++ rest
  all : AreVectors vectors

vectors-only : (fs : Fields) (vectors : Vectors) (rest : Fields) → read_vectors fs ≡ Some (vectors, rest)
    → HaveVectors fs vectors rest
vectors-only fs vectors rest =
    then-some hex_u64_at _ fs (vectors, rest) (HaveVectors fs vectors rest) (λ t a more at read.
    then-some hex_u64_at _ more (vectors, rest) (HaveVectors fs vectors rest) (λ t' b more' at' read'.
    then-some hex_u64_at _ more' (vectors, rest) (HaveVectors fs vectors rest) (λ t'' c more'' at'' read''.
    then-some hex_u64_at _ more'' (vectors, rest) (HaveVectors fs vectors rest) (λ t3 d more3 at3 read3.
    mapped (λ (v : Vectors). (v, more3)) (from_words (a ∷ b ∷ c ∷ d ∷ [])) (vectors, rest)
    (HaveVectors fs vectors rest) (λ v made is.
    let h = hex_u64-only t a read in let h' = hex_u64-only t' b read' in let h'' = hex_u64-only t'' c read'' in
    let h3 = hex_u64-only t3 d read3 in
    let w = from_words-only v a b c d h.0 h'.0 h''.0 h3.0 made in
    let same : v ≡ vectors = ap (λ (p : Vectors × Fields). p.0) is in
    let left : more3 ≡ rest = ap (λ (p : Vectors × Fields). p.1) is in
    rw (at, at', at'', at3, h.1, h'.1, h''.1, h3.1, w.first, w.second, w.third, w.fourth, ← same, ← left)
    (record { same = refl; all = w.vectors }))))))

lapic-says : (fs : Fields) (piece : Piece) → parse_lapic fs ≡ Some piece → Says (codes "lapic" ∷ fs) piece
lapic-says fs piece =
    then-some u8_at _ fs piece (Says (codes "lapic" ∷ fs) piece) (λ a vp more at read.
    read-some read_vectors _ more piece (Says (codes "lapic" ∷ fs) piece) (λ requested more' at'.
    read-some read_vectors _ more' piece (Says (codes "lapic" ∷ fs) piece) (λ in_service more'' at''.
    then-some hex_u8_at _ more'' piece (Says (codes "lapic" ∷ fs) piece) (λ b priority more3 at3 read3.
    then-some status_at _ more3 piece (Says (codes "lapic" ∷ fs) piece) (λ c suspended more4 at4 read4.
    ended-some (pieces.Lapic vp
    (record {
      requested = requested;
      in_service = in_service;
      task_priority = priority;
      suspended = suspended;
    })) more4 piece (Says (codes "lapic" ∷ fs) piece) (λ none is.
    let h = u8-only a vp read in let v = vectors-only more requested more' at' in
    let w = vectors-only more' in_service more'' at'' in let h3 = hex_u8-only b priority read3 in
    rw (at, v.same, w.same, at3, at4, none, h.1, h3.1, status-only c suspended read4, ← is)
    (record { same = refl; fits = (h.0, (v.all, w.all, h3.0)) })))))))

-- A register.
control-says : (vp : ℕ) → vp < 256 → (fs : Fields) (piece : Piece) → parse_control vp fs ≡ Some piece
    → Says (codes "register" ∷ decimal vp ∷ codes "scontrol" ∷ fs) piece
control-says vp in_range fs piece =
    then-some hex_u64_at _ fs piece (Says (codes "register" ∷ decimal vp ∷ codes "scontrol" ∷ fs) piece)
    (λ a value more at read.
    ended-some (pieces.Control vp value) more piece
    (Says (codes "register" ∷ decimal vp ∷ codes "scontrol" ∷ fs) piece) (λ none is.
    let h = hex_u64-only a value read in
    rw (at, none, h.1, ← is) (record { same = refl; fits = (in_range, h.0) })))

overlay-says : (vp : ℕ) → vp < 256 → (kind : Kind) (fs : Fields) (piece : Piece)
    → parse_overlay vp kind fs ≡ Some piece → Says (codes "register" ∷ decimal vp ∷ overlay_name kind ∷ fs) piece
overlay-says vp in_range kind fs piece =
    then-some hex_u64_at _ fs piece (Says (codes "register" ∷ decimal vp ∷ overlay_name kind ∷ fs) piece)
    (λ a value more at read.
    ended-some (pieces.Overlay vp kind value) more piece
    (Says (codes "register" ∷ decimal vp ∷ overlay_name kind ∷ fs) piece) (λ none is.
    let h = hex_u64-only a value read in
    rw (at, none, h.1, ← is) (record { same = refl; fits = (in_range, h.0) })))

source-only : (text : List ℕ) (sint : ℕ) → source_at text ≡ Some sint → (sint < 16) × (text ≡ source_name sint)
source-only text sint =
    yes (bytes_eq (take 4 text) (codes "sint")) (decimal_at 15 (drop 4 text)) None sint
    ((sint < 16) × (text ≡ source_name sint))
    (λ is e. let h = decimal_at-only 15 (drop 4 text) sint e in let bound = h.0 in
    (omega arith, sym (take-append-drop 4 text) ∙ (λ i. is-word (take 4 text) (codes "sint") is i ++ h.1 i))) (λ e. cc)

source-says : (vp : ℕ) → vp < 256 → (fs : Fields) (piece : Piece) → parse_source vp fs ≡ Some piece
    → Says (codes "register" ∷ decimal vp ∷ fs) piece
source-says vp in_range fs piece =
    then-some source_at _ fs piece (Says (codes "register" ∷ decimal vp ∷ fs) piece) (λ a sint more at read.
    then-some hex_u64_at _ more piece (Says (codes "register" ∷ decimal vp ∷ fs) piece) (λ b value more' at' read'.
    ended-some (pieces.Source vp sint value) more' piece (Says (codes "register" ∷ decimal vp ∷ fs) piece) (λ none is.
    let h = source-only a sint read in let h' = hex_u64-only b value read' in
    rw (at, at', none, h.1, h'.1, ← is) (record { same = refl; fits = (in_range, h.0, h'.0) }))))

named-says : (vp : ℕ) → vp < 256 → (fs : Fields) (piece : Piece) → parse_named vp fs ≡ Some piece
    → Says (codes "register" ∷ decimal vp ∷ fs) piece
named-says vp in_range [] piece e = cc
named-says vp in_range (name ∷ fs) piece e =
    yes (bytes_eq name (codes "scontrol")) (parse_control vp fs) _ piece
    (Says (codes "register" ∷ decimal vp ∷ name ∷ fs) piece)
    (λ is e. worded (λ w. Says (codes "register" ∷ decimal vp ∷ w ∷ fs) piece) name (codes "scontrol") is
    (control-says vp in_range fs piece e))
    (yes (bytes_eq name (codes "siefp")) (parse_overlay vp kinds.Sief fs) _ piece
    (Says (codes "register" ∷ decimal vp ∷ name ∷ fs) piece)
    (λ is e. worded (λ w. Says (codes "register" ∷ decimal vp ∷ w ∷ fs) piece) name (codes "siefp") is
    (overlay-says vp in_range kinds.Sief fs piece e))
    (yes (bytes_eq name (codes "simp")) (parse_overlay vp kinds.Sim fs) _ piece
    (Says (codes "register" ∷ decimal vp ∷ name ∷ fs) piece)
    (λ is e. worded (λ w. Says (codes "register" ∷ decimal vp ∷ w ∷ fs) piece) name (codes "simp") is
    (overlay-says vp in_range kinds.Sim fs piece e))
    (source-says vp in_range (name ∷ fs) piece))) e

register-says : (fs : Fields) (piece : Piece) → parse_register fs ≡ Some piece → Says (codes "register" ∷ fs) piece
register-says fs piece =
    then-some u8_at parse_named fs piece (Says (codes "register" ∷ fs) piece) (λ a vp more at read said.
    let h = u8-only a vp read in
    rw (at, h.1) (named-says vp h.0 more piece said))

-- The bytes of a page.
offset-only : (text : List ℕ) (n : ℕ) → offset_at text ≡ Some n → (n < 4096) × (text ≡ hex n)
offset-only text n e = let h = hex_at-only 4095 text n e in let bound = h.0 in (omega arith, h.1)

kind-only : (text : List ℕ) (kind : Kind) → kind_at text ≡ Some kind → text ≡ kind_word kind
kind-only text kind =
    yes (bytes_eq text (codes "sim")) (Some kinds.Sim) _ kind (text ≡ kind_word kind)
    (λ is e. let same : kinds.Sim ≡ kind = cc in rw (← same) (is-word text (codes "sim") is))
    (yes (bytes_eq text (codes "sief")) (Some kinds.Sief) None kind (text ≡ kind_word kind)
    (λ is e. let same : kinds.Sief ≡ kind = cc in rw (← same) (is-word text (codes "sief") is)) (λ e. cc))

guest-says : (fs : Fields) (piece : Piece) → parse_guest fs ≡ Some piece → Says (codes "page" ∷ fs) piece
guest-says fs piece =
    then-some u8_at _ fs piece (Says (codes "page" ∷ fs) piece) (λ a page more at read.
    then-some offset_at _ more piece (Says (codes "page" ∷ fs) piece) (λ b offset more' at' read'.
    then-some block_at _ more' piece (Says (codes "page" ∷ fs) piece) (λ c bytes more'' at'' read''.
    ended-some (pieces.Guest page offset (record { items = bytes })) more'' piece (Says (codes "page" ∷ fs) piece)
    (λ none is.
    let h = u8-only a page read in let h' = offset-only b offset read' in let block = block-only c bytes read'' in
    rw (at, at', at'', none, h.1, h'.1, block.same, ← is)
    (record { same = refl; fits = (h.0, (h'.0, block.all, block.size)) })))))

own-says : (fs : Fields) (piece : Piece) → parse_own fs ≡ Some piece → Says (codes "own" ∷ fs) piece
own-says fs piece =
    then-some u8_at _ fs piece (Says (codes "own" ∷ fs) piece) (λ a vp more at read.
    then-some kind_at _ more piece (Says (codes "own" ∷ fs) piece) (λ b kind more' at' read'.
    then-some offset_at _ more' piece (Says (codes "own" ∷ fs) piece) (λ c offset more'' at'' read''.
    then-some block_at _ more'' piece (Says (codes "own" ∷ fs) piece) (λ d bytes more3 at3 read3.
    ended-some (pieces.Own vp kind offset (record { items = bytes })) more3 piece (Says (codes "own" ∷ fs) piece)
    (λ none is.
    let h = u8-only a vp read in let h'' = offset-only c offset read'' in let block = block-only d bytes read3 in
    rw (at, at', at'', at3, none, h.1, kind-only b kind read', h''.1, block.same, ← is)
    (record { same = refl; fits = (h.0, (h''.0, block.all, block.size)) }))))))

-- A port.
opened-says : (fs : Fields) (event : Event) → parse_open fs ≡ Some event → (piece : Piece)
    → port_piece event ≡ Some piece → Says (codes "open" ∷ fs) piece
opened-says fs (OpenPort port vp sint shape) said piece e =
    let h = event-says (codes "open" ∷ fs) (OpenPort port vp sint shape) said in
    let is : pieces.Port port vp sint shape ≡ piece = cc in
    rw (← is) (record { same = h.same; fits = h.fits })
opened-says fs _ said piece e = cc

port-says : (fs : Fields) (piece : Piece) → parse_port fs ≡ Some piece → Says (codes "open" ∷ fs) piece
port-says fs piece e = go (parse_open fs) refl e
  where
    go : (r : Option Event) → parse_open fs ≡ r → option_and_then port_piece r ≡ Some piece
        → Says (codes "open" ∷ fs) piece
    go None is e = cc
    go (Some event) is e = opened-says fs event is piece e

-- A timer.
record SaysDue (fields : Fields) (due : Option ℕ) : Type 0 where
  same : fields ≡ due_fields due
  fits : IfSome due (λ d. d < 2 ^ 128)

deadline-says : (fs : Fields) (due : Option ℕ) → parse_deadline fs ≡ Some due → SaysDue (codes "due" ∷ fs) due
deadline-says fs due =
    then-some hex_u64_at _ fs due (SaysDue (codes "due" ∷ fs) due) (λ a high more at read.
    then-some hex_u64_at _ more due (SaysDue (codes "due" ∷ fs) due) (λ b low more' at' read'.
    ended-some (Some (high * 2 ^ 64 + low)) more' due (SaysDue (codes "due" ∷ fs) due) (λ none is.
    let h = hex_u64-only a high read in let h' = hex_u64-only b low read' in
    rw (at, at', none, h.1, h'.1, ← is) (halves high low h.0 h'.0))))
  where
    halves : (high low : ℕ) → high < 2 ^ 64 → low < 2 ^ 64
        → SaysDue (codes "due" ∷ hex high ∷ hex low ∷ []) (Some (high * 2 ^ 64 + low))
    halves high low h k =
        let first : high ≡ (high * 2 ^ 64 + low) / 2 ^ 64 = omega arith in
        let second : low ≡ (high * 2 ^ 64 + low) % 2 ^ 64 = omega arith in
        record { same = (λ i. codes "due" ∷ hex (first i) ∷ hex (second i) ∷ []); fits = omega arith }

due-says : (fs : Fields) (due : Option ℕ) → parse_due fs ≡ Some due → SaysDue fs due
due-says [] due e = cc
due-says (word ∷ fs) due e =
    yes (bytes_eq word (codes "stopped")) _ _ due (SaysDue (word ∷ fs) due)
    (λ is e. worded (λ w. SaysDue (w ∷ fs) due) word (codes "stopped") is
    (ended-some None fs due (SaysDue (codes "stopped" ∷ fs) due)
    (λ none same. rw (none, ← same) (record { same = refl; fits = tt })) e))
    (yes (bytes_eq word (codes "due")) (parse_deadline fs) None due (SaysDue (word ∷ fs) due)
    (λ is e. worded (λ w. SaysDue (w ∷ fs) due) word (codes "due") is (deadline-says fs due e)) (λ e. cc)) e

timer-says : (fs : Fields) (piece : Piece) → parse_timer fs ≡ Some piece → Says (codes "timer" ∷ fs) piece
timer-says fs piece =
    then-some u8_at _ fs piece (Says (codes "timer" ∷ fs) piece) (λ a vp more at read.
    then-some u8_at _ more piece (Says (codes "timer" ∷ fs) piece) (λ b index more' at' read'.
    then-some hex_u64_at _ more' piece (Says (codes "timer" ∷ fs) piece) (λ c config more'' at'' read''.
    then-some hex_u64_at _ more'' piece (Says (codes "timer" ∷ fs) piece) (λ d count more3 at3 read3.
    mapped (pieces.Timer vp index config count) (parse_due more3) piece (Says (codes "timer" ∷ fs) piece)
    (λ due said is.
    let h = u8-only a vp read in let h' = u8-only b index read' in let h'' = hex_u64-only c config read'' in
    let h3 = hex_u64-only d count read3 in
    let said_due = due-says more3 due said in
    rw (at, at', at'', at3, h.1, h'.1, h''.1, h3.1, said_due.same, ← is)
    (record { same = refl; fits = (h.0, h'.0, h''.0, h3.0, said_due.fits) }))))))

-- A message.
record SaysOrigin (ticket : ℕ) (fields : Fields) (message : Message) : Type 0 where
  same : fields ≡ origin_fields message
  of : ticket ≡ ticket_of message
  fits : HasMessageRanges message

posted-says : (ticket : ℕ) → ticket < 2 ^ 64 → (fs : Fields) (message : Message)
    → parse_posted ticket fs ≡ Some message → SaysOrigin ticket (codes "port" ∷ fs) message
posted-says ticket in_range fs message =
    then-some u8_at _ fs message (SaysOrigin ticket (codes "port" ∷ fs) message) (λ a port more at read.
    then-some hex_u32_at _ more message (SaysOrigin ticket (codes "port" ∷ fs) message) (λ b kind more' at' read'.
    then-some (bytes_at 240) _ more' message (SaysOrigin ticket (codes "port" ∷ fs) message)
    (λ c payload more'' at'' read''.
    ended-some (FromPort ticket port kind (record { items = payload })) more'' message
    (SaysOrigin ticket (codes "port" ∷ fs) message) (λ none is.
    let h = u8-only a port read in let h' = hex_u32-only b kind read' in let h'' = bytes_at-only 240 c payload read'' in
    rw (at, at', at'', none, h.1, h'.1, h''.same, ← is)
    (record { same = refl; of = refl; fits = (in_range, h.0, h'.0, h''.bound.0, h''.bound.1) })))))

record HasTimer (fields : Fields) (timer : ℕ × ℕ) (rest : Fields) : Type 0 where
  same : fields ≡ decimal timer.0 ∷ decimal timer.1 ∷ rest
  vp : timer.0 < 64
  index : timer.1 < 4

timer-only : (fs : Fields) (timer : ℕ × ℕ) (rest : Fields) → read_timer fs ≡ Some (timer, rest) → HasTimer fs timer rest
timer-only fs timer rest =
    then-some (decimal_at 63) _ fs (timer, rest) (HasTimer fs timer rest) (λ a vp more at read.
    then-some (decimal_at 3) _ more (timer, rest) (HasTimer fs timer rest) (λ b index more' at' read' e.
    let h = decimal_at-only 63 a vp read in let h' = decimal_at-only 3 b index read' in
    let fields : fs ≡ decimal vp ∷ decimal index ∷ more' = rw (at, at', h.1, h'.1) refl in
    let is : ((vp, index), more') ≡ (timer, rest) = cc in
    let same_vp : vp ≡ timer.0 = ap (λ (p : (ℕ × ℕ) × Fields). p.0.0) is in
    let same_index : index ≡ timer.1 = ap (λ (p : (ℕ × ℕ) × Fields). p.0.1) is in
    record {
      same = fields ∙ ap (λ (p : (ℕ × ℕ) × Fields). decimal p.0.0 ∷ decimal p.0.1 ∷ p.1) is;
      vp = omega (arith, h.0, same_vp);
      index = omega (arith, h'.0, same_index);
    }))

expired-says : (ticket : ℕ) → ticket < 2 ^ 64 → (fs : Fields) (message : Message)
    → parse_expired ticket fs ≡ Some message → SaysOrigin ticket (codes "timer" ∷ fs) message
expired-says ticket in_range fs message =
    read-some read_timer _ fs message (SaysOrigin ticket (codes "timer" ∷ fs) message) (λ timer more at.
    then-some u64_at _ more message (SaysOrigin ticket (codes "timer" ∷ fs) message) (λ a expiration more' at' read'.
    ended-some (FromTimer ticket timer expiration) more' message (SaysOrigin ticket (codes "timer" ∷ fs) message)
    (λ none is.
    let h = timer-only fs timer more at in let h' = u64-only a expiration read' in
    rw (h.same, at', none, h'.1, ← is) (record { same = refl; of = refl; fits = (in_range, h.vp, h.index, h'.0) }))))

origin-says : (ticket : ℕ) → ticket < 2 ^ 64 → (fs : Fields) (message : Message)
    → parse_origin ticket fs ≡ Some message → SaysOrigin ticket fs message
origin-says ticket in_range [] message e = cc
origin-says ticket in_range (word ∷ fs) message e =
    yes (bytes_eq word (codes "port")) (parse_posted ticket fs) _ message (SaysOrigin ticket (word ∷ fs) message)
    (λ is e. worded (λ w. SaysOrigin ticket (w ∷ fs) message) word (codes "port") is
    (posted-says ticket in_range fs message e))
    (yes (bytes_eq word (codes "timer")) (parse_expired ticket fs) None message (SaysOrigin ticket (word ∷ fs) message)
    (λ is e. worded (λ w. SaysOrigin ticket (w ∷ fs) message) word (codes "timer") is
    (expired-says ticket in_range fs message e)) (λ e. cc)) e

message-says : (fs : Fields) (piece : Piece) → parse_message fs ≡ Some piece → Says (codes "message" ∷ fs) piece
message-says fs piece =
    then-some u8_at _ fs piece (Says (codes "message" ∷ fs) piece) (λ a vp more at read.
    then-some u8_at _ more piece (Says (codes "message" ∷ fs) piece) (λ b sint more' at' read'.
    then-some u64_at _ more' piece (Says (codes "message" ∷ fs) piece) (λ c ticket more'' at'' read''.
    mapped (pieces.Queued vp sint) (parse_origin ticket more'') piece (Says (codes "message" ∷ fs) piece)
    (λ message said is.
    let h = u8-only a vp read in let h' = u8-only b sint read' in let h'' = u64-only c ticket read'' in
    let origin = origin-says ticket h''.0 more'' message said in
    rw (at, at', at'', h.1, h'.1, h''.1, origin.of, origin.same, ← is)
    (record { same = refl; fits = (h.0, h'.0, origin.fits) })))))

slot-says : (fs : Fields) (piece : Piece) → parse_slot fs ≡ Some piece → Says (codes "slot" ∷ fs) piece
slot-says fs piece =
    then-some u8_at _ fs piece (Says (codes "slot" ∷ fs) piece) (λ a vp more at read.
    then-some u8_at _ more piece (Says (codes "slot" ∷ fs) piece) (λ b sint more' at' read'.
    then-some u64_at _ more' piece (Says (codes "slot" ∷ fs) piece) (λ c ticket more'' at'' read''.
    ended-some (pieces.Slot vp sint ticket) more'' piece (Says (codes "slot" ∷ fs) piece) (λ none is.
    let h = u8-only a vp read in let h' = u8-only b sint read' in let h'' = u64-only c ticket read'' in
    rw (at, at', at'', none, h.1, h'.1, h''.1, ← is) (record { same = refl; fits = (h.0, h'.0, h''.0) })))))

end-says : (fs : Fields) (piece : Piece) → parse_end fs ≡ Some piece → Says (codes "end" ∷ fs) piece
end-says fs piece =
    ended-some pieces.End fs piece (Says (codes "end" ∷ fs) piece)
    (λ none is. rw (none, ← is) (record { same = refl; fits = tt }))

pub piece-says : (fs : Fields) (piece : Piece) → parse_piece fs ≡ Some piece → Says fs piece
piece-says [] piece e = cc
piece-says (word ∷ fs) piece e =
    yes (bytes_eq word (codes "moment")) (parse_moment fs) _ piece (Says (word ∷ fs) piece)
    (λ is e. worded (λ w. Says (w ∷ fs) piece) word (codes "moment") is (moment-says fs piece e))
    (yes (bytes_eq word (codes "lapic")) (parse_lapic fs) _ piece (Says (word ∷ fs) piece)
    (λ is e. worded (λ w. Says (w ∷ fs) piece) word (codes "lapic") is (lapic-says fs piece e))
    (yes (bytes_eq word (codes "register")) (parse_register fs) _ piece (Says (word ∷ fs) piece)
    (λ is e. worded (λ w. Says (w ∷ fs) piece) word (codes "register") is (register-says fs piece e))
    (yes (bytes_eq word (codes "page")) (parse_guest fs) _ piece (Says (word ∷ fs) piece)
    (λ is e. worded (λ w. Says (w ∷ fs) piece) word (codes "page") is (guest-says fs piece e))
    (yes (bytes_eq word (codes "own")) (parse_own fs) _ piece (Says (word ∷ fs) piece)
    (λ is e. worded (λ w. Says (w ∷ fs) piece) word (codes "own") is (own-says fs piece e))
    (yes (bytes_eq word (codes "open")) (parse_port fs) _ piece (Says (word ∷ fs) piece)
    (λ is e. worded (λ w. Says (w ∷ fs) piece) word (codes "open") is (port-says fs piece e))
    (yes (bytes_eq word (codes "timer")) (parse_timer fs) _ piece (Says (word ∷ fs) piece)
    (λ is e. worded (λ w. Says (w ∷ fs) piece) word (codes "timer") is (timer-says fs piece e))
    (yes (bytes_eq word (codes "message")) (parse_message fs) _ piece (Says (word ∷ fs) piece)
    (λ is e. worded (λ w. Says (w ∷ fs) piece) word (codes "message") is (message-says fs piece e))
    (yes (bytes_eq word (codes "slot")) (parse_slot fs) _ piece (Says (word ∷ fs) piece)
    (λ is e. worded (λ w. Says (w ∷ fs) piece) word (codes "slot") is (slot-says fs piece e))
    (yes (bytes_eq word (codes "end")) (parse_end fs) None piece (Says (word ∷ fs) piece)
    (λ is e. worded (λ w. Says (w ∷ fs) piece) word (codes "end") is (end-says fs piece e)) (λ e. cc)))))))))) e
